-- What a source sends and asks of its feed with one action more, and how long is to wait.
use Rattle.std.proofs.Common.{◌≡◌, ◌≢◌, ℕ, zero, suc, ◌+◌, ◌-◌, ◌*◌, ◌%◌, ◌≤◌, List, [], ◌∷◌, ◌++◌, length, take, drop}
use Rattle.std.proofs.Common.{replicate, refl, ◌∙◌, ap, ap₂, arith, ◌/◌, true, sym, ◌<◌, subst, append_assoc}
use Rattle.std.proofs.Common.{length-append, append-nil}
use Rattle.std.specs.List.{concat, fold}
use Rattle.std.proofs.lemmas.List.Sums.{fold-append}
use Rattle.std.proofs.lemmas.List.{length-drop, drop-append-le, take-append-le}
use Rattle.member_au4.specs.declared.au4_pointer.au_frame.Action.{Action}
use Rattle.member_au4.specs.declared.au4_pointer.au_frame.Action.TheVariants.{Keep, New}
use Rattle.member_au4.specs.au4_pointer.PointerWord.{next_value, next_wait, value_after, new_wait, word_of}
use Rattle.member_au4.specs.au4_pointer.StreamPart.{AreVcs, Part, octets_of, begun, next_part, first_part, part_after}
use Rattle.member_au4.specs.au4_pointer.StreamPart.{flow}
use Rattle.member_au4.specs.au4_pointer.Source.{framed, frame_in, frame_after, Source, was_sent, PointerSourceStands}
use Rattle.member_au4.specs.au4_pointer.Source.{Sends, Writes, due, IsValid, h3_of, body_of, last_octets, Asks}
use Rattle.member_au4.specs.au4_pointer.Source.{Refills}
use Rattle.member_au4.specs.au4_pointer.SentFrames.{sent_from, sent}
use Rattle.member_au4.proofs.VcsOfStreamPartLaws.{length-flow, flow-more, begun-after, Further, further}
use Rattle.std.proofs.lemmas.List.Elements.{All-append, All-nil}
use Rattle.law_model.specs.Common.{Start}
use Rattle.std.proofs.lemmas.List.Folds.{concat-append}

-- ---- The frames of actions, one action more; where VC-4s begin; how long is to wait.
-- ---- frames
fits-in : (part : Part) (a : Action) → octets_of a ≤ (next_part part a).size
fits-in part Keep = omega arith
fits-in part a = omega arith

-- more VC-4s change nothing of a frame
frame-stays : (value : ℕ) (part : Part) (a : Action) (asked more : List (List ℕ)) → AreVcs asked
    → begun (next_part part a) ≤ length asked → frame_in value part a (asked ++ more) ≡ frame_in value part a asked
frame-stays value part a asked more are enough =
    let p = next_part part a in
    let m = octets_of a in
    let n = p.size - m in
    let here = flow p asked in
    let fits = fits-in part a in
    let long : p.size ≤ length here = omega (arith, length-flow p asked are, enough) in
    ap (λ l. framed value a (take m (drop n l))) (flow-more p asked more (omega (arith, enough)))
    ∙ ap (λ l. framed value a (take m l)) (drop-append-le n here (concat more) (omega (arith, long)))
    ∙ ap (λ l. framed value a l) (take-append-le m (drop n here) (concat more)
    (omega (arith, long, fits, length-drop n here)))

sent-more-from : (value : ℕ) (part : Part) (actions : List Action) (a : Action) (asked more : List (List ℕ))
    → AreVcs asked → begun (fold next_part part actions) ≤ length asked
    → sent_from value part (actions ++ a ∷ []) (asked ++ more) ≡ sent_from value part actions asked
    ++ frame_in (fold next_value value actions) (fold next_part part actions) a (asked ++ more) ∷ []
sent-more-from value part [] a asked more are enough = refl
sent-more-from value part (b ∷ actions) a asked more are enough =
    ap₂ (λ x l. x ∷ l) (frame-stays value part b asked more are
    (omega (arith, enough, begun-after (next_part part b) actions)))
    (sent-more-from (next_value value b) (next_part part b) actions a asked more are enough)

pub sent-more : (start : ℕ) (actions : List Action) (a : Action) (asked more : List (List ℕ)) → AreVcs asked
    → begun (part_after start actions) ≤ length asked
    → sent start (actions ++ a ∷ []) (asked ++ more) ≡ sent start actions asked
    ++ frame_after start actions a (asked ++ more) ∷ []
sent-more start actions a asked more are enough = sent-more-from start
    (first_part start) actions a asked more are enough

-- ---- where VC-4s begin
place-next : (value : ℕ) (part : Part) (a : Action) → (3 * value + part.size) % 2349 ≡ 3 * part.value % 2349
    → (3 * next_value value a + (next_part part a).size) % 2349 ≡ 3 * (next_part part a).value % 2349
place-next value part (New p) e = omega arith
place-next value part a e = omega (arith, e)

place-from : (value : ℕ) (part : Part) (actions : List Action)
    → (3 * value + part.size) % 2349 ≡ 3 * part.value % 2349
    → (3 * fold next_value value actions + (fold next_part part actions).size) % 2349
    ≡ 3 * (fold next_part part actions).value % 2349
place-from value part [] e = e
place-from value part (a ∷ actions) e = place-from (next_value value a) (next_part part a) actions
    (place-next value part a e)

pub place-after : (start : ℕ) (actions : List Action)
    → (3 * value_after start actions + (part_after start actions).size) % 2349
    ≡ 3 * (part_after start actions).value % 2349
place-after start actions = place-from start (first_part start) actions (omega arith)

-- ---- how long is to wait
keeps : (w n : ℕ) → fold next_wait w (replicate n Keep) ≡ w - n
keeps w zero = (let e : w ≡ w - 0 = omega arith in e)
keeps w (suc n) = keeps (w - 1) n ∙ (let e : w - 1 - n ≡ w - suc n = omega arith in e)

three : (w : ℕ) (a : Action) → a ≢ Keep → next_wait w a ≡ 3
three w Keep h = absurd (h refl)
three w a h = refl

pub wait-behind : (before : List Action) (a : Action) (n : ℕ) → a ≢ Keep
    → new_wait (before ++ a ∷ replicate n Keep) ≡ 3 - n
wait-behind before a n h =
    fold-append next_wait 0 before (a ∷ replicate n Keep) ∙ ap (λ w. fold next_wait w (replicate n Keep))
    (three (new_wait before) a h) ∙ keeps 3 n

pub wait-none : (n : ℕ) → new_wait (replicate n Keep) ≡ 0
wait-none n = keeps 0 n ∙ (let e : 0 - n ≡ 0 = omega arith in e)

-- ---- What one frame does to what a source has sent.
sent-push : (actions : List Action) (a : Action) → true ≡ was_sent (actions ++ a ∷ [])
sent-push [] a = refl
sent-push (b ∷ actions) a = refl

module _ {F : Type 0} (stands : F → Start → List (List ℕ) → Type 0) (was : Source) (before now : F) (a : Action)
    (rest h3 body : List ℕ) (valid : IsValid a)
    (writes : Writes stands before now a was.rest rest h3 body) where
  step : (start : ℕ) (actions : List Action) (asked : List (List ℕ)) → PointerSourceStands was start actions asked
      → Further (next_part (part_after start actions) a) a (asked ++ writes.asks.vcs) writes.octets rest
  step start actions asked s =
      let part = part_after start actions in
      further part a asked writes.asks.vcs writes.octets rest valid s.vcs writes.asks.size s.count writes.size
      (writes.asks.sent ∙ ap (λ r. due r a ++ concat writes.asks.vcs) s.rest) writes.asks.needed

  pub sends : (word value wait : ℕ) → word ≡ word_of was.value a → value ≡ next_value was.value a
      → wait ≡ next_wait was.wait a
      → Sends stands was (record { value = value; wait = wait; sent = true; rest = rest }) before now a
      (record { word = word; h3 = h3; body = body })
  sends word value wait is_word is_value is_wait = record {
    vcs = writes.asks.vcs;
    fed = writes.asks.fed;
    is = λ start actions asked s.
        let octets = writes.octets in
        let last : octets ≡ last_octets (next_part (part_after start actions) a) a (asked ++ writes.asks.vcs) =
        (step start actions asked s).sent in
        ap (λ w. record { word = w; h3 = h3; body = body }) (is_word ∙ ap (λ v. word_of v a) s.value)
        ∙ ap₂ (λ x y. record { word = word_of (value_after start actions) a; h3 = x; body = y }) (writes.in_h3
        ∙ ap (h3_of a) last) (writes.in_body ∙ ap (body_of a) last);
    now_stands = λ start actions asked s.
        let next : part_after start (actions ++ a ∷ []) ≡ next_part (part_after start actions) a =
        fold-append next_part (first_part start) actions (a ∷ []) in
        let far = step start actions asked s in
        record {
          value = is_value ∙ ap (λ v. next_value v a) s.value ∙ sym (fold-append next_value start actions (a ∷ []));
          wait = is_wait ∙ ap (λ w. next_wait w a) s.wait ∙ sym (fold-append next_wait 0 actions (a ∷ []));
          sent = sent-push actions a;
          count = far.count ∙ ap (λ (p : Part). p.first + (p.size - 3 * p.value + 2348) / 2349) (sym next);
          vcs = All-append (λ vc. length vc ≡ 2349) asked writes.asks.vcs s.vcs writes.asks.size;
          rest = far.left ∙ ap (λ (p : Part). drop p.size (flow p (asked ++ writes.asks.vcs))) (sym next);
        };
  }

-- ---- What is asked of a feed, one after another.
module _ {F : Type 0} (stands : F → Start → List (List ℕ) → Type 0) where
  -- nothing is asked
  pub asks-none : (f : F) (due : List ℕ) → Asks stands f f due [] due
  asks-none f due = record {
    vcs = [];
    size = All-nil (λ vc. length vc ≡ 2349);
    fed = λ start asked h. subst (stands f start) (sym (append-nil asked)) h;
    sent = sym (append-nil due);
    needed = λ h. absurd (omega (arith, h));
  }

  few-more : (v w : List (List ℕ)) (due mid octets rest : List ℕ) → octets ++ rest ≡ mid ++ concat w
      → (0 < length v → length mid < 2349) → (0 < length w → length rest < 2349)
      → 0 < length (v ++ w) → length rest < 2349
  few-more v [] due mid octets rest sent one two h =
      let some : 0 < length v = omega (arith, h, length-append v []) in
      omega (arith, one some, ap length sent, length-append octets rest, ap length (append-nil mid))
  few-more v (x ∷ w) due mid octets rest sent one two h = two (omega arith)

  -- and then more
  pub asks-more : (f g h : F) (due mid rest first second : List ℕ) → Asks stands f g due first mid
      → Asks stands g h mid second rest → Asks stands f h due (first ++ second) rest
  asks-more f g h due mid rest first second one two = record {
    vcs = one.vcs ++ two.vcs;
    size = All-append (λ vc. length vc ≡ 2349) one.vcs two.vcs one.size two.size;
    fed = λ start asked given. subst (stands h start) (append_assoc asked one.vcs two.vcs)
        (two.fed start (asked ++ one.vcs) (one.fed start asked given));
    sent = append_assoc first second rest ∙ ap (λ l. first ++ l) two.sent
        ∙ sym (append_assoc first mid (concat two.vcs)) ∙ ap (λ l. l ++ concat two.vcs) one.sent
        ∙ append_assoc due (concat one.vcs) (concat two.vcs)
        ∙ ap (λ l. due ++ l) (sym (concat-append one.vcs two.vcs));
    needed = few-more one.vcs two.vcs due mid second rest two.sent one.needed two.needed;
  }

  -- octets are there, and some of them are sent
  pub asks-sent : (f g : F) (due there rest octets : List ℕ) → Refills stands f g due there → octets ++ rest ≡ there
      → 0 < length octets → Asks stands f g due octets rest
  asks-sent f g due there rest octets refills sent some = record {
    vcs = refills.vcs;
    size = refills.size;
    fed = refills.fed;
    sent = sent ∙ refills.there;
    needed = λ h. omega (arith, refills.few h, ap length sent, length-append octets rest, some);
  }
