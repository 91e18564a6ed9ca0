-- A sink follows what a source sends: it refuses no frame of accepted actions, and gives the whole VC-4s.
use Rattle.std.proofs.Common.{◌≡◌, ℕ, ◌+◌, ◌-◌, ◌*◌, ◌/◌, ◌≤◌, List, [], ◌∷◌, ◌++◌, length, take, drop, Some, None, Ok}
use Rattle.std.proofs.Common.{refl, sym, ◌∙◌, ap, ap₂, subst, arith, append_assoc}
use Rattle.std.specs.List.{flat_map, fold}
use Rattle.std.specs.Result.{result_err}
use Rattle.std.proofs.Math.Seq.{take-add, take-nil}
use Rattle.std.proofs.lemmas.List.{append-nil, take-append-drop, drop_all, same_from_push, length-append}
use Rattle.std.proofs.lemmas.List.Concat.{flat_map-append}
use Rattle.std.proofs.lemmas.List.Elements.{All-nil}
use Rattle.member_au4.specs.declared.au4_pointer.au_frame.Action.{Action}
use Rattle.member_au4.specs.declared.au4_pointer.au_frame.Action.TheVariants.{Keep, Down, New}
use Rattle.member_au4.specs.declared.au4_pointer.au_frame.AuFrame.{AuFrame}
use Rattle.member_au4.specs.au4_pointer.PointerWord.{next_value, word_of, reading, fault_after}
use Rattle.member_au4.specs.au4_pointer.StreamPart.{AreVcs, Part, begun, next_part, first_part, part_after, ended}
use Rattle.member_au4.specs.au4_pointer.StreamPart.{parts_from, flow, octets_of, ending, whole, ends}
use Rattle.member_au4.specs.au4_pointer.Source.{IsValid, framed, last_octets, frame_in, Source, Sends}
use Rattle.member_au4.specs.au4_pointer.Source.{PointerSourceStands}
use Rattle.member_au4.specs.au4_pointer.Sink.{data_of, vcs_in, Reception, given_by, value_behind, told, receive}
use Rattle.member_au4.specs.au4_pointer.Sink.{nothing, given, added, word_fault}
use Rattle.member_au4.specs.au4_pointer.SentFrames.{sent_from, sent, AreAccepted, AreTaken}
use Rattle.member_au4.proofs.VcsOfStreamPartLaws.{vcs-split, part-given, begun-more, begun-after}
use Rattle.member_au4.proofs.PointerWordLaws.{reads, reads-keep-first, reads-new-first, next-below, accepted-valid}
use Rattle.law_model.specs.Common.{Start}
use Rattle.member_au4.specs.au4_pointer.SourceToSink.{Carries}
use Rattle.member_au4.proofs.SourceSendSteps.{sent-more}
use Rattle.member_au4.proofs.SinkTakeGivesSteps.{grows}
use Rattle.member_au4.specs.au4_pointer.Sink as sink

-- ---- A sink follows what a source sends.
-- the data of a frame is what was put into it
pub data-of-framed : (value : ℕ) (a : Action) (octets : List ℕ) → data_of a (framed value a octets) ≡ octets
data-of-framed value Down octets = take-append-drop 3 octets
data-of-framed value a octets = refl

-- each is an action that a frame can have
abbrev pub AreValid : List Action → Type 0
AreValid [] = Unit {0}
AreValid (a ∷ actions) = IsValid a × AreValid actions

-- a sink refuses none of these frames, from what frames told on
abbrev pub TakenFrom : Reception → List AuFrame → Type 0
TakenFrom r [] = Unit {0}
TakenFrom r (frame ∷ frames) = (result_err (reading r.value frame.word) ≡ None) × TakenFrom (receive r frame) frames

-- what frames told fits a value and a part of VC-4s
pub record Follows (value : ℕ) (part : Part) (vcs : List (List ℕ)) (r : Reception) : Type 0 where
  pub says : r.value ≡ Some value
  pub begins_at : r.begin ≡ part.value
  pub octets : r.octets ≡ take part.size (flow part vcs)

-- one frame more
pub record Next (value : ℕ) (part : Part) (a : Action) (vcs : List (List ℕ)) (r : Reception) : Type 0 where
  pub taken : result_err (reading r.value (frame_in value part a vcs).word) ≡ None
  pub follows : Follows (next_value value a) (next_part part a) vcs (receive r (frame_in value part a vcs))
  pub before : (receive r (frame_in value part a vcs)).before ≡ r.before ++ flat_map (ending vcs) (ended part a)

pub longer : (n m : ℕ) (l : List ℕ) → take n l ++ take m (drop (n + m - m) l) ≡ take (n + m) l
longer n m l = ap (λ k. take n l ++ take m (drop k l)) (let e : n + m - m ≡ n = omega arith in e)
    ∙ sym (take-add n m l)

told-next : (value : ℕ) (part : Part) (a : Action) (vcs : List (List ℕ)) (r : Reception) → AreVcs vcs
    → begun part ≤ length vcs → Follows value part vcs r
    → let t = told r (frame_in value part a vcs) (Ok a) in Follows (next_value value a) (next_part part a) vcs t
    × (t.before ≡ r.before ++ flat_map (ending vcs) (ended part a))
told-next value part (New p) vcs r are enough f = (
  record { says = refl; begins_at = refl; octets = refl },
  ap (λ l. r.before ++ l) (ap₂ vcs_in f.begins_at f.octets ∙ part-given part vcs are enough
      ∙ sym (append-nil (ending vcs part))),
)
told-next value part a vcs r are enough f = (
  record {
    says = ap (λ v. value_behind v a) f.says;
    begins_at = f.begins_at;
    octets = ap₂ (λ l m. l ++ m) f.octets (data-of-framed value a (last_octets (next_part part a) a vcs))
        ∙ longer part.size (octets_of a) (flow part vcs);
  },
  sym (append-nil r.before),
)

next : (value : ℕ) (part : Part) (a : Action) (vcs : List (List ℕ)) (r : Reception) → value ≤ 782 → IsValid a
    → AreVcs vcs → begun part ≤ length vcs → Follows value part vcs r → Next value part a vcs r
next value part a vcs r small valid are enough f =
    let frame = frame_in value part a vcs in
    let read : reading r.value frame.word ≡ Ok a = ap (λ v. reading v (word_of value a)) f.says
    ∙ reads value a small valid in
    let t = told-next value part a vcs r are enough f in
    record {
      taken = ap result_err read;
      follows = subst (λ q. Follows (next_value value a) (next_part part a) vcs (told r frame q)) (sym read) t.0;
      before = ap (λ q. (told r frame q).before) read ∙ t.1;
    }

-- ---- all frames behind the first
pub record Ends (part : Part) (actions : List Action) (vcs : List (List ℕ)) (frames : List AuFrame)
    (r : Reception) : Type 0 where
  pub taken : TakenFrom r frames
  pub gives : given_by (fold receive r frames) ≡ r.before ++ flat_map (ending vcs) (parts_from part actions)

pub ends-with : (value : ℕ) (part : Part) (actions : List Action) (vcs : List (List ℕ)) (r : Reception) → value ≤ 782
    → AreValid actions → AreVcs vcs
    → begun (fold next_part part actions) ≤ length vcs → Follows value part vcs r
    → Ends part actions vcs (sent_from value part actions vcs) r
ends-with value part [] vcs r small valid are enough f = record {
  taken = tt;
  gives = ap (λ l. r.before ++ l) (ap₂ vcs_in f.begins_at f.octets ∙ part-given part vcs are enough
      ∙ sym (append-nil (ending vcs part)));
}
ends-with value part (a ∷ actions) vcs r small valid are enough f =
    let here : begun part ≤ length vcs = omega (
      arith,
      enough,
      begun-after (next_part part a) actions,
      begun-more part a,
    ) in
    let n = next value part a vcs r small valid.0 are here f in
    let q = receive r (frame_in value part a vcs) in
    let rest = ends-with (next_value value a) (next_part part a) actions vcs q
    (next-below value a small valid.0) valid.1 are enough n.follows in
    record {
      taken = (n.taken, rest.taken);
      gives = rest.gives ∙ ap (λ l. l ++ flat_map (ending vcs) (parts_from (next_part part a) actions)) n.before
          ∙ append_assoc r.before (flat_map (ending vcs) (ended part a))
          (flat_map (ending vcs) (parts_from (next_part part a) actions))
          ∙ ap (λ l. r.before ++ l)
          (sym (flat_map-append (ending vcs) (ended part a) (parts_from (next_part part a) actions)));
    }

-- ---- with the first frame
nothing-in : (begin : ℕ) → vcs_in begin [] ≡ []
nothing-in begin = vcs-split begin [] [] [] (All-nil (λ v. length v ≡ 2349)) (omega arith)
    (drop_all (3 * begin) [] (omega arith))

none-ends : (start : ℕ) (vcs : List (List ℕ)) → ending vcs (first_part start) ≡ []
none-ends start vcs = ap (λ n. take n (drop 0 vcs)) (let e : (0 - 3 * start) / 2349 ≡ 0 = omega arith in e)

whole-from : (start : ℕ) (actions : List Action) (vcs : List (List ℕ)) → start ≤ 782 → AreValid actions → AreVcs vcs
    → begun (part_after start actions) ≤ length vcs
    → ((a : Action) (more : List Action) → actions ≡ a ∷ more → fault_after [] a ≡ None)
    → Ends (first_part start) actions vcs (sent start actions vcs) nothing
whole-from start [] vcs small valid are enough first = record {
  taken = tt;
  gives = nothing-in 0 ∙ ap (λ l. l ++ []) (sym (none-ends start vcs));
}
whole-from start (Keep ∷ actions) vcs small valid are enough first =
    let part = first_part start in
    let frame = frame_in start part Keep vcs in
    let read : reading None frame.word ≡ Ok (New start) = reads-keep-first start small in
    let t = told nothing frame (Ok (New start)) in
    let f : Follows start (next_part part Keep) vcs t = record { says = refl; begins_at = refl; octets = refl } in
    let rest = ends-with start (next_part part Keep) actions vcs (receive nothing frame) small valid.1 are enough
    (subst (λ q. Follows start (next_part part Keep) vcs (told nothing frame q)) (sym read) f) in
    record {
      taken = (ap result_err read, rest.taken);
      gives = rest.gives ∙ ap (λ l. l ++ flat_map (ending vcs) (parts_from (next_part part Keep) actions))
          (ap (λ q. (told nothing frame q).before) read ∙ nothing-in 0);
    }
whole-from start (New p ∷ actions) vcs small valid are enough first =
    let part = first_part start in
    let frame = frame_in start part (New p) vcs in
    let read : reading None frame.word ≡ Ok (New p) = reads-new-first start p valid.0 in
    let t = told nothing frame (Ok (New p)) in
    let f : Follows p (next_part part (New p)) vcs t = record { says = refl; begins_at = refl; octets = refl } in
    let rest = ends-with p (next_part part (New p)) actions vcs (receive nothing frame) valid.0 valid.1 are enough
    (subst (λ q. Follows p (next_part part (New p)) vcs (told nothing frame q)) (sym read) f) in
    record {
      taken = (ap result_err read, rest.taken);
      gives = rest.gives ∙ ap (λ l. l ++ flat_map (ending vcs) (parts_from (next_part part (New p)) actions))
          (ap (λ q. (told nothing frame q).before) read ∙ nothing-in 0 ∙ sym (none-ends start vcs));
    }
whole-from start (a ∷ actions) vcs small valid are enough first = let e = first a actions refl in cc

-- ---- what the source accepts
valid-from : (before actions all : List Action) → AreAccepted all → all ≡ before ++ actions → AreValid actions
valid-from before [] all accepted is = tt
valid-from before (a ∷ actions) all accepted is = (
  accepted-valid before a (accepted before actions a is),
  valid-from (before ++ a ∷ []) actions all accepted (is ∙ sym (append_assoc before (a ∷ []) actions)),
)

taken-all : (r : Reception) (frames before more : List AuFrame) (frame : AuFrame) → TakenFrom r frames
    → frames ≡ before ++ frame ∷ more → result_err (reading (fold receive r before).value frame.word) ≡ None
taken-all r frames [] more frame taken is = (subst (TakenFrom r) is taken).0
taken-all r frames (x ∷ before) more frame taken is = taken-all (receive r x)
    (before ++ frame ∷ more) before more frame (subst (TakenFrom r) is taken).1 refl

pub all-whole : (start : ℕ) (actions : List Action) (vcs : List (List ℕ)) → start ≤ 782 → AreAccepted actions
    → AreVcs vcs → begun (part_after start actions) ≤ length vcs
    → given (sent start actions vcs) ≡ whole start actions vcs
all-whole start actions vcs small accepted are enough =
    (whole-from start actions vcs small (valid-from [] actions actions accepted refl) are enough
    (λ a more e. accepted [] more a e)).gives

pub all-taken : (start : ℕ) (actions : List Action) (vcs : List (List ℕ)) → start ≤ 782 → AreAccepted actions
    → AreVcs vcs → begun (part_after start actions) ≤ length vcs
    → AreTaken (sent start actions vcs)
all-taken start actions vcs small accepted are enough before more frame is =
    taken-all nothing (sent start actions vcs) before more frame
    (whole-from start actions vcs small (valid-from [] actions actions accepted refl) are enough
    (λ a more' e. accepted [] more' a e)).taken is

-- ---- What one frame does to a source and a sink.
-- ---- one action more is accepted
record Last {X : Type 0} (all : List X) : Type 0 where
  pub front : List X
  pub last : X
  pub is : all ≡ front ++ last ∷ []

last-of : {X : Type 0} (x : X) (xs : List X) → Last (x ∷ xs)
last-of x [] = record { front = []; last = x; is = refl }
last-of x (y ∷ ys) = let l = last-of y ys in record { front = x ∷ l.front; last = l.last; is = ap (λ r. x ∷ r) l.is }

pub accepted-more : (actions : List Action) (a : Action) → AreAccepted actions → fault_after actions a ≡ None
    → AreAccepted (actions ++ a ∷ [])
accepted-more actions a accepted ok before [] b is =
    let same = same_from_push actions before a b is in
    ap₂ fault_after (sym same.0) (sym same.1) ∙ ok
accepted-more actions a accepted ok before (c ∷ cs) b is =
    let l = last-of c cs in
    let all : actions ++ a ∷ [] ≡ (before ++ b ∷ l.front) ++ l.last ∷ [] = is ∙ ap (λ r. before ++ b ∷ r) l.is
    ∙ sym (append_assoc before (b ∷ l.front) (l.last ∷ [])) in
    accepted before l.front b (same_from_push actions (before ++ b ∷ l.front) a l.last all).0

module _ {F O : Type 0} (feeds : F → Start → List (List ℕ) → Type 0) (stands : O → Start → List (List ℕ) → Type 0)
    (was now : Source) (snk : sink.Sink) (feed asked_of : F) (out : O) (behind to : Start)
    (start : ℕ) (actions : List Action) (asked : List (List ℕ))
    (carries : Carries feeds stands was snk feed out behind to start actions asked) (a : Action) (frame : AuFrame)
    (ok : fault_after actions a ≡ None)
    (sends : Sends feeds was now feed asked_of a frame) where
  after' : PointerSourceStands now start (actions ++ a ∷ []) (asked ++ sends.vcs)
  after' = sends.now_stands start actions asked carries.sends

  accepted' : AreAccepted (actions ++ a ∷ [])
  accepted' = accepted-more actions a carries.accepted ok

  frames' : sent start (actions ++ a ∷ []) (asked ++ sends.vcs) ≡ sent start actions asked ++ frame ∷ []
  frames' =
      sent-more start actions a asked sends.vcs carries.sends.vcs (omega (arith, carries.sends.count))
      ∙ ap (λ f. sent start actions asked ++ f ∷ []) (sym (sends.is start actions asked carries.sends))

  -- the sink refuses no frame
  pub never-refused : word_fault (sent start actions asked) frame ≡ None
  never-refused =
      all-taken start (actions ++ a ∷ []) (asked ++ sends.vcs) carries.small accepted' (after').vcs
      (omega (arith, (after').count)) (sent start actions asked) [] frame frames'

  whole' : whole start actions asked ++ added (sent start actions asked) frame
      ≡ whole start (actions ++ a ∷ []) (asked ++ sends.vcs)
  whole' =
      ap (λ l. l ++ added (sent start actions asked) frame) (sym
      (all-whole start actions asked carries.small carries.accepted carries.sends.vcs
      (omega (arith, carries.sends.count))))
      ∙ sym (grows (sent start actions asked) frame) ∙ ap given (sym frames')
      ∙ all-whole start (actions ++ a ∷ []) (asked ++ sends.vcs) carries.small accepted' (after').vcs
      (omega (arith, (after').count))

  pub carried : (taken : sink.Sink) (given_to : O) → sink.PointerSinkStands taken (sent start actions asked ++ frame ∷ [])
      → ((t : Start) (vcs : List (List ℕ)) → stands out t vcs
      → stands given_to t (vcs ++ added (sent start actions asked) frame))
      → Carries feeds stands now taken asked_of given_to behind to start (actions ++ a ∷ []) (asked ++ sends.vcs)
  carried taken given_to holds gives = record {
    small = carries.small;
    accepted = accepted';
    sends = after';
    takes = subst (sink.PointerSinkStands taken) (sym frames') holds;
    fed = sends.fed behind asked carries.fed;
    given = subst (stands given_to to) whole' (gives to (whole start actions asked) carries.given);
  }

-- ---- before the first frame
no-action : (before after : List Action) (a : Action) → [] ≡ before ++ a ∷ after → ⊥
no-action before after a is = let e = ap length is in omega (arith, e, length-append before (a ∷ after))

none-whole : (start : ℕ) → whole start [] [] ≡ []
none-whole start = ap (λ l. l ++ []) (take-nil (ends (first_part start)))

pub first-carries : {F O : Type 0} (feeds : F → Start → List (List ℕ) → Type 0) (stands : O → Start → List (List ℕ)
    → Type 0) (was : Source) (snk : sink.Sink) (feed : F) (out : O) (behind to : Start)
    (start : ℕ) → start ≤ 782 → PointerSourceStands was start [] [] → sink.PointerSinkStands snk [] → feeds feed behind [] → stands out to []
    → Carries feeds stands was snk feed out behind to start [] []
first-carries feeds stands was snk feed out behind to start small sends takes fed given = record {
  small = small;
  accepted = λ before after a is. absurd (no-action before after a is);
  sends = sends;
  takes = takes;
  fed = fed;
  given = subst (stands out to) (sym (none-whole start)) given;
}
