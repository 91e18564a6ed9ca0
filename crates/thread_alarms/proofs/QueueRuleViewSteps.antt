-- The rule of the queue by each step, and the View of the log's pass after alarms got and posts joined.
use Rattle.std.proofs.Common.{◌≡◌, ◌≢◌, ◌⊎◌, inl, inr, ℕ, zero, suc, ◌+◌, ◌*◌, ◌<◌, ◌≤◌, List, [], ◌∷◌, ◌++◌, length}
use Rattle.std.proofs.Common.{set, refl, sym, ap, ap₂, ◌∙◌, subst, arith, append_assoc, length-append, map, slice_get}
use Rattle.std.proofs.Common.{Some}
use Rattle.std.proofs.lemmas.List.{append-nil, nil_from_length, length-set}
use mathlib.Core.Option.{Option, some, none, some-injective, some-ne-none}
use native.Mathlib.Decide.{dec_le, ℕ_discrete}
use lib.ListN.{get_elem?}
use Rattle.crossbeam_queue.specs.Fifo.{Pushes, Pops, Forks, Merges, Learns}
use Rattle.crossbeam_queue.proofs.Lists.{at_set}
use Rattle.thread_rings.specs.declared.alarm_kinds.Alarm.{Alarm}
use Rattle.thread_alarms.specs.declared.alarm_log.tagged_alarm.Tagged.{Tagged}
use Rattle.thread_alarms.specs.declared.alarm_log.queue_rule.Known.{Known}
use Rattle.thread_alarms.specs.declared.alarm_log.queue_rule.Heard.{Heard}
use Rattle.thread_alarms.specs.declared.alarm_log.queue_rule.View.{View}
use Rattle.thread_alarms.specs.declared.alarm_log.queue_rule.View.TheVariants.{Setting, Log, Post, Spent}
use Rattle.thread_alarms.specs.alarm_log.Alarms.{through, alarms_of}
use Rattle.thread_alarms.specs.alarm_log.Views.{nothing_heard, listening, and_made, new_post, and_put, and_got}
use Rattle.thread_alarms.specs.alarm_log.Views.{and_known, got_of, made_of, most_of, IsNew, AreApart, AreBelow}
use Rattle.thread_alarms.specs.alarm_log.Views.{AreHeard, IsHeard, IsHeld, heard_of, known_of, with_known}
use Rattle.thread_alarms.specs.alarm_log.Rule.{AreKnown, Fits, Delivers, Sets, Holds}
use Rattle.thread_alarms.proofs.AlarmsByPostAndLineLaws.{at_key, at_key-same, at_key-other, through-own, through-other}
use Rattle.thread_alarms.proofs.AlarmsByPostAndLineLaws.{through-append, room-through, room-less, alarms-append}
use Rattle.thread_alarms.proofs.AlarmsByPostAndLineLaws.{alarms-length, NotAmong, all-there}
use Rattle.thread_alarms.specs.declared.alarm_log.alarm_post.AlarmPost.{AlarmPost}
use Rattle.thread_alarms.specs.alarm_log.Posts.{number_of, put_by, kept_by, known_by}

-- ---- Each step keeps the rule of the queue.
-- ---- places in a list of views
at_end : (l : List View) (a b : View) (j : ℕ) → get_elem? (l ++ a ∷ []) j ≡ some b
    → (get_elem? l j ≡ some b) ⊎ ((j ≡ length l) × (a ≡ b))
at_end [] a b zero e = inr (refl, some-injective a b e)
at_end [] a b (suc j) e = absurd (some-ne-none b (sym e))
at_end (x ∷ xs) a b zero e = inl e
at_end (x ∷ xs) a b (suc j) e = elim (at_end xs a b j e) [
  | inl there ↦ inl there
  | inr last ↦ inr (ap suc last.0, last.1)
]

only : (a b : View) (j : ℕ) → get_elem? (a ∷ []) j ≡ some b → a ≡ b
only a b zero e = some-injective a b e
only a b (suc j) e = absurd (some-ne-none b (sym e))

only-set : (a b w : View) (j : ℕ) → get_elem? (a ∷ []) j ≡ some b → set (a ∷ []) j w ≡ w ∷ []
only-set a b w zero e = refl
only-set a b w (suc j) e = absurd (some-ne-none b (sym e))

abbrev count_in : View → ℕ
count_in (Setting n most posts) = n
count_in (Log h) = 0
count_in (Post n most posts put) = 0
count_in Spent = 0

abbrev NotSetting : View → Type 0
NotSetting (Setting n most posts) = ⊥
NotSetting (Log h) = Unit {0}
NotSetting (Post n most posts put) = Unit {0}
NotSetting Spent = Unit {0}

-- where there is one pass that sets the limit, there is no other
no-other : {items : List Tagged} {views : List View} (s : Sets items views) (pass : ℕ) (v : View) → NotSetting v
    → get_elem? views pass ≡ some v → ⊥
no-other s pass v other at =
    subst NotSetting
    (sym (only (Setting s.count s.limit s.posts) v pass (subst
    (λ vs. get_elem? vs pass ≡ some v) s.only at))) other

-- ---- what a pass knows, when another has made a step
others : (reader most posts : ℕ) (seat seat' : ℕ → Option ℕ) (sent : ℕ → List Alarm) (got got' : List Tagged) (j : ℕ)
    (u : View) → j ≢ reader
    → ((n : ℕ) → seat n ≡ some j → seat' n ≡ some j)
    → Fits reader most posts seat sent got j u → Fits reader most posts seat' sent got' j u
others reader most posts seat seat' sent got got' j (Setting n m c) apart keep f = f
others reader most posts seat seat' sent got got' j (Log h) apart keep f = absurd (apart f.0)
others reader most posts seat seat' sent got got' j (Post n m c put) apart keep f = (keep n f.0, f.1, f.2, f.3, f.4)
others reader most posts seat seat' sent got got' j Spent apart keep f = tt

known-put : (seat : ℕ → Option ℕ) (sent sent' : ℕ → List Alarm) → ((n : ℕ) → seat n ≡ none → sent' n ≡ sent n)
    → (ks : List Known) → AreKnown seat sent ks → AreKnown seat sent' ks
known-put seat sent sent' keep [] h = tt
known-put seat sent sent' keep (k ∷ ks) h = (h.0, keep k.from h.0 ∙ h.1, known-put seat sent sent' keep ks h.2)

others-put : (reader most posts pass : ℕ) (seat : ℕ → Option ℕ) (sent sent' : ℕ → List Alarm) (got : List Tagged)
    (j : ℕ) (u : View) → j ≢ pass
    → ((n : ℕ) → seat n ≢ some pass → sent' n ≡ sent n)
    → Fits reader most posts seat sent got j u → Fits reader most posts seat sent' got j u
others-put reader most posts pass seat sent sent' got j (Setting n m c) apart keep f = f
others-put reader most posts pass seat sent sent' got j (Log h) apart keep f =
    let free : (n : ℕ) → seat n ≡ none → sent' n ≡ sent n = λ n e. keep n (λ s. some-ne-none pass (sym s ∙ e)) in (
      f.0,
      f.1,
      f.2,
      (λ p above. ((f.3 p above).0, free p (f.3 p above).0 ∙ (f.3 p above).1)),
      known-put seat sent sent' free h.known f.4,
      f.5,
      f.6,
      f.7,
    )
others-put reader most posts pass seat sent sent' got j (Post n m c put) apart keep f =
    (f.0, f.1 ∙ sym (keep n (λ s. apart (some-injective j pass (sym f.0 ∙ s)))), f.2, f.3, f.4)
others-put reader most posts pass seat sent sent' got j Spent apart keep f = tt

-- ---- the limit is set
pub begins : Holds [] (Setting 0 0 0 ∷ [])
begins = inl (record { count = 0; limit = 0; posts = 0; only = refl; held = refl })

pub limits : (n pass : ℕ) (v : View) (x : Tagged) → v ≡ Setting 0 0 0
    → Pushes Holds n pass v x (λ w. w ≡ Setting 1 x.alarm.place x.alarm.line)
limits n pass v x is items views room h at = elim h [
  | inl s ↦
      let w = Setting 1 x.alarm.place x.alarm.line in
      let one = Setting s.count s.limit s.posts in
      let at' : get_elem? (one ∷ []) pass ≡ some v = subst (λ vs. get_elem? vs pass ≡ some v) s.only at in
      let count : s.count ≡ 0 = ap count_in (only one v pass at' ∙ is) in (
        w,
        inl (record {
          count = 1;
          limit = x.alarm.place;
          posts = x.alarm.line;
          only = ap (λ vs. set vs pass w) s.only ∙ only-set one v w pass at';
          held = let l = length-append items (x ∷ []) in let k = s.held in omega (arith, l, k, count);
        }),
        refl,
      )
  | inr d ↦ absurd (subst (Fits d.reader d.most d.posts d.seat d.sent d.got pass) is (d.fits pass v at))
]

fits-first : (most posts j : ℕ) (u : View) → get_elem? (Log (nothing_heard most posts) ∷ []) j ≡ some u
    → Fits 0 most posts (λ p. none) (λ p. []) [] j u
fits-first most posts zero u e =
    subst (Fits 0 most posts (λ p. none) (λ p. []) [] 0) (some-injective (Log (nothing_heard most posts)) u e) (
      refl,
      refl,
      refl,
      (λ p _. (refl, refl)),
      tt,
      tt,
      tt,
      refl,
    )
fits-first most posts (suc j) u e = absurd (some-ne-none u (sym e))

pub listens : (pass : ℕ) (v : View) (most posts : ℕ) → v ≡ Setting 1 most posts
    → Pops Holds pass v (λ x w. w ≡ listening v)
listens pass v most posts is x items views h at = elim h [
  | inl s ↦
      let w = Log (nothing_heard most posts) in
      let one = Setting s.count s.limit s.posts in
      let at' : get_elem? (one ∷ []) pass ≡ some v = subst (λ vs. get_elem? vs pass ≡ some v) s.only at in
      let count : s.count ≡ 1 = ap count_in (only one v pass at' ∙ is) in
      let empty : items ≡ [] = nil_from_length items (let k = s.held in omega (arith, k, count)) in
      let alone : set views pass w ≡ w ∷ [] = ap (λ vs. set vs pass w) s.only ∙ only-set one v w pass at' in
      let first : Delivers [] (w ∷ []) = record {
        reader = 0;
        most = most;
        posts = posts;
        seat = λ p. none;
        sent = λ p. [];
        got = [];
        order = λ p. refl;
        limit = λ p. omega arith;
        later = λ p above. refl;
        fits = λ j u e. fits-first most posts j u e;
      } in (
        w,
        inr (subst (λ l. Delivers l (set views pass w)) (sym empty) (subst (Delivers []) (sym alone) first)),
        sym (ap listening is),
      )
  | inr d ↦ absurd (subst (Fits d.reader d.most d.posts d.seat d.sent d.got pass) is (d.fits pass v at))
]

-- ---- a post is made
forks-log : (pass : ℕ) (h : Heard) → h.known ≡ [] → h.made < h.posts
    → Forks Holds pass (Log h) (and_made (Log h)) (new_post (Log h))
forks-log pass h fresh below items views holds at = elim holds [
  | inl s ↦ absurd (no-other s pass (Log h) tt at)
  | inr d ↦
      let left : View = Log (record h { made = h.made + 1 }) in
      let right : View = Post h.made h.most h.posts [] in
      let vs = set views pass left in
      let mine = d.fits pass (Log h) at in
      let free : d.seat h.made ≡ none = (mine.3 h.made (omega arith)).0 in
      let seat' : ℕ → Option ℕ = at_key h.made (some (length views)) d.seat in
      let apart : (j n : ℕ) → d.seat n ≡ some j → n ≢ h.made =
      λ j n e is. some-ne-none j (sym e ∙ ap d.seat is ∙ free) in
      inr (record {
        reader = d.reader;
        most = d.most;
        posts = d.posts;
        seat = seat';
        sent = d.sent;
        got = d.got;
        order = d.order;
        limit = d.limit;
        later = d.later;
        fits = λ j u e. elim (at_end vs right u j e) [
          | inl old ↦ elim (at_set views pass j left u old) [
            | inl (here, is) ↦ subst (λ (y : ℕ × View). Fits d.reader d.most d.posts seat' d.sent d.got y.0 y.1)
                (λ i. (sym here i, is i)) (
                  mine.0,
                  mine.1,
                  mine.2,
                  (λ p above. (
                    at_key-other h.made (some (length views)) d.seat p (λ e. omega (arith, above, e))
                        ∙ (mine.3 p (omega (arith, above))).0,
                    (mine.3 p (omega (arith, above))).1,
                  )),
                  subst (AreKnown seat' d.sent) (sym fresh) tt,
                  subst AreApart (sym fresh) tt,
                  subst (AreBelow (h.made + 1)) (sym fresh) tt,
                  mine.7,
                )
            | inr (other, is) ↦ others _ d.most _ d.seat seat' _ d.got d.got j u (λ r. other (r ∙ sym mine.0))
                (λ n e. at_key-other h.made (some (length views)) d.seat n (apart j n e) ∙ e) (d.fits j u is)
          ]
          | inr (last, is) ↦ subst (λ (y : ℕ × View). Fits d.reader d.most d.posts seat' d.sent d.got y.0 y.1)
              (λ i. (sym (last ∙ length-set views pass left) i, is i)) (
                at_key-same h.made (some (length views)) d.seat h.made refl,
                sym (mine.3 h.made (omega arith)).1,
                mine.2,
                mine.7,
                subst (λ k. h.made < k) mine.7 below,
              )
        ];
      })
]

pub forks : (pass : ℕ) (v : View) (h : Heard) → v ≡ Log h → h.known ≡ [] → h.made < h.posts
    → Forks Holds pass v (and_made v) (new_post v)
forks pass v h is fresh below = subst (λ u. Forks Holds pass u (and_made u) (new_post u)) (sym is)
    (forks-log pass h fresh below)

-- ---- an alarm is put
puts-post : (n pass from most posts : ℕ) (put : List Alarm) (x : Tagged) → x.from ≡ from → length put < most
    → Pushes Holds n pass (Post from most posts put) x (λ w. w ≡ and_put (Post from most posts put) x.alarm)
puts-post n pass from most posts put x by below items views room holds at = elim holds [
  | inl s ↦ absurd (no-other s pass (Post from most posts put) tt at)
  | inr d ↦
      let w : View = Post from most posts (put ++ x.alarm ∷ []) in
      let mine = d.fits pass (Post from most posts put) at in
      let sent' : ℕ → List Alarm = at_key from (put ++ x.alarm ∷ []) d.sent in
      let own : sent' from ≡ put ++ x.alarm ∷ [] = at_key-same from (put ++ x.alarm ∷ []) d.sent from refl in
      let else_ : (p : ℕ) → p ≢ from → sent' p ≡ d.sent p = λ p ne. at_key-other from
      (put ++ x.alarm ∷ []) d.sent p ne in (
        w,
        inr (record {
          reader = d.reader;
          most = d.most;
          posts = d.posts;
          seat = d.seat;
          sent = sent';
          got = d.got;
          order = λ p.
              let grown : through p (d.got ++ (items ++ x ∷ [])) ≡ d.sent p ++ through p (x ∷ []) =
              ap (through p) (sym (append_assoc d.got items (x ∷ []))) ∙ through-append p (d.got ++ items) (x ∷ [])
              ∙ ap (λ l. l ++ through p (x ∷ [])) (d.order p) in
              elim (ℕ_discrete p from) [
                | yes e ↦ grown ∙ ap₂ (λ l m. l ++ m) (ap d.sent e ∙ sym mine.1) (through-own p x [] (by ∙ sym e))
                    ∙ sym (ap sent' e ∙ own)
                | no ne ↦ grown ∙ ap (λ l. d.sent p ++ l) (through-other p x [] (λ e. ne (sym e ∙ by)))
                    ∙ append-nil (d.sent p) ∙ sym (else_ p ne)
              ];
          limit = λ p. elim (ℕ_discrete p from) [
            | yes e ↦ let l = ap length (ap sent' e ∙ own) in let k = length-append put (x.alarm ∷ []) in let m =
                mine.2 in omega (arith, l, k, m, below)
            | no ne ↦ let l = ap length (else_ p ne) in omega (arith, l, d.limit p)
          ];
          later = λ p above. else_ p (λ e. let below_all = mine.4 in omega (arith, e, above, below_all))
              ∙ d.later p above;
          fits = λ j u e. elim (at_set views pass j w u e) [
            | inl (here, is) ↦ subst (λ (y : ℕ × View). Fits d.reader d.most d.posts d.seat sent' d.got y.0 y.1)
                (λ i. (sym here i, is i)) (mine.0, sym own, mine.2, mine.3, mine.4)
            | inr (other, is) ↦ others-put d.reader d.most d.posts pass d.seat d.sent sent' d.got j u other
                (λ n no_seat. else_ n (λ e. no_seat (ap d.seat e ∙ mine.0))) (d.fits j u is)
          ];
        }),
        refl,
      )
]

pub puts : (n pass : ℕ) (v : View) (from most posts : ℕ) (put : List Alarm) (x : Tagged)
    → v ≡ Post from most posts put → x.from ≡ from → length put < most
    → Pushes Holds n pass v x (λ w. w ≡ and_put v x.alarm)
puts n pass v from most posts put x is by below =
    subst (λ u. Pushes Holds n pass u x (λ w. w ≡ and_put u x.alarm)) (sym is)
    (puts-post n pass from most posts put x by below)

held-post : (pass from most posts : ℕ) (put : List Alarm) → Learns Holds pass (Post from most posts put)
    (IsHeld (Post from most posts put))
held-post pass from most posts put items views holds at = elim holds [
  | inl s ↦ absurd (no-other s pass (Post from most posts put) tt at)
  | inr d ↦
      let mine = d.fits pass (Post from most posts put) at in
      let parts : (p : ℕ) → length (through p items) ≤ length (d.sent p) =
      λ p. let l = ap length (sym (through-append p d.got items) ∙ d.order p) in let k =
      length-append (through p d.got) (through p items) in omega (arith, l, k) in
      let few : length items + d.most ≤ d.posts * d.most + length (through from items) =
      room-less d.posts d.most from items
      (λ p above. nil_from_length (through p items) (let l = parts p in let k = ap length (d.later p above) in
      omega (arith, l, k)))
      (λ p. let l = parts p in let k = d.limit p in omega (arith, l, k))
      mine.4 in
      let own = parts from in
      let put_own = ap length mine.1 in
      subst (λ (y : ℕ × ℕ). length items + y.0 ≤ y.1 * y.0 + length put) (λ i. (sym mine.2 i, sym mine.3 i))
      (omega (arith, few, own, put_own))
]

pub held : (pass : ℕ) (v : View) (from most posts : ℕ) (put : List Alarm) → v ≡ Post from most posts put
    → Learns Holds pass v (IsHeld v)
held pass v from most posts put is = subst (λ u. Learns Holds pass u (IsHeld u)) (sym is)
    (held-post pass from most posts put)

-- ---- an alarm is got
takes-log : (pass : ℕ) (h : Heard) → Pops Holds pass (Log h) (λ x w. (w ≡ and_got (Log h) x)
    × (length (got_of w) ≤ made_of (Log h) * most_of (Log h)))
takes-log pass h x items views holds at = elim holds [
  | inl s ↦ absurd (no-other s pass (Log h) tt at)
  | inr d ↦
      let w : View = Log (record h { got = h.got ++ x ∷ [] }) in
      let mine = d.fits pass (Log h) at in
      let got' = d.got ++ x ∷ [] in
      let order : (p : ℕ) → through p (got' ++ items) ≡ d.sent p =
      λ p. ap (through p) (append_assoc d.got (x ∷ []) items) ∙ d.order p in
      let parts : (p : ℕ) → length (through p got') ≤ length (d.sent p) =
      λ p. let l = ap length (sym (through-append p got' items) ∙ order p) in let k =
      length-append (through p got') (through p items) in omega (arith, l, k) in
      let room : length got' ≤ h.made * d.most =
      room-through h.made d.most got'
      (λ p above. nil_from_length (through p got') (let l = parts p in let k = ap length (mine.3 p above).1 in
      omega (arith, l, k)))
      (λ p. let l = parts p in let k = d.limit p in omega (arith, l, k)) in (
        w,
        inr (record {
          reader = d.reader;
          most = d.most;
          posts = d.posts;
          seat = d.seat;
          sent = d.sent;
          got = got';
          order = order;
          limit = d.limit;
          later = d.later;
          fits = λ j u e. elim (at_set views pass j w u e) [
            | inl (here, is) ↦ subst (λ (y : ℕ × View). Fits d.reader d.most d.posts d.seat d.sent got' y.0 y.1)
                (λ i. (sym here i, is i))
                (mine.0, ap (λ l. l ++ x ∷ []) mine.1, mine.2, mine.3, mine.4, mine.5, mine.6, mine.7)
            | inr (other, is) ↦ others d.reader d.most d.posts d.seat d.seat d.sent d.got got' j u
                (λ r. other (r ∙ sym mine.0)) (λ n e. e) (d.fits j u is)
          ];
        }),
        (
          refl,
          subst (λ (y : List Tagged × ℕ). length (y.0 ++ x ∷ []) ≤ h.made * y.1)
              (λ i. (sym mine.1 i, sym mine.2 i)) room,
        ),
      )
]

pub takes : (pass : ℕ) (v : View) (h : Heard) → v ≡ Log h → Pops Holds pass v
    (λ x w. (w ≡ and_got v x) × (length (got_of w) ≤ made_of v * most_of v))
takes pass v h is =
    subst (λ u. Pops Holds pass u (λ x w. (w ≡ and_got u x) × (length (got_of w) ≤ made_of u * most_of u))) (sym is)
    (takes-log pass h)

heard-known : (seat : ℕ → Option ℕ) (sent : ℕ → List Alarm) (xs : List Tagged) → ((p : ℕ) → through p xs ≡ sent p)
    → (ks : List Known) → AreKnown seat sent ks → AreHeard xs ks
heard-known seat sent xs order [] h = tt
heard-known seat sent xs order (k ∷ ks) h = (order k.from ∙ h.1, heard-known seat sent xs order ks h.2)

heard-log : (pass : ℕ) (h : Heard) → Learns Holds pass (Log h) (IsHeard (Log h))
heard-log pass h items views holds at = elim holds [
  | inl s ↦ absurd (no-other s pass (Log h) tt at)
  | inr d ↦
      let mine = d.fits pass (Log h) at in
      let order : (p : ℕ) → through p (h.got ++ items) ≡ d.sent p = λ p. ap (λ l. through p (l ++ items)) mine.1
      ∙ d.order p in (
        (λ p above. order p ∙ (mine.3 p above).1),
        heard-known d.seat d.sent (h.got ++ items) order h.known mine.4,
        mine.5,
        mine.6,
      )
]

pub heard : (pass : ℕ) (v : View) (h : Heard) → v ≡ Log h → Learns Holds pass v (IsHeard v)
heard pass v h is = subst (λ u. Learns Holds pass u (IsHeard u)) (sym is) (heard-log pass h)

-- ---- a post's pass is joined
known-more : (seat seat' : ℕ → Option ℕ) (sent : ℕ → List Alarm) → ((n : ℕ) → seat n ≡ none → seat' n ≡ none)
    → (ks : List Known) (k : Known) → seat' k.from ≡ none → sent k.from ≡ k.put → AreKnown seat sent ks
    → AreKnown seat' sent (ks ++ k ∷ [])
known-more seat seat' sent keep [] k free is h = (free, is, tt)
known-more seat seat' sent keep (l ∷ ks) k free is h = (
  keep l.from h.0,
  h.1,
  known-more seat seat' sent keep ks k free is h.2,
)

-- a post that has a pass is none of those that are known
free-new : (seat : ℕ → Option ℕ) (sent : ℕ → List Alarm) (n pass : ℕ) (ks : List Known) → seat n ≡ some pass
    → AreKnown seat sent ks → IsNew n ks
free-new seat sent n pass [] has h = tt
free-new seat sent n pass (k ∷ ks) has h = (
  (λ e. some-ne-none pass (sym has ∙ ap seat (sym e) ∙ h.0)),
  free-new seat sent n pass ks has h.2,
)

-- and it was made
made-before : (seat : ℕ → Option ℕ) (made n pass : ℕ) → seat n ≡ some pass → ((p : ℕ) → made ≤ p → seat p ≡ none)
    → n < made
made-before seat made n pass has none_after = elim (dec_le made n) [
  | yes above ↦ absurd (some-ne-none pass (sym has ∙ none_after n above))
  | no below ↦ omega (arith, below)
]

new-more : (n : ℕ) (ks : List Known) (k : Known) → k.from ≢ n → IsNew n ks → IsNew n (ks ++ k ∷ [])
new-more n [] k apart h = (apart, tt)
new-more n (l ∷ ks) k apart h = (h.0, new-more n ks k apart h.1)

apart-more : (ks : List Known) (k : Known) → IsNew k.from ks → AreApart ks → AreApart (ks ++ k ∷ [])
apart-more [] k new h = (tt, tt)
apart-more (l ∷ ks) k new h = (new-more l.from ks k (λ e. new.0 (sym e)) h.0, apart-more ks k new.1 h.1)

below-more : (n : ℕ) (ks : List Known) (k : Known) → k.from < n → AreBelow n ks → AreBelow n (ks ++ k ∷ [])
below-more n [] k below h = (below, tt)
below-more n (l ∷ ks) k below h = (h.0, below-more n ks k below h.1)

merges-log : (pass : ℕ) (h : Heard) (other from most posts : ℕ) (put : List Alarm)
    → Merges Holds pass (Log h) other (Post from most posts put) (and_known (Log h) (Post from most posts put)) Spent
merges-log pass h other from most posts put items views holds at two at' = elim holds [
  | inl s ↦ absurd (no-other s pass (Log h) tt at)
  | inr d ↦
      let k : Known = record { from = from; put = put } in
      let both : View = Log (record h { known = h.known ++ k ∷ [] }) in
      let vs = set views pass both in
      let was : get_elem? views other ≡ some (Post from most posts put) =
      elim (at_set views pass other both (Post from most posts put) at') [
        | inl (here, is) ↦ absurd (two here)
        | inr (there, is) ↦ is
      ] in
      let mine = d.fits pass (Log h) at in
      let theirs = d.fits other (Post from most posts put) was in
      let seat' : ℕ → Option ℕ = at_key from none d.seat in
      let freed : seat' from ≡ none = at_key-same from none d.seat from refl in
      let keep : (n : ℕ) → d.seat n ≡ none → seat' n ≡ none = λ n free. elim (ℕ_discrete n from) [
        | yes e ↦ ap seat' e ∙ freed
        | no ne ↦ at_key-other from none d.seat n ne ∙ free
      ] in
      inr (record {
        reader = d.reader;
        most = d.most;
        posts = d.posts;
        seat = seat';
        sent = d.sent;
        got = d.got;
        order = d.order;
        limit = d.limit;
        later = d.later;
        fits = λ j u e. elim (at_set vs other j Spent u e) [
          | inl (here, is) ↦ subst (λ y. Fits d.reader d.most d.posts seat' d.sent d.got j y) is tt
          | inr (apart, old) ↦ elim (at_set views pass j both u old) [
            | inl (here, is) ↦ subst (λ (y : ℕ × View). Fits d.reader d.most d.posts seat' d.sent d.got y.0 y.1)
                (λ i. (sym here i, is i)) (
                  mine.0,
                  mine.1,
                  mine.2,
                  (λ p above. (keep p (mine.3 p above).0, (mine.3 p above).1)),
                  known-more d.seat seat' d.sent keep h.known k freed (sym theirs.1) mine.4,
                  apart-more h.known k (free-new d.seat d.sent from other h.known theirs.0 mine.4) mine.5,
                  below-more h.made h.known k (made-before d.seat h.made from other theirs.0
                      (λ p above. (mine.3 p above).0)) mine.6,
                  mine.7,
                )
            | inr (there, is) ↦ others d.reader d.most d.posts d.seat seat' d.sent d.got d.got j u
                (λ r. there (r ∙ sym mine.0))
                (λ n e. at_key-other from none d.seat n (λ at_from. apart
                (some-injective j other (sym e ∙ ap d.seat at_from ∙ theirs.0))) ∙ e) (d.fits j u is)
          ]
        ];
      })
]

pub merges : (pass : ℕ) (v : View) (h : Heard) (other : ℕ) (w : View) (from most posts : ℕ) (put : List Alarm)
    → v ≡ Log h → w ≡ Post from most posts put
    → Merges Holds pass v other w (and_known v w) Spent
merges pass v h other w from most posts put is is' =
    subst (λ (y : View × View). Merges Holds pass y.0 other y.1 (and_known y.0 y.1) Spent)
    (λ i. (sym is i, sym is' i)) (merges-log pass h other from most posts put)

-- ---- What the log's pass knows after posts were joined, and lists of which one moved.
pub with-then : (v : View) (ks ls : List Known) → with_known (with_known v ks) ls ≡ with_known v (ks ++ ls)
with-then (Log h) ks ls = ap (λ l. Log (record h { known = l })) (append_assoc h.known ks ls)
with-then (Setting n most posts) ks ls = refl
with-then (Post n most posts put) ks ls = refl
with-then Spent ks ls = refl

pub record IsJoined (v w : View) (ks : List Known) : Type 0 where
  pub is : w ≡ Log (heard_of w)
  pub got : got_of w ≡ got_of v
  pub made : made_of w ≡ made_of v
  pub most : most_of w ≡ most_of v
  pub known : known_of w ≡ known_of v ++ ks

pub joined : (v w : View) (ks : List Known) → v ≡ Log (heard_of v) → w ≡ with_known v ks → IsJoined v w ks
joined v w ks is after =
    let e : w ≡ with_known (Log (heard_of v)) ks = after ∙ ap (λ u. with_known u ks) is in
    record {
      is = e ∙ sym (ap (λ u. Log (heard_of u)) e);
      got = ap got_of e;
      made = ap made_of e;
      most = ap most_of e;
      known = ap known_of e;
    }

-- once the queue is empty, all that was put through the posts that are known was got
pub heard-all : (v : View) → v ≡ Log (heard_of v) → IsHeard v []
    → ((p : ℕ) → made_of v ≤ p → through p (got_of v) ≡ []) × AreHeard (got_of v) (known_of v) × AreApart (known_of v)
    × AreBelow (made_of v) (known_of v)
heard-all v is heard =
    let h : IsHeard (Log (heard_of v)) [] = subst (λ u. IsHeard u []) is heard in
    let whole = append-nil (got_of v) in (
      (λ p above. ap (through p) (sym whole) ∙ h.0 p above),
      subst (λ xs. AreHeard xs (known_of v)) whole h.1,
      h.2,
      h.3,
    )

-- ---- lists
module _ {A B C : Type 0} (f : A → C) (g : B → C) where
  pub map-end : (all : List A) (k : A) → map f (all ++ k ∷ []) ≡ map f all ++ f k ∷ []
  map-end [] k = refl
  map-end (a ∷ all) k = ap (λ l. f a ∷ l) (map-end all k)

  pub moved-one : (all all' : List A) (k : A) (p : B) (from rest whole : List B) → from ≡ p ∷ rest
      → all' ≡ all ++ k ∷ [] → f k ≡ g p
      → map f all ++ map g from ≡ map g whole → map f all' ++ map g rest ≡ map g whole
  moved-one all all' k p from rest whole steps more same before =
      ap (λ l. map f l ++ map g rest) more ∙ ap (λ l. l ++ map g rest) (map-end all k)
      ∙ append_assoc (map f all) (f k ∷ []) (map g rest)
      ∙ ap (λ c. map f all ++ c ∷ map g rest) same ∙ ap (λ l. map f all ++ map g l) (sym steps) ∙ before

pub at-end : {A : Type 0} (xs : List A) (x y : A) (i : ℕ) → slice_get (xs ++ x ∷ []) i ≡ Some y
    → (slice_get xs i ≡ Some y) ⊎ ((i ≡ length xs) × (x ≡ y))
at-end [] x y zero e = inr (refl, cc)
at-end [] x y (suc i) e = absurd cc
at-end (a ∷ xs) x y zero e = inl e
at-end (a ∷ xs) x y (suc i) e = elim (at-end xs x y i e) [
  | inl there ↦ inl there
  | inr (last, is) ↦ inr (ap suc last, is)
]

pub in-rest : {A : Type 0} (x : A) (all rest : List A) → all ≡ x ∷ rest → (i : ℕ) (y : A) → slice_get rest i ≡ Some y
    → slice_get all (suc i) ≡ Some y
in-rest x all rest is i y there = ap (λ l. slice_get l (suc i)) is ∙ there

-- ---- What the log's pass knows after one alarm more.
pub record GotMore (v w : View) (x : Tagged) : Type 0 where
  pub is : w ≡ Log (heard_of w)
  pub got : got_of w ≡ got_of v ++ x ∷ []
  pub made : made_of w ≡ made_of v
  pub most : most_of w ≡ most_of v
  pub known : known_of w ≡ known_of v

pub got-more : (v w : View) (x : Tagged) → v ≡ Log (heard_of v) → w ≡ and_got v x → GotMore v w x
got-more v w x is after =
    let e : w ≡ and_got (Log (heard_of v)) x = after ∙ ap (λ u. and_got u x) is in
    record {
      is = e ∙ sym (ap (λ u. Log (heard_of u)) e);
      got = ap got_of e;
      made = ap made_of e;
      most = ap most_of e;
      known = ap known_of e;
    }

-- the list has room for it
pub room-more : (v w : View) (x : Tagged) (list : List Alarm) (size : ℕ) → got_of w ≡ got_of v ++ x ∷ []
    → list ≡ alarms_of (got_of v)
    → length (got_of w) ≤ made_of v * most_of v → made_of v * most_of v ≤ size → length list < size
room-more v w x list size got listed within room =
    let one = ap length got ∙ length-append (got_of v) (x ∷ []) in
    let all = ap length listed ∙ alarms-length (got_of v) in
    omega (arith, one, all, within, room)

pub listed-more : (v w : View) (x : Tagged) (list list' : List Alarm) → got_of w ≡ got_of v ++ x ∷ []
    → list ≡ alarms_of (got_of v)
    → list' ≡ list ++ x.alarm ∷ [] → list' ≡ alarms_of (got_of w)
listed-more v w x list list' got listed more =
    more ∙ ap (λ l. l ++ x.alarm ∷ []) listed ∙ sym (alarms-append (got_of v) (x ∷ [])) ∙ sym (ap alarms_of got)

-- ---- What the log knows once its posts were joined and its queue was found empty.
pub record KnowsAll (xs : List Tagged) (posts : List AlarmPost) : Type 0 where
  pub heard : AreHeard xs (map known_by posts)
  pub apart : AreApart (map known_by posts)
  pub rest : (p : ℕ) → NotAmong number_of put_by kept_by p posts → through p xs ≡ []

-- v before the joins, w after them, u once the queue was found empty
pub knows-all : (v w u : View) (posts : List AlarmPost) → v ≡ Log (heard_of v) → known_of v ≡ []
    → w ≡ with_known v (map known_by posts)
    → u ≡ Log (heard_of u) → made_of u ≡ made_of w → known_of u ≡ known_of w → IsHeard u []
    → length posts ≡ made_of v → KnowsAll (got_of u) posts
knows-all v w u posts is open_ after is' made known heard count =
    let j = joined v w (map known_by posts) is after in
    let all = heard-all u is' heard in
    let known' : known_of u ≡ map known_by posts = known ∙ j.known ∙ ap (λ l. l ++ map known_by posts) open_ in
    let made' : made_of u ≡ made_of v = made ∙ j.made in
    record {
      heard = subst (AreHeard (got_of u)) known' all.1;
      apart = subst AreApart known' all.2;
      rest = all-there number_of put_by kept_by (made_of v) posts (got_of u) count (subst AreApart known' all.2)
          (subst (λ (y : ℕ × List Known). AreBelow y.0 y.1) (λ i. (made' i, known' i)) all.3)
          (λ p above. all.0 p (omega (arith, above, made')));
    }

-- a post was posted no more than it may
pub within-limit : (posts : List AlarmPost) (most : ℕ) → ((j : ℕ) (post : AlarmPost) → slice_get posts j ≡ Some post
    → post.most ≡ most)
    → (j : ℕ) (post : AlarmPost) → slice_get posts j ≡ Some post → length (put_by post) + length (kept_by post) ≤ most
within-limit posts most same j post there = let limit = post.limit in let is = same j post there in
    omega (arith, limit, is)
