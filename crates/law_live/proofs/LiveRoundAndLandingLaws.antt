-- What a round of a conversation does, how tries land all that is due, and how rounds make the ticks that pass.
use Rattle.std.proofs.Common.{◌≡◌, ℕ, zero, suc, ◌+◌, ◌≤◌, nat_le, inl, inr, List, [], ◌∷◌, Option, Some, None, refl}
use Rattle.std.proofs.Common.{◌∙◌, arith, slice_get, ◌<◌, true, false, ◌++◌, length, replicate, ap, subst, ◌-◌, sym, lt-ltb}
use Rattle.std.proofs.Common.{le-ltb}
use Rattle.std.proofs.lemmas.Bool.{cases_Bool, cases_lt, leb-true, leb-false, lt-leb}
use Rattle.law_model.specs.Common.{Counts, LineCounts, LinePath, Plan, carries_from, carry, held, run, step, take_row, tick}
use Rattle.law_model.specs.Common.{Due, command_due, command_dues, frame_due, frame_dues, land_due, round, bound}
use Rattle.law_model.specs.session.Counts.{back}
use Rattle.law_model.specs.declared.walk_events.Event.TheVariants.{Back, Carry, Take, Tick, Accept, Command}
use Rattle.law_live.specs.Common.{after_rounds, live_round, rounds_until}
use Rattle.law_model.proofs.ListLaws.{slice_get-inside}
use Rattle.law_model.specs.declared.walk_events.Event.{Event}
use Rattle.law_progress.specs.Progress.{Fits, IsPlanOf, made}
use Rattle.law_progress.proofs.EventOutcomeLaws.{back-gives, carry-gives, take-gives, tick-gives}
use Rattle.law_progress.proofs.RoundProgressAndDrainLaws.{bounded, kinds, round-rises, rows-ticks, run-append, run-fits}

-- ---- What a round of a conversation does: at most one more tick, rows that are no fewer, and nothing lands.
-- nothing lands, there are at most so many ticks more, and no fewer rows
pub record Goes (more : ℕ) (was now : Counts) : Type 0 where
  pub frames : now.frames ≡ was.frames
  pub commands : now.commands ≡ was.commands
  pub ticks : was.ticks ≤ now.ticks
  pub most : now.ticks ≤ was.ticks + more
  pub rows : was.rows ≤ now.rows

pub goes-rest : (more : ℕ) (s : Counts) (lines : List LineCounts) (rows backs : ℕ) → s.rows ≤ rows →
    Goes more s (record s { lines = lines; rows = rows; backs = backs })
goes-rest more s lines rows backs up =
    record { frames = refl; commands = refl; ticks = omega arith; most = omega arith; rows = up }

pub stays : (more : ℕ) (s : Counts) → Goes more s s
stays more s = goes-rest more s s.lines s.rows s.backs (omega arith)

pub goes-ticked : (s : Counts) → Goes 1 s (record s { ticks = s.ticks + 1 })
goes-ticked s = record { frames = refl; commands = refl; ticks = omega arith; most = omega arith; rows = omega arith }

pub then-goes : (one other : ℕ) (a b c : Counts) → Goes one a b → Goes other b c → Goes (one + other) a c
then-goes one other a b c first second =
    let t = first.ticks in let u = second.ticks in let m = first.most in let n = second.most in
    let r = first.rows in let q = second.rows in
    record {
      frames = second.frames ∙ first.frames;
      commands = second.commands ∙ first.commands;
      ticks = omega (arith, t, u);
      most = omega (arith, m, n);
      rows = omega (arith, r, q);
    }

-- ---- events
pub goes-carry : (plan : Plan) (s : Counts) (m : ℕ) → Goes 0 s (carry plan s m).counts
goes-carry plan s m = carry-gives (λ next. Goes 0 s next.counts) plan s m (λ cause. stays 0 s)
    (λ line. goes-rest 0 s _ s.rows s.backs (omega arith))

pub goes-back : (plan : Plan) (s : Counts) → Goes 0 s (back s).counts
goes-back plan s = back-gives (λ next. Goes 0 s next.counts) plan s (λ cause. stays 0 s)
    (goes-rest 0 s s.lines s.rows (s.backs + 1) (omega arith))

goes-take : (plan : Plan) (s : Counts) → Goes 0 s (take_row plan s).counts
goes-take plan s = take-gives (λ next. Goes 0 s next.counts) plan s (λ cause. stays 0 s)
    (λ line. goes-rest 0 s _ s.rows s.backs (omega arith)) (goes-rest 0 s _ (s.rows + 1) s.backs (omega arith))

pub goes-tick : (plan : Plan) (s : Counts) → Goes 1 s (tick plan s).counts
goes-tick plan s =
    tick-gives (λ next. Goes 1 s next.counts) plan s (λ cause. stays 1 s) (λ none. goes-ticked s)

-- ---- a round
pub goes-carries : (plan : Plan) (m : ℕ) (paths : List LinePath) (s : Counts) →
    Goes 0 s (run plan s (carries_from m paths))
unfolding run carries_from
goes-carries plan m [] s =
    then-goes 0 0 s (step plan s Back).counts (run plan s (Back ∷ Take ∷ [])) (goes-back plan s)
    (goes-take plan (step plan s Back).counts)
goes-carries plan m (path ∷ paths) s =
    let next : Counts = (step plan s (Carry m)).counts in
    then-goes 0 0 s next (run plan next (carries_from (suc m) paths))
    (goes-carry plan s m) (goes-carries plan (suc m) paths next)

pub goes-round : (plan : Plan) (s : Counts) → Goes 1 s (live_round plan s)
unfolding run
goes-round plan s =
    let next : Counts = (step plan s Tick).counts in
    then-goes 1 0 s next (run plan next (carries_from 0 plan.paths)) (goes-tick plan s)
    (goes-carries plan 0 plan.paths next)

pub goes-rounds : (n : ℕ) (plan : Plan) (s : Counts) → Goes n s (after_rounds n plan s)
unfolding after_rounds
goes-rounds zero plan s = stays 0 s
goes-rounds (suc n) plan s =
    let rest = goes-rounds n plan (live_round plan s) in
    let both = then-goes 1 n s (live_round plan s) (after_rounds n plan (live_round plan s)) (goes-round plan s) rest in
    let most = both.most in
    record {
      frames = both.frames;
      commands = both.commands;
      ticks = both.ticks;
      most = omega (arith, most);
      rows = both.rows;
    }

-- ---- Tries of Accept and Command land all that is due, and stop there.
-- ---- what is due
-- of due ticks the first ones, so many, aren't after some tick, and no other one is before another
pub record Here (dues : List ℕ) (from until count : ℕ) : Type 0 where
  pub early : (i due : ℕ) → i < count → slice_get dues i ≡ Some due → due ≤ from
  pub few : count ≤ length dues
  pub late : (i due : ℕ) → count ≤ i → slice_get dues i ≡ Some due → until ≤ due

pub here-at : (dues : List ℕ) (from until count now : ℕ) → Here dues from until count → from ≤ now → now < until →
    Here dues now (suc now) count
here-at dues from until count now here low high = record {
  early = λ i due inside there. let h = here.early i due inside there in omega (arith, h, low);
  few = here.few;
  late = λ i due beyond there. let h = here.late i due beyond there in omega (arith, h, high);
}

-- what has landed is all that is due
pub record Settled (plan : Plan) (from until : ℕ) (s : Counts) : Type 0 where
  pub frames : Here (frame_dues plan.items) from until s.frames
  pub commands : Here (command_dues plan.items) from until s.commands

abbrev pub IsSettled : Plan → Counts → Type 0
IsSettled plan s = Settled plan s.ticks (suc s.ticks) s

pub settled-at : (plan : Plan) (from until : ℕ) (s : Counts) → Settled plan from until s → from ≤ s.ticks →
    s.ticks < until → IsSettled plan s
settled-at plan from until s settled low high = record {
  frames = here-at (frame_dues plan.items) from until s.frames s.ticks settled.frames low high;
  commands = here-at (command_dues plan.items) from until s.commands s.ticks settled.commands low high;
}

-- ---- one try
land-moves : (ticks : ℕ) (o : Option ℕ) (s next : Counts) (due : ℕ) → o ≡ Some due → due ≤ ticks →
    (land_due ticks o s next).counts ≡ next
land-moves ticks o s next due there low =
    ap (λ p. (land_due ticks p s next).counts) there ∙ rw (le-ltb ticks due low) refl

pub accept-moves : (plan : Plan) (s : Counts) (due : ℕ) → slice_get (frame_dues plan.items) s.frames ≡ Some due →
    due ≤ s.ticks → (step plan s Accept).counts ≡ record s { frames = s.frames + 1 }
accept-moves plan s due there low =
    land-moves s.ticks (slice_get (frame_dues plan.items) s.frames) s (record s { frames = s.frames + 1 }) due there low

pub command-moves : (plan : Plan) (s : Counts) (due : ℕ) → slice_get (command_dues plan.items) s.commands ≡ Some due →
    due ≤ s.ticks → (step plan s Command).counts ≡ record s { commands = s.commands + 1 }
command-moves plan s due there low =
    land-moves s.ticks (slice_get (command_dues plan.items) s.commands) s (record s { commands = s.commands + 1 }) due
    there low

-- ---- many tries, of an event that lands the items of one kind: so many of them have
module _ (plan : Plan) (event : Event) (dues : List ℕ) (ticks : ℕ) (put : ℕ → Counts)
    (is : (a : ℕ) → (step plan (put a) event).counts
    ≡ (land_due ticks (slice_get dues a) (put a) (put (a + 1))).counts)
  where
    tries : (k a count : ℕ) → a ≤ count → count ≤ a + k → Here dues ticks (suc ticks) count →
        run plan (put a) (replicate k event) ≡ put count
    unfolding run
    tries zero a count low high here = ap put (let e : a ≡ count = omega (arith, low, high) in e)
    tries (suc k) a count low high here = elim (cases_lt a count) [
      | inl more ↦
          let few = here.few in
          let (due, there) = slice_get-inside dues a (omega (arith, few, more)) in
          ap (λ c. run plan c (replicate k event))
          (is a ∙ land-moves ticks (slice_get dues a) (put a) (put (a + 1)) due there (here.early a due more there))
          ∙ tries k (a + 1) count (omega (arith, more)) (omega (arith, high)) here
      | inr done ↦
          ap (λ c. run plan c (replicate k event)) (is a ∙ stalls (slice_get dues a) (λ due. here.late a due done))
          ∙ tries k a count low (omega (arith, done)) here
    ]
      where
        stalls : (o : Option ℕ) → ((due : ℕ) → o ≡ Some due → suc ticks ≤ due) →
            (land_due ticks o (put a) (put (a + 1))).counts ≡ put a
        stalls None late = refl
        stalls (Some due) late = rw (lt-ltb ticks due (late due refl)) refl

pub accepts : (plan : Plan) (k : ℕ) (s : Counts) (count : ℕ) → s.frames ≤ count → count ≤ s.frames + k →
    Here (frame_dues plan.items) s.ticks (suc s.ticks) count →
    run plan s (replicate k Accept) ≡ record s { frames = count }
accepts plan k s count = tries plan Accept (frame_dues plan.items) s.ticks (λ n. record s { frames = n }) (λ a. refl) k
    s.frames count

pub commands : (plan : Plan) (k : ℕ) (s : Counts) (count : ℕ) → s.commands ≤ count → count ≤ s.commands + k →
    Here (command_dues plan.items) s.ticks (suc s.ticks) count →
    run plan s (replicate k Command) ≡ record s { commands = count }
commands plan k s count = tries plan Command (command_dues plan.items) s.ticks (λ n. record s { commands = n })
    (λ a. refl) k s.commands count

-- ---- a round of a script
pub few-frames : (items : List Due) → length (frame_dues items) ≤ length items
few-frames items = let both = kinds items in omega (arith, both)

pub few-commands : (items : List Due) → length (command_dues items) ≤ length items
few-commands items = let both = kinds items in omega (arith, both)

-- where fewer have landed it lands what is due, and then does as a round of a conversation does
pub round-lands : (plan : Plan) (s : Counts) (a b : ℕ) → IsSettled plan s → a ≤ s.frames → b ≤ s.commands →
    run plan (record s { frames = a; commands = b }) (round plan) ≡ live_round plan s
round-lands plan s a b settled frames_low commands_low =
    let all : ℕ = suc (length plan.items) in
    let rest : List Event = Tick ∷ carries_from 0 plan.paths in
    let was : Counts = record s { frames = a; commands = b } in
    let few = settled.frames.few in
    let fewer = settled.commands.few in
    let most = few-frames plan.items in
    let most_commands = few-commands plan.items in
    run-append plan was (replicate all Accept) (replicate all Command ++ rest)
    ∙ ap (λ c. run plan c (replicate all Command ++ rest))
    (accepts plan all was s.frames frames_low (omega (arith, few, most)) settled.frames)
    ∙ run-append plan (record s { commands = b }) (replicate all Command) rest
    ∙ ap (λ c. run plan c rest)
    (commands plan all (record s { commands = b }) s.commands commands_low (omega (arith, fewer, most_commands))
    settled.commands)

-- ---- nothing holds a tick
pub none-held : (ticks a b i : ℕ) (items : List Due) →
    ((k due : ℕ) → a ≤ k → slice_get (frame_dues items) k ≡ Some due → ticks < due) →
    ((k due : ℕ) → b ≤ k → slice_get (command_dues items) k ≡ Some due → ticks < due) →
    held ticks a b i items ≡ None
unfolding held frame_dues command_dues
none-held ticks a b i [] frames others = refl
none-held ticks zero b i (frame_due due ∷ items) frames others =
    rw (lt-leb due ticks (frames 0 due (omega arith) refl))
    (none-held ticks zero b (suc i) items (λ k d low there. frames (suc k) d (omega arith) there) others)
none-held ticks (suc a) b i (frame_due due ∷ items) frames others =
    none-held ticks a b (suc i) items (λ k d low there. frames (suc k) d (omega (arith, low)) there) others
none-held ticks a zero i (command_due due ∷ items) frames others =
    rw (lt-leb due ticks (others 0 due (omega arith) refl))
    (none-held ticks a zero (suc i) items frames (λ k d low there. others (suc k) d (omega arith) there))
none-held ticks a (suc b) i (command_due due ∷ items) frames others =
    none-held ticks a b (suc i) items frames (λ k d low there. others (suc k) d (omega (arith, low)) there)

pub settled-free : (plan : Plan) (s : Counts) → IsSettled plan s →
    held s.ticks s.frames s.commands 0 plan.items ≡ None
settled-free plan s settled = none-held s.ticks s.frames s.commands 0 plan.items settled.frames.late settled.commands.late

-- ---- Ticks that pass: rounds make just so many, as far as nothing else is due.
-- it stays settled
pub settled-round : (plan : Plan) (from until : ℕ) (s : Counts) → Settled plan from until s →
    Settled plan from until (live_round plan s)
settled-round plan from until s settled =
    let goes = goes-round plan s in
    record {
      frames = subst (λ n. Here (frame_dues plan.items) from until n) (sym goes.frames) settled.frames;
      commands = subst (λ n. Here (command_dues plan.items) from until n) (sym goes.commands) settled.commands;
    }

pub settled-rounds : (n : ℕ) (plan : Plan) (from until : ℕ) (s : Counts) → Settled plan from until s →
    Settled plan from until (after_rounds n plan s)
unfolding after_rounds
settled-rounds zero plan from until s settled = settled
settled-rounds (suc n) plan from until s settled =
    settled-rounds n plan from until (live_round plan s) (settled-round plan from until s settled)

module _ (slow fast slip : ℕ) (plan : Plan) (is : IsPlanOf slow fast slip plan) where
  pub fits-round : (s : Counts) → Fits plan s → Fits plan (live_round plan s)
  fits-round s fits = (run-fits slow fast slip plan is s (Tick ∷ carries_from 0 plan.paths) fits).0

  pub fits-rounds : (n : ℕ) (s : Counts) → Fits plan s → Fits plan (after_rounds n plan s)
  unfolding after_rounds
  fits-rounds zero s fits = fits
  fits-rounds (suc n) s fits = fits-rounds n (live_round plan s) (fits-round s fits)

  -- a round makes more of something, where ticks are left
  rises : (s : Counts) → Fits plan s → IsSettled plan s → s.ticks < plan.ticks → made s < made (live_round plan s)
  rises s fits settled left =
      let rows = rows-ticks slow fast slip plan is s fits in
      let same : run plan s (round plan) ≡ live_round plan s =
      round-lands plan s s.frames s.commands settled (omega arith) (omega arith) in
      subst (λ c. made s < made c) same (round-rises slow fast slip plan is s fits (omega (arith, rows, left)))

  pub pass-ticks : (k from until : ℕ) (s : Counts) → Fits plan s → Settled plan from until s → from ≤ s.ticks →
      s.ticks ≤ until → until ≤ plan.ticks → bound plan ≤ made s + k →
      (after_rounds (rounds_until k plan until s) plan s).ticks ≡ until
  unfolding after_rounds rounds_until
  pass-ticks zero from until s fits settled low high few enough = elim (cases_lt s.ticks until) [
    | inl left ↦
        let more = rises s fits (settled-at plan from until s settled low left) (omega (arith, left, few)) in
        let most = bounded slow fast slip plan is (live_round plan s) (fits-round s fits) in
        absurd (omega (arith, more, most, enough))
    | inr done ↦ omega (arith, done, high)
  ]
  pass-ticks (suc k) from until s fits settled low high few enough = elim (cases_Bool (nat_le until s.ticks)) [
    | inl e ↦ let done = leb-true until s.ticks e in rw e (let same : s.ticks ≡ until = omega (arith, done, high) in same)
    | inr e ↦
        let left = leb-false until s.ticks e in
        let more = rises s fits (settled-at plan from until s settled low left) (omega (arith, left, few)) in
        let goes = goes-round plan s in
        let up = goes.ticks in
        let most = goes.most in
        rw e (pass-ticks k from until (live_round plan s) (fits-round s fits) (settled-round plan from until s settled)
        (omega (arith, low, up)) (omega (arith, most, left)) few (omega (arith, more, enough)))
  ]

  -- ---- what a loop over rounds needs
  -- the measure falls
  pub round-less : (from until : ℕ) (s : Counts) → Fits plan s → Settled plan from until s → from ≤ s.ticks →
      s.ticks < until → until ≤ plan.ticks →
      bound plan - made (live_round plan s) < bound plan - made s
  round-less from until s fits settled low left few =
      let more = rises s fits (settled-at plan from until s settled low left) (omega (arith, left, few)) in
      let most = bounded slow fast slip plan is (live_round plan s) (fits-round s fits) in
      omega (arith, more, most)

  -- one more than enough changes nothing
  pub enough : (k from until : ℕ) (s : Counts) → Fits plan s → Settled plan from until s → from ≤ s.ticks →
      until ≤ plan.ticks → bound plan ≤ made s + k → rounds_until (suc k) plan until s ≡ rounds_until k plan until s
  unfolding rounds_until
  enough zero from until s fits settled low few most = elim (cases_lt s.ticks until) [
    | inl left ↦ let less = round-less from until s fits settled low left few in absurd (omega (arith, less, most))
    | inr done ↦ let e : nat_le until s.ticks ≡ true = grind (arith, done) in rw e refl
  ]
  enough (suc k) from until s fits settled low few most = elim (cases_Bool (nat_le until s.ticks)) [
    | inl e ↦ rw e refl
    | inr e ↦
        let left = leb-false until s.ticks e in
        let less = round-less from until s fits settled low left few in
        let up = (goes-round plan s).ticks in
        rw e (ap suc (enough k from until (live_round plan s) (fits-round s fits)
        (settled-round plan from until s settled) (omega (arith, low, up)) few (omega (arith, less, most))))
  ]

  -- a round is one of those that are left
  pub round-turn : (from until : ℕ) (s : Counts) → Fits plan s → Settled plan from until s → from ≤ s.ticks →
      s.ticks < until → until ≤ plan.ticks →
      rounds_until (bound plan) plan until s ≡ suc (rounds_until (bound plan) plan until (live_round plan s))
  unfolding rounds_until
  round-turn from until s fits settled low left few = by (bound plan) refl
    where
      by : (most : ℕ) → bound plan ≡ most →
          rounds_until most plan until s ≡ suc (rounds_until most plan until (live_round plan s))
      by zero e = let less = round-less from until s fits settled low left few in absurd (omega (arith, less, e))
      by (suc k) e =
          let less = round-less from until s fits settled low left few in
          let up = (goes-round plan s).ticks in
          let shut : nat_le until s.ticks ≡ false = grind (arith, left) in
          rw shut (ap suc (sym (enough k from until (live_round plan s) (fits-round s fits)
          (settled-round plan from until s settled) (omega (arith, low, up)) few (omega (arith, less, e)))))

pub rounds-over : (k : ℕ) (plan : Plan) (until : ℕ) (s : Counts) → until ≤ s.ticks → rounds_until k plan until s ≡ 0
unfolding rounds_until
rounds-over zero plan until s done = refl
rounds-over (suc k) plan until s done = let e : nat_le until s.ticks ≡ true = grind (arith, done) in rw e refl
