-- What a round of a conversation with both ways does: at most one more tick of both, rows that are no fewer, and nothing
-- lands; and how rounds make the ticks that pass.
use Rattle.std.proofs.Common.{◌≡◌, ℕ, zero, suc, ◌+◌, ◌-◌, ◌<◌, ◌≤◌, nat_le, nat_lt, true, false, ◌&&◌, inl, inr, List, []}
use Rattle.std.proofs.Common.{◌∷◌, ◌++◌, length, replicate, Option, Some, None, refl, sym, ◌∙◌, ap, subst, arith}
use Rattle.std.proofs.lemmas.Bool.{cases_Bool, cases_lt, leb-true, leb-false, ltb-false}
use Rattle.law_model.specs.Common.{Counts, Due, LineCounts, LinePath, Plan, carry, command_due, command_dues, frame_due}
use Rattle.law_model.specs.Common.{frame_dues, pop_lines}
use Rattle.law_progress.proofs.RoundProgressAndDrainLaws.{Lands, rows-ticks}
use Rattle.law_pair.specs.declared.pair_events.Way.{Way}
use Rattle.law_pair.specs.declared.pair_events.Way.TheVariants.{There, Back}
use Rattle.law_pair.specs.declared.pair_events.PairEvent.{PairEvent}
use Rattle.law_pair.specs.declared.pair_events.PairEvent.TheVariants.{Item, Tick, Carry, Take}
use Rattle.law_model.specs.declared.walk_events.StallCause.{StallCause}
use Rattle.law_pair.specs.Common.{IsPairPlan, IsPairReached, PairCounts, PairPlan, carries_on, counts_on, first_due}
use Rattle.law_pair.specs.Common.{is_over, land_first, land_item, left_after, pair_bound, pair_round, pair_run, pair_step}
use Rattle.law_pair.specs.Common.{plan_on, take_one, take_said, tick_by, tick_cause, tick_of, with_counts, with_lag}
use Rattle.law_pair.proofs.NextItemAndOneWayEventLaws.{AreInOrder, command-lands, frame-lands}
use Rattle.law_pair.proofs.PairMeasureAndDrainLaws.{is-near, pair-round-less, pair-steps, pair_made, run-append}
use Rattle.law_pair.proofs.PairMeasureAndDrainLaws.{walks-fits}
use Rattle.law_pair.proofs.ReachedPairAndStallLaws.{goes-near, same-way}
use Rattle.law_live.specs.Common.{after_turns, pair_turn, turn_both, turns_until}
use Rattle.law_live.proofs.LiveRoundAndLandingLaws.{Goes, Here, Settled, goes-carry, goes-rest, goes-ticked, stays, then-goes}
use Rattle.law_model.specs.session.Scenario.{packets_in}

-- ---- What a round does: at most one more tick of both ways, rows that are no fewer, and nothing lands.
pub record BothGo (more : ℕ) (was now : PairCounts) : Type 0 where
  pub there : Goes more was.there now.there
  pub back : Goes more was.back now.back

pub then-both : (one other : ℕ) (a b c : PairCounts) → BothGo one a b → BothGo other b c → BothGo (one + other) a c
then-both one other a b c first second = record {
  there = then-goes one other a.there b.there c.there first.there second.there;
  back = then-goes one other a.back b.back c.back first.back second.back;
}

-- ---- an event that makes no tick and lands nothing
unfoldable pub IsQuiet : PairEvent → Type 0
IsQuiet (Item way) = ⊥
IsQuiet Tick = ⊥
IsQuiet (Carry way m) = Unit {0}
IsQuiet (Take way) = Unit {0}

unfoldable pub AreQuiet : List PairEvent → Type 0
AreQuiet [] = Unit {0}
AreQuiet (event ∷ events) = IsQuiet event × AreQuiet events

quiet-append : (xs ys : List PairEvent) → AreQuiet xs → AreQuiet ys → AreQuiet (xs ++ ys)
unfolding AreQuiet
quiet-append [] ys first second = second
quiet-append (x ∷ xs) ys first second = (first.0, quiet-append xs ys first.1 second)

quiet-carries : (way : Way) (m : ℕ) (paths : List LinePath) → AreQuiet (carries_on way m paths)
unfolding AreQuiet IsQuiet carries_on
quiet-carries way m [] = tt
quiet-carries way m (path ∷ paths) = (tt, quiet-carries way (suc m) paths)

-- those of a round behind its tick
abbrev pub behind : List LinePath → List LinePath → List PairEvent
behind there back = carries_on There 0 there ++ (carries_on Back 0 back ++ Take There ∷ Take Back ∷ [])

pub quiet-behind : (there back : List LinePath) → AreQuiet (behind there back)
unfolding AreQuiet IsQuiet
quiet-behind there back =
    quiet-append (carries_on There 0 there) (carries_on Back 0 back ++ Take There ∷ Take Back ∷ [])
    (quiet-carries There 0 there)
    (quiet-append (carries_on Back 0 back) (Take There ∷ Take Back ∷ []) (quiet-carries Back 0 back) (tt, (tt, tt)))

goes-said : (s : Counts) (lines : List LineCounts) (waiting : Option ℕ) → Goes 0 s (take_said s lines waiting).counts
goes-said s lines (Some line) = goes-rest 0 s lines s.rows s.backs (omega arith)
goes-said s lines None = goes-rest 0 s lines (s.rows + 1) (packets_in (s.rows + 1)) (omega arith)

goes-one : (plan : Plan) (s : Counts) → Goes 0 s (take_one plan s).counts
goes-one plan s =
    elim (cases_Bool (nat_le plan.ticks s.rows)) [
      | inl e ↦ rw e (stays 0 s)
      | inr e ↦ rw e (goes-said s (pop_lines s.rows 0 plan.paths s.lines).lines
          (pop_lines s.rows 0 plan.paths s.lines).waiting)
    ]

way-goes : (way : Way) (s : PairCounts) (next : Counts) → Goes 0 (counts_on s way) next →
    BothGo 0 s (with_counts way next s)
way-goes There s next goes = record { there = goes; back = stays 0 s.back }
way-goes Back s next goes = record { there = stays 0 s.there; back = goes }

pub quiet-goes : (pair : PairPlan) (s : PairCounts) (event : PairEvent) → IsQuiet event →
    BothGo 0 s (pair_step pair s event).counts
unfolding IsQuiet
quiet-goes pair s (Item way) quiet = absurd quiet
quiet-goes pair s Tick quiet = absurd quiet
quiet-goes pair s (Carry way m) quiet =
    way-goes way s (carry (plan_on pair way) (counts_on s way) m).counts
    (goes-carry (plan_on pair way) (counts_on s way) m)
quiet-goes pair s (Take way) quiet =
    way-goes way s (take_one (plan_on pair way) (counts_on s way)).counts
    (goes-one (plan_on pair way) (counts_on s way))

both-stay : (more : ℕ) (s : PairCounts) → BothGo more s s
both-stay more s = record { there = stays more s.there; back = stays more s.back }

pub run-goes : (pair : PairPlan) (s : PairCounts) (events : List PairEvent) → AreQuiet events →
    BothGo 0 s (pair_run pair s events)
unfolding AreQuiet pair_run
run-goes pair s [] quiet = both-stay 0 s
run-goes pair s (event ∷ events) quiet =
    let next : PairCounts = (pair_step pair s event).counts in
    then-both 0 0 s next (pair_run pair next events) (quiet-goes pair s event quiet.0)
    (run-goes pair next events quiet.1)

pub tick-goes : (found : Option (Way × StallCause)) (s : PairCounts) → BothGo 1 s (tick_by found s).counts
tick-goes (Some cause) s = both-stay 1 s
tick-goes None s = record { there = goes-ticked s.there; back = goes-ticked s.back }

pub turn-goes : (pair : PairPlan) (s : PairCounts) → BothGo 1 s (turn_both pair s)
unfolding pair_run
turn-goes pair s =
    let next : PairCounts = (pair_step pair s Tick).counts in
    then-both 1 0 s next (pair_run pair next (behind pair.there.paths pair.back.paths))
    (tick-goes (tick_cause pair s) s)
    (run-goes pair next (behind pair.there.paths pair.back.paths) (quiet-behind pair.there.paths pair.back.paths))

pub turns-go : (n : ℕ) (pair : PairPlan) (s : PairCounts) → BothGo n s (after_turns n pair s)
unfolding after_turns
turns-go zero pair s = both-stay 0 s
turns-go (suc n) pair s =
    let e : 1 + n ≡ suc n = omega arith in
    subst (λ more. BothGo more s (after_turns n pair (turn_both pair s))) e
    (then-both 1 n s (turn_both pair s) (after_turns n pair (turn_both pair s)) (turn-goes pair s)
    (turns-go n pair (turn_both pair s)))

-- ---- they lead on
pub run-reached : (pair : PairPlan) (s : PairCounts) (events : List PairEvent) → IsPairReached pair s →
    IsPairReached pair (pair_run pair s events)
unfolding pair_run
run-reached pair s [] reached = reached
run-reached pair s (event ∷ events) reached =
    run-reached pair (pair_step pair s event).counts events (pair-steps pair s event reached)

pub turn-reached : (pair : PairPlan) (s : PairCounts) → IsPairReached pair s → IsPairReached pair (turn_both pair s)
turn-reached pair s reached = run-reached pair s (pair_turn pair) reached

pub turns-reached : (n : ℕ) (pair : PairPlan) (s : PairCounts) → IsPairReached pair s →
    IsPairReached pair (after_turns n pair s)
unfolding after_turns
turns-reached zero pair s reached = reached
turns-reached (suc n) pair s reached = turns-reached n pair (turn_both pair s) (turn-reached pair s reached)

-- ---- What has landed is all that is due: then no item lands, and a round of the pair is one of the conversation.
pub record BothSettled (pair : PairPlan) (from until : ℕ) (s : PairCounts) : Type 0 where
  pub there : Settled pair.there from until s.there
  pub back : Settled pair.back from until s.back

pub settled-on : (way : Way) (pair : PairPlan) (from until : ℕ) (s : PairCounts) → BothSettled pair from until s →
    Settled (plan_on pair way) from until (counts_on s way)
settled-on There pair from until s settled = settled.there
settled-on Back pair from until s settled = settled.back

settled-way : (plan : Plan) (from until : ℕ) (more : ℕ) (s next : Counts) → Goes more s next →
    Settled plan from until s → Settled plan from until next
settled-way plan from until more s next goes settled = record {
  frames = subst (λ n. Here (frame_dues plan.items) from until n) (sym goes.frames) settled.frames;
  commands = subst (λ n. Here (command_dues plan.items) from until n) (sym goes.commands) settled.commands;
}

pub settled-going : (pair : PairPlan) (from until : ℕ) (more : ℕ) (s next : PairCounts) → BothGo more s next →
    BothSettled pair from until s → BothSettled pair from until next
settled-going pair from until more s next goes settled = record {
  there = settled-way pair.there from until more s.there next.there goes.there settled.there;
  back = settled-way pair.back from until more s.back next.back goes.back settled.back;
}

pub settled-turn : (pair : PairPlan) (from until : ℕ) (s : PairCounts) → BothSettled pair from until s →
    BothSettled pair from until (turn_both pair s)
settled-turn pair from until s settled =
    settled-going pair from until 1 s (turn_both pair s) (turn-goes pair s) settled

pub settled-turns : (n : ℕ) (pair : PairPlan) (from until : ℕ) (s : PairCounts) → BothSettled pair from until s →
    BothSettled pair from until (after_turns n pair s)
settled-turns n pair from until s settled =
    settled-going pair from until n s (after_turns n pair s) (turns-go n pair s) settled

-- an item that is left is due later
not-yet : (dues : List ℕ) (from until count ticks due : ℕ) → Here dues from until count → ticks < until →
    Lands due dues count → due ≤ ticks → ⊥
not-yet dues from until count ticks due here left lands now =
    let late = here.late count lands.0 (omega arith) lands.1 in
    let low = lands.2 in
    omega (arith, late, low, left, now)

item-stalls : (plan : Plan) (from until : ℕ) (s : Counts) → AreInOrder plan → Settled plan from until s →
    s.ticks < until → (land_item plan s).counts ≡ s
item-stalls plan from until s order settled left =
    by (first_due (left_after s.frames s.commands plan.items)) refl
  where
    late : (item : Due) → first_due (left_after s.frames s.commands plan.items) ≡ Some item → tick_of item ≤ s.ticks → ⊥
    late (frame_due due) is now =
        not-yet (frame_dues plan.items) from until s.frames s.ticks due settled.frames left
        (frame-lands s.frames s.commands due plan.items order.0 is) now
    late (command_due due) is now =
        not-yet (command_dues plan.items) from until s.commands s.ticks due settled.commands left
        (command-lands s.frames s.commands due plan.items order.1 is) now

    by : (found : Option Due) → first_due (left_after s.frames s.commands plan.items) ≡ found →
        (land_first found s).counts ≡ s
    by None is = refl
    by (Some item) is = elim (cases_Bool (nat_lt s.ticks (tick_of item))) [
      | inl e ↦ rw e refl
      | inr e ↦ absurd (late item is (ltb-false s.ticks (tick_of item) e))
    ]

module _ (pair : PairPlan) (is : IsPairPlan pair) where
  order : (way : Way) → AreInOrder (plan_on pair way)
  order There = (is.there_plan.is.frames, is.there_plan.is.commands)
  order Back = (is.back_plan.is.frames, is.back_plan.is.commands)

  items-stall : (k : ℕ) (way : Way) (from until : ℕ) (s : PairCounts) → BothSettled pair from until s →
      (counts_on s way).ticks < until → pair_run pair s (replicate k (Item way)) ≡ s
  unfolding pair_run
  items-stall zero way from until s settled left = refl
  items-stall (suc k) way from until s settled left =
      ap (λ c. pair_run pair c (replicate k (Item way)))
      (same-way s way (land_item (plan_on pair way) (counts_on s way)).counts
      (item-stalls (plan_on pair way) from until (counts_on s way) (order way)
      (settled-on way pair from until s settled) left))
      ∙ items-stall k way from until s settled left

  round-turns : (from until : ℕ) (s : PairCounts) → BothSettled pair from until s → s.there.ticks < until →
      s.back.ticks < until → pair_run pair s (pair_round pair) ≡ turn_both pair s
  round-turns from until s settled left left' =
      let there : List PairEvent = replicate (suc (length pair.there.items)) (Item There) in
      let back : List PairEvent = replicate (suc (length pair.back.items)) (Item Back) in
      run-append pair s there (back ++ pair_turn pair)
      ∙ ap (λ c. pair_run pair c (back ++ pair_turn pair))
      (items-stall (suc (length pair.there.items)) There from until s settled left)
      ∙ run-append pair s back (pair_turn pair)
      ∙ ap (λ c. pair_run pair c (pair_turn pair))
      (items-stall (suc (length pair.back.items)) Back from until s settled left')

  -- ---- a round makes more of something, where ticks are left
  together : (s : PairCounts) → IsPairReached pair s → s.there.ticks ≡ s.back.ticks
  together s reached = (goes-near pair s is reached).together

  open-ticks : (s : PairCounts) → IsPairReached pair s → s.there.ticks < pair.there.ticks → is_over pair s ≡ false
  open-ticks s reached left =
      let walks = (is-near pair s is (goes-near pair s is reached)).there in
      let rows = rows-ticks walks.is.slow walks.is.fast walks.is.slip (with_lag pair.lag pair.there) walks.is.is s.there
      (walks-fits (with_lag pair.lag pair.there) s.there walks) in
      let e : nat_le pair.there.ticks s.there.rows ≡ false = grind (arith, rows, left) in
      ap (λ b. b && nat_le pair.back.ticks s.back.rows) e

  pub turn-less : (from until : ℕ) (s : PairCounts) → IsPairReached pair s → BothSettled pair from until s →
      s.there.ticks < until → until ≤ pair.there.ticks →
      pair_bound pair - pair_made (turn_both pair s) < pair_bound pair - pair_made s
  turn-less from until s reached settled left few =
      let same = together s reached in
      subst (λ c. pair_bound pair - pair_made c < pair_bound pair - pair_made s)
      (round-turns from until s settled left (omega (arith, same, left)))
      (pair-round-less pair is s reached (open-ticks s reached (omega (arith, left, few))))

  -- ---- rounds make just so many ticks
  pub turns-ticks : (k from until : ℕ) (s : PairCounts) → IsPairReached pair s → BothSettled pair from until s →
      s.there.ticks ≤ until → until ≤ pair.there.ticks → pair_bound pair - pair_made s ≤ k →
      (after_turns (turns_until k pair until s) pair s).there.ticks ≡ until
  unfolding after_turns turns_until
  turns-ticks zero from until s reached settled high few enough = elim (cases_lt s.there.ticks until) [
    | inl left ↦ let less = turn-less from until s reached settled left few in absurd (omega (arith, less, enough))
    | inr done ↦ omega (arith, done, high)
  ]
  turns-ticks (suc k) from until s reached settled high few enough =
      elim (cases_Bool (nat_le until s.there.ticks)) [
        | inl e ↦
            let done = leb-true until s.there.ticks e in
            rw e (let same : s.there.ticks ≡ until = omega (arith, done, high) in same)
        | inr e ↦
            let left = leb-false until s.there.ticks e in
            let less = turn-less from until s reached settled left few in
            let most = (turn-goes pair s).there.most in
            rw e (turns-ticks k from until (turn_both pair s) (turn-reached pair s reached)
            (settled-turn pair from until s settled) (omega (arith, most, left)) few (omega (arith, less, enough)))
      ]

  -- ---- more rounds than enough change nothing
  enough : (k from until : ℕ) (s : PairCounts) → IsPairReached pair s → BothSettled pair from until s →
      until ≤ pair.there.ticks → pair_bound pair - pair_made s ≤ k →
      turns_until (suc k) pair until s ≡ turns_until k pair until s
  unfolding turns_until
  enough zero from until s reached settled few most = elim (cases_lt s.there.ticks until) [
    | inl left ↦ let less = turn-less from until s reached settled left few in absurd (omega (arith, less, most))
    | inr done ↦ let e : nat_le until s.there.ticks ≡ true = grind (arith, done) in rw e refl
  ]
  enough (suc k) from until s reached settled few most = elim (cases_Bool (nat_le until s.there.ticks)) [
    | inl e ↦ rw e refl
    | inr e ↦
        let left = leb-false until s.there.ticks e in
        let less = turn-less from until s reached settled left few in
        rw e (ap suc (enough k from until (turn_both pair s) (turn-reached pair s reached)
        (settled-turn pair from until s settled) few (omega (arith, less, most))))
  ]

  pub more-turns : (more from until : ℕ) (s : PairCounts) → IsPairReached pair s → BothSettled pair from until s →
      until ≤ pair.there.ticks → turns_until (pair_bound pair + more) pair until s
      ≡ turns_until (pair_bound pair) pair until s
  more-turns zero from until s reached settled few =
      let e : pair_bound pair + 0 ≡ pair_bound pair = omega arith in ap (λ k. turns_until k pair until s) e
  more-turns (suc more) from until s reached settled few =
      let e : pair_bound pair + suc more ≡ suc (pair_bound pair + more) = omega arith in
      ap (λ k. turns_until k pair until s) e
      ∙ enough (pair_bound pair + more) from until s reached settled few (omega arith)
      ∙ more-turns more from until s reached settled few

  -- ---- a round is one of those that are left
  pub turn-turns : (from until : ℕ) (s : PairCounts) → IsPairReached pair s → BothSettled pair from until s →
      s.there.ticks < until → until ≤ pair.there.ticks → turns_until (pair_bound pair) pair until s
      ≡ suc (turns_until (pair_bound pair) pair until (turn_both pair s))
  unfolding turns_until
  turn-turns from until s reached settled left few = by (pair_bound pair) refl
    where
      by : (most : ℕ) → pair_bound pair ≡ most →
          turns_until most pair until s ≡ suc (turns_until most pair until (turn_both pair s))
      by zero e = let less = turn-less from until s reached settled left few in absurd (omega (arith, less, e))
      by (suc k) e =
          let less = turn-less from until s reached settled left few in
          let shut : nat_le until s.there.ticks ≡ false = grind (arith, left) in
          rw shut (ap suc (sym (enough k from until (turn_both pair s) (turn-reached pair s reached)
          (settled-turn pair from until s settled) few (omega (arith, less, e)))))

pub turns-over : (k : ℕ) (pair : PairPlan) (until : ℕ) (s : PairCounts) → until ≤ s.there.ticks →
    turns_until k pair until s ≡ 0
unfolding turns_until
turns-over zero pair until s done = refl
turns-over (suc k) pair until s done = let e : nat_le until s.there.ticks ≡ true = grind (arith, done) in rw e refl
