-- A pair before any event, after one event (Follows), and after rounds; a way beside the other (IsWayBeside).
use Rattle.std.proofs.Common.{◌≡◌, ℕ, zero, suc, ◌+◌, ◌-◌, ◌<◌, ◌≤◌, nat_le, nat_lt, List, [], ◌∷◌, ◌++◌, length}
use Rattle.std.proofs.Common.{replicate, drop, Option, Some, None, option_map, refl, sym, ◌∙◌, ap, subst, arith, inl}
use Rattle.std.proofs.Common.{inr, true, false, slice_index_or, ap₂}
use Rattle.std.proofs.lemmas.Bool.{cases_Bool}
use Rattle.std.proofs.lemmas.List.{drop_all}
use Rattle.law_model.proofs.ListLaws.{map-none}
use Rattle.law_model.specs.Common.{Due, frame_due, command_due, LinePath, LineCounts, Plan, Counts, pop_lines, Start}
use Rattle.law_model.specs.Common.{Leg, Step}
use Rattle.law_model.specs.declared.walk_events.StallCause.{StallCause}
use Rattle.law_model.specs.declared.walk_events.StallCause.TheVariants.{NotDue}
use Rattle.law_model.specs.declared.script_types.Script.{Script}
use Rattle.law_model.specs.declared.item_refusals.Refusal.{Refusal}
use Rattle.law_pair.specs.Common.{IsPair, IsPairWalked, PairPlan, PairCounts, plan_on, counts_on, pair_step, pair_run}
use Rattle.law_pair.specs.Common.{carries_on, pair_round, pair_drain, pair_bound, is_over, left_after, first_due}
use Rattle.law_pair.specs.Common.{tick_cause, land_first, land_item, landed, tick_of, take_said, take_one, with_lag}
use Rattle.law_pair.specs.Common.{IsPairPlan, IsPairReached, way_of, pair_plan, or_else, IsWay, PairStep, on_way, pair_begin}
use Rattle.law_pair.specs.declared.pair_events.Way.{Way}
use Rattle.law_pair.specs.declared.pair_events.Way.TheVariants.{There, Back}
use Rattle.law_pair.specs.declared.pair_events.PairEvent.{PairEvent}
use Rattle.law_pair.specs.declared.pair_events.PairEvent.TheVariants.{Item, Tick, Carry, Take}
use Rattle.law_pair.proofs.PairWayAndPacketLaws.{has-pair-plan, there-taken, back-taken, way-sound}
use Rattle.pair_engine.specs.declared.pair_answers.PairMoved.{PairMoved}
use Rattle.pair_engine.specs.declared.pair_answers.PairMoved.TheVariants.{Stalled}
use Rattle.pair_engine.specs.PairAfterEvent.{Paired, plan_of, leg_on, step_of, with_counts, after, answer_by, GivesWay}
use Rattle.pair_engine.specs.PairAfterEvent.{moved_on, script_on, moved_of, refusal_in}
use Rattle.walk_engine.specs.Common.{GivesRows, HasWindows, answer_by as way_answer, HasLanded}
use Rattle.walk_engine.proofs.WalkRoundAndTotalsLaws.{gives-then, drop-next, replicate-add}
use Rattle.law_pair.proofs.ReachedPairAndStallLaws.{goes-near}
use Rattle.law_pair.proofs.PairMeasureAndDrainLaws.{pair_made, is-near, walks-fits, pair-round-less, pair-turns}
use Rattle.law_pair.proofs.PairMeasureAndDrainLaws.{pair-stops, run-append, kinds, pair-steps, pair-begins}
use Rattle.law_model.specs.members.Damage.{carried}
use Rattle.pair_engine.specs.declared.live_way.LiveWay.{LiveWay}
use Rattle.pair_engine.specs.declared.pair_way.PairWay.{PairWay}
use Rattle.pair_engine.specs.LivePairs.{GoesOn, LiveBeside, PairAgreesNow, PairLives, WayLives}
use Rattle.pair_engine.specs.WayCalls.{CanTickBoth, IsQuiet, Goes, Keeps, TakesRow}
use Rattle.pair_engine.specs.Ways.{leg_beside, pair_counts, StandsAs, LandedAs, IsWayBeside, IsPairWalk}
use Rattle.pair_engine.specs.Ways.{way_counts, walking_of, walking_both, IsNewWay}
use Rattle.pair_engine.proofs.LiveWayLaws.{back-beside, new-counts, new-lives, new-pair-counts, no-rows, seen-lives}
use Rattle.pair_engine.proofs.LiveWayLaws.{still-lives, there-beside, way-alike}
use Rattle.law_walk.specs.Common.{walk_plan}
use Rattle.walk_engine.specs.declared.walk_core.step_answers.Moved.{Moved}
use Rattle.law_walk.proofs.WalkPlanAndPoppedCellLaws.{has-paths, sound-walks}
use Rattle.walk_engine.proofs.OpenedWayLaws.{none-known}
use Rattle.walk_engine.proofs.WayEventAndToldSourceLaws.{landing-stays}

-- ---- Rounds of a pair: items land until they stall, each line is tried once, and so for the rest.
-- ---- events one after another
run-one : (pair : PairPlan) (s : PairCounts) (event : PairEvent) (events : List PairEvent) →
    pair_run pair s (event ∷ events) ≡ pair_run pair (pair_step pair s event).counts events
unfolding pair_run
run-one pair s event events = refl

run-none : (pair : PairPlan) (s : PairCounts) → pair_run pair s [] ≡ s
unfolding pair_run
run-none pair s = refl

-- ---- each line once
pub carry-next : (pair : PairPlan) (way : Way) (s : PairCounts) (paths : List LinePath) (m : ℕ) → m < length paths →
    pair_run pair s (carries_on way m (drop m paths))
    ≡ pair_run pair (pair_step pair s (Carry way m)).counts (carries_on way (m + 1) (drop (m + 1) paths))
unfolding pair_run carries_on
carry-next pair way s paths m h =
    let (x, e) = drop-next paths m h in
    ap (λ xs. pair_run pair s (carries_on way m xs)) e
    ∙ ap (λ k. pair_run pair (pair_step pair s (Carry way m)).counts (carries_on way k (drop k paths)))
    (let f : suc m ≡ m + 1 = omega arith in f)

pub carry-last : (pair : PairPlan) (way : Way) (s : PairCounts) (paths : List LinePath) (m : ℕ) → length paths ≤ m →
    pair_run pair s (carries_on way m (drop m paths)) ≡ s
unfolding pair_run carries_on
carry-last pair way s paths m h = ap (λ xs. pair_run pair s (carries_on way m xs)) (drop_all m paths h)

-- ---- a round
pub round-run : (pair : PairPlan) (s items_there items_back ticked lines_there lines_back : PairCounts) →
    items_there ≡ pair_run pair s (replicate (suc (length pair.there.items)) (Item There)) →
    items_back ≡ pair_run pair items_there (replicate (suc (length pair.back.items)) (Item Back)) →
    ticked ≡ (pair_step pair items_back Tick).counts →
    lines_there ≡ pair_run pair ticked (carries_on There 0 pair.there.paths) →
    lines_back ≡ pair_run pair lines_there (carries_on Back 0 pair.back.paths) →
    pair_run pair lines_back (Take There ∷ Take Back ∷ []) ≡ pair_run pair s (pair_round pair)
round-run pair s items_there items_back ticked lines_there lines_back a b c d e =
    let last : List PairEvent = Take There ∷ Take Back ∷ [] in
    let backs : List PairEvent = carries_on Back 0 pair.back.paths ++ last in
    let carries : List PairEvent = carries_on There 0 pair.there.paths ++ backs in
    let rest : List PairEvent = replicate (suc (length pair.back.items)) (Item Back) ++ Tick ∷ carries in
    ap (λ n. pair_run pair n last) e
    ∙ sym (run-append pair lines_there (carries_on Back 0 pair.back.paths) last)
    ∙ ap (λ n. pair_run pair n backs) d
    ∙ sym (run-append pair ticked (carries_on There 0 pair.there.paths) backs)
    ∙ ap (λ n. pair_run pair n carries) c
    ∙ sym (run-one pair items_back Tick carries)
    ∙ ap (λ n. pair_run pair n (Tick ∷ carries)) b
    ∙ sym (run-append pair items_there (replicate (suc (length pair.back.items)) (Item Back)) (Tick ∷ carries))
    ∙ ap (λ n. pair_run pair n rest) a
    ∙ sym (run-append pair s (replicate (suc (length pair.there.items)) (Item There)) rest)

-- ---- items land until they stall
run-same : (pair : PairPlan) (s : PairCounts) (event : PairEvent) (k : ℕ) → (pair_step pair s event).counts ≡ s →
    pair_run pair s (replicate k event) ≡ s
unfolding pair_run
run-same pair s event zero e = refl
run-same pair s event (suc k) e = ap (λ next. pair_run pair next (replicate k event)) e ∙ run-same pair s event k e

abbrev pub landed_on : PairCounts → Way → ℕ
landed_on s way = (counts_on s way).frames + (counts_on s way).commands

abbrev pub items_on : PairPlan → Way → ℕ
items_on pair way = length (plan_on pair way).items

-- the loop: k items have landed
abbrev pub Landed : PairPlan → Way → PairCounts → PairCounts → Type 0
Landed pair way start s =
    (k : ℕ) × (s ≡ pair_run pair start (replicate k (Item way))) × (landed_on s way ≡ landed_on start way + k)

pub landed-none : (pair : PairPlan) (way : Way) (start : PairCounts) → Landed pair way start start
landed-none pair way start = (0, sym (run-none pair start), omega arith)

pub few-landed : (pair : PairPlan) (s : PairCounts) (way : Way) → IsPairPlan pair → IsPairReached pair s →
    landed_on s way ≤ items_on pair way
few-landed pair s There is reached =
    let near = is-near pair s is (goes-near pair s is reached) in
    let fits = walks-fits (with_lag pair.lag pair.there) s.there near.there in
    let frames = fits.frames in
    let commands = fits.commands in
    let all = kinds pair.there.items in
    omega (arith, frames, commands, all)
few-landed pair s Back is reached =
    let near = is-near pair s is (goes-near pair s is reached) in
    let fits = walks-fits (with_lag pair.lag pair.back) s.back near.back in
    let frames = fits.frames in
    let commands = fits.commands in
    let all = kinds pair.back.items in
    omega (arith, frames, commands, all)

-- an item that lands, or stalls
first-lands : (s : Counts) (found : Option Due) → (land_first found s).cause ≡ None →
    (land_first found s).counts.frames + (land_first found s).counts.commands ≡ s.frames + s.commands + 1
first-lands s None e = absurd cc
first-lands s (Some item) e =
    elim (cases_Bool (nat_lt s.ticks (tick_of item))) [
      | inl early ↦ absurd (let f : Some (NotDue (tick_of item)) ≡ None = rw early at e in cc)
      | inr late ↦ rw late (one-more item)
    ]
  where
    one-more : (item : Due) → (landed item s).frames + (landed item s).commands ≡ s.frames + s.commands + 1
    one-more (frame_due due) = omega arith
    one-more (command_due due) = omega arith

first-stalls : (s : Counts) (found : Option Due) (cause : StallCause) → (land_first found s).cause ≡ Some cause →
    (land_first found s).counts ≡ s
first-stalls s None cause e = refl
first-stalls s (Some item) cause e =
    elim (cases_Bool (nat_lt s.ticks (tick_of item))) [
      | inl early ↦ rw early refl
      | inr late ↦ absurd (let f : None ≡ Some cause = rw late at e in cc)
    ]

some-cause : (way : Way) (found : Option StallCause) (cause : Way × StallCause) →
    option_map {U = Way × StallCause} (λ (cause : StallCause). (way, cause)) found ≡ Some cause →
    (own : StallCause) × (found ≡ Some own)
some-cause way None cause e = absurd cc
some-cause way (Some own) cause e = (own, refl)

item-lands : (pair : PairPlan) (s : PairCounts) (way : Way) → (pair_step pair s (Item way)).cause ≡ None →
    landed_on (pair_step pair s (Item way)).counts way ≡ landed_on s way + 1
item-lands pair s There e =
    first-lands s.there (first_due (left_after s.there.frames s.there.commands pair.there.items))
    (map-none (λ (cause : StallCause). (There, cause)) (land_item pair.there s.there).cause e)
item-lands pair s Back e =
    first-lands s.back (first_due (left_after s.back.frames s.back.commands pair.back.items))
    (map-none (λ (cause : StallCause). (Back, cause)) (land_item pair.back s.back).cause e)

item-stalls : (pair : PairPlan) (s : PairCounts) (way : Way) (cause : Way × StallCause) →
    (pair_step pair s (Item way)).cause ≡ Some cause → (pair_step pair s (Item way)).counts ≡ s
item-stalls pair s There cause e =
    let (own, is) = some-cause There (land_item pair.there s.there).cause cause e in
    ap (λ (c : Counts). record { there = c; back = s.back })
    (first-stalls s.there (first_due (left_after s.there.frames s.there.commands pair.there.items)) own is)
item-stalls pair s Back cause e =
    let (own, is) = some-cause Back (land_item pair.back s.back).cause cause e in
    ap (λ (c : Counts). record { there = s.there; back = c })
    (first-stalls s.back (first_due (left_after s.back.frames s.back.commands pair.back.items)) own is)

-- ---- a pair that keeps its scripts
pub keeps : (a b c : Paired) (s : PairCounts) → b ≡ with_counts a b.counts → c ≡ with_counts b s →
    c ≡ with_counts a c.counts
keeps a b c s one two =
    two ∙ ap (λ (x : Script). record { there = x; back = b.back; counts = s }) (ap (λ (p : Paired). p.there) one)
    ∙ ap (λ (x : Script). record { there = a.there; back = x; counts = s }) (ap (λ (p : Paired). p.back) one)
    ∙ ap (with_counts a) (sym (ap (λ (p : Paired). p.counts) two))

pub same-plan : (a b : Paired) → b ≡ with_counts a b.counts → plan_of b ≡ plan_of a
same-plan a b e = ap plan_of e

few-in : (a b : Paired) (way : Way) → b ≡ with_counts a b.counts → IsPair b.there b.back →
    IsPairWalked b.there b.back b.counts → landed_on b.counts way ≤ items_on (plan_of a) way
few-in a b way e fits walked =
    subst (λ plan. landed_on b.counts way ≤ items_on plan way) (same-plan a b e)
    (few-landed (plan_of b) b.counts way (has-pair-plan b.there b.back fits) walked)

-- ---- an item more, or none
module _ (was loop now : Paired) (way : Way) (kept : loop ≡ with_counts was loop.counts)
    (next : now ≡ after loop (Item way)) (fits : IsPair now.there now.back)
    (walked : IsPairWalked now.there now.back now.counts) (has : Landed (plan_of was) way was.counts loop.counts) where
  abbrev plan : PairPlan
  plan = plan_of was

  pub still : now ≡ with_counts was now.counts
  still = keeps was loop now _ kept next

  few : landed_on now.counts way ≤ items_on (plan_of was) way
  few = few-in was now way still fits walked

  next-is : now.counts ≡ (pair_step (plan_of was) loop.counts (Item way)).counts
  next-is = ap (λ (p : Paired). p.counts) next
      ∙ ap (λ (p : PairPlan). (pair_step p loop.counts (Item way)).counts) (same-plan was loop kept)

  cause-is : (pair_step (plan_of was) loop.counts (Item way)).cause ≡ (step_of loop (Item way)).cause
  cause-is = sym (ap (λ (p : PairPlan). (pair_step p loop.counts (Item way)).cause) (same-plan was loop kept))

  pub item-turn : (step_of loop (Item way)).cause ≡ None → Landed (plan_of was) way was.counts now.counts
      × (items_on (plan_of was) way - landed_on now.counts way < items_on (plan_of was) way - landed_on loop.counts way)
  item-turn moves =
      let (k, run, sum) = has in
      let most = few in
      let last : PairCounts = pair_run plan was.counts (replicate k (Item way)) in
      let one = ap (λ (c : PairCounts). landed_on c way) next-is
      ∙ item-lands plan loop.counts way (cause-is ∙ moves) in (
        (
          k + 1,
          next-is ∙ ap (λ (c : PairCounts). (pair_step plan c (Item way)).counts) run
              ∙ sym (run-none plan (pair_step plan last (Item way)).counts) ∙ sym (run-one plan last (Item way) [])
              ∙ sym (run-append plan was.counts (replicate k (Item way)) (Item way ∷ []))
              ∙ ap (pair_run plan was.counts) (sym (replicate-add k 1 (Item way))),
          omega (arith, one, sum),
        ),
        omega (arith, one, most),
      )

  pub item-end : (cause : Way × StallCause) → (step_of loop (Item way)).cause ≡ Some cause → now
      ≡ with_counts was (pair_run (plan_of was) was.counts (replicate (suc (items_on (plan_of was) way)) (Item way)))
  item-end cause stalls =
      let (k, run, sum) = has in
      let most = few in
      let same = item-stalls plan loop.counts way cause (cause-is ∙ stalls) in
      let on = ap (λ (c : PairCounts). landed_on c way) (next-is ∙ same) in
      let j : ℕ = suc (items_on plan way) - k in
      still ∙ ap (with_counts was) (next-is ∙ same ∙ sym (run-same plan loop.counts (Item way) j same)
      ∙ ap (λ (c : PairCounts). pair_run plan c (replicate j (Item way))) run
      ∙ sym (run-append plan was.counts (replicate k (Item way)) (replicate j (Item way)))
      ∙ ap (pair_run plan was.counts) (sym (replicate-add k j (Item way)) ∙ ap (λ n. replicate n (Item way))
      (let e : k + j ≡ suc (items_on plan way) = omega (arith, most, sum, on) in e)))

-- ---- what an answer says of the cause
pub moved-none : (cause : Option (Way × StallCause)) (why : Option Refusal) (answer : PairMoved) →
    answer ≡ answer_by cause why → ((way : Way) (found : StallCause) → answer ≡ Stalled way found → ⊥) → cause ≡ None
moved-none None why answer is not = refl
moved-none (Some cause) why answer is not = absurd (not cause.0 cause.1 is)

pub stalled-some : (cause : Option (Way × StallCause)) (why : Option Refusal) (way : Way) (found : StallCause) →
    Stalled way found ≡ answer_by cause why → (own : Way × StallCause) × (cause ≡ Some own)
stalled-some None None way found is = absurd cc
stalled-some None (Some why) way found is = absurd cc
stalled-some (Some cause) why way found is = (cause, refl)

-- ---- rows never fall, and frames are given one after another
said-rise : (s : Counts) (lines : List LineCounts) (waiting : Option ℕ)
    → s.rows ≤ (take_said s lines waiting).counts.rows
said-rise s lines None = omega arith
said-rise s lines (Some line) = omega arith

one-rise : (plan : Plan) (s : Counts) → s.rows ≤ (take_one plan s).counts.rows
one-rise plan s =
    elim (cases_Bool (nat_le plan.ticks s.rows)) [
      | inl e ↦ rw e (omega arith)
      | inr e ↦ rw e (said-rise s (pop_lines s.rows 0 plan.paths s.lines).lines
          (pop_lines s.rows 0 plan.paths s.lines).waiting)
    ]

pub take-rise : (pair : PairPlan) (s : PairCounts) (own way : Way) →
    (counts_on s way).rows ≤ (counts_on (pair_step pair s (Take own)).counts way).rows
take-rise pair s There There = one-rise pair.there s.there
take-rise pair s There Back = omega arith
take-rise pair s Back There = omega arith
take-rise pair s Back Back = one-rise pair.back s.back

-- a round, by its last rows
pub round-rows : (pair : PairPlan) (s ready one two : PairCounts) →
    pair_run pair ready (Take There ∷ Take Back ∷ []) ≡ pair_run pair s (pair_round pair) →
    one ≡ (pair_step pair ready (Take There)).counts → two ≡ (pair_step pair one (Take Back)).counts →
    two ≡ pair_run pair s (pair_round pair)
round-rows pair s ready one two whole a b =
    b ∙ ap (λ (n : PairCounts). (pair_step pair n (Take Back)).counts) a
    ∙ sym (run-none pair (pair_step pair (pair_step pair ready (Take There)).counts (Take Back)).counts)
    ∙ sym (run-one pair (pair_step pair ready (Take There)).counts (Take Back) [])
    ∙ sym (run-one pair ready (Take There) (Take Back ∷ [])) ∙ whole

-- ---- the frames of one list of events after another
leg-same : (a b : Paired) → b ≡ with_counts a b.counts → (way : Way) → leg_on b way ≡ leg_on a way
leg-same a b e There = ap (λ (p : Paired). leg_on p There) e
leg-same a b e Back = ap (λ (p : Paired). leg_on p Back) e

pub gives-more : {Out : Type 0} (stands_for : Out → Start → List (List ℕ) → Type 0) (was middle now : Out) (way : Way)
    (a b c : Paired) → b ≡ with_counts a b.counts → (counts_on a.counts way).rows ≤ (counts_on b.counts way).rows →
    (counts_on b.counts way).rows ≤ (counts_on c.counts way).rows →
    GivesWay stands_for was middle a b way → GivesWay stands_for middle now b c way →
    GivesWay stands_for was now a c way
gives-more stands_for was middle now way a b c same up more one two =
    gives-then stands_for was middle now (leg_on a way) (counts_on a.counts way).rows
    (counts_on b.counts way).rows (counts_on c.counts way).rows up more one
    (subst (λ (leg : Leg). GivesRows stands_for middle now leg (counts_on b.counts way).rows
    (counts_on c.counts way).rows) (leg-same a b same way) two)

-- those of two rows of a round
pub gives-both : {Out : Type 0} (stands_for : Out → Start → List (List ℕ) → Type 0) (was middle now : Out) (way : Way)
    (s0 s1 s2 s3 : Paired) → s1 ≡ with_counts s0 s1.counts → s2 ≡ with_counts s0 s2.counts →
    (counts_on s1.counts way).rows ≡ (counts_on s0.counts way).rows →
    (counts_on s1.counts way).rows ≤ (counts_on s2.counts way).rows →
    (counts_on s2.counts way).rows ≤ (counts_on s3.counts way).rows →
    GivesWay stands_for was middle s1 s2 way → GivesWay stands_for middle now s2 s3 way →
    GivesWay stands_for was now s0 s3 way
gives-both stands_for was middle now way s0 s1 s2 s3 k1 k2 rows up more one two =
    gives-more stands_for was middle now way s0 s2 s3 k2 (omega (arith, rows, up)) more
    (subst (λ n. GivesRows stands_for was middle (leg_on s0 way) n (counts_on s2.counts way).rows) rows
    (subst (λ (leg : Leg). GivesRows stands_for was middle leg (counts_on s1.counts way).rows
    (counts_on s2.counts way).rows) (leg-same s0 s1 k1 way) one)) two

-- ---- a round more, where rows are left
pub round-more : (a b c : Paired) → b ≡ with_counts a b.counts → IsPair b.there b.back →
    IsPairWalked b.there b.back b.counts → is_over (plan_of b) b.counts ≡ false →
    c ≡ with_counts b (pair_run (plan_of b) b.counts (pair_round (plan_of b))) →
    (pair_bound (plan_of a) - pair_made c.counts < pair_bound (plan_of a) - pair_made b.counts)
    × (pair_drain (pair_bound (plan_of a)) (plan_of a) c.counts
    ≡ pair_drain (pair_bound (plan_of a)) (plan_of a) b.counts)
round-more a b c e fits walked open_ after =
    let is = has-pair-plan b.there b.back fits in
    subst (λ (plan : PairPlan). (pair_bound plan - pair_made c.counts < pair_bound plan - pair_made b.counts)
    × (pair_drain (pair_bound plan) plan c.counts ≡ pair_drain (pair_bound plan) plan b.counts))
    (same-plan a b e)
    (subst (λ (n : PairCounts). (pair_bound (plan_of b) - pair_made n < pair_bound (plan_of b) - pair_made b.counts)
    × (pair_drain (pair_bound (plan_of b)) (plan_of b) n
    ≡ pair_drain (pair_bound (plan_of b)) (plan_of b) b.counts))
    (sym (ap (λ (p : Paired). p.counts) after))
    (pair-round-less (plan_of b) is b.counts walked open_, pair-turns (plan_of b) b.counts is walked open_))

-- ---- all rows of both ways are taken
pub over-rows : (a b : Paired) → b ≡ with_counts a b.counts → IsPair b.there b.back →
    IsPairWalked b.there b.back b.counts → is_over (plan_of b) b.counts ≡ true →
    (b.counts.there.rows ≡ a.there.config.ticks) × (b.counts.back.rows ≡ a.back.config.ticks)
over-rows a b e fits walked over =
    let stops = sym (pair-stops (plan_of b) b.counts (pair_bound (plan_of b)) over) in (
      ap (λ (s : PairCounts). s.there.rows) stops ∙ there-taken b.there b.back b.counts fits walked
          ∙ ap (λ (p : Paired). p.there.config.ticks) e,
      ap (λ (s : PairCounts). s.back.rows) stops ∙ back-taken b.there b.back b.counts fits walked
          ∙ ap (λ (p : Paired). p.back.config.ticks) e,
    )

-- ---- What is known of a way and the other one, and what a call that the other doesn't see leaves of that.
-- what both hold
pub lives-of : (there back : PairWay) → IsPairWalk there back →
    PairLives there.script back.script (walking_both there.live back.live)
lives-of there back walk = record {
  fits = walk.pair;
  walked = walk.walked;
  there_way = walk.there_way.lives;
  back_way = walk.back_way.lives;
}

pub there-live : (there back : PairWay) → IsPairWalk there back →
    LiveBeside there.script back.script (walking_of there.live) (walking_of back.live)
there-live there back walk =
    there-beside there.script back.script (walking_both there.live back.live) (lives-of there back walk)

pub back-live : (there back : PairWay) → IsPairWalk there back →
    LiveBeside back.script there.script (walking_of back.live) (walking_of there.live)
back-live there back walk =
    back-beside there.script back.script (walking_both there.live back.live) (lives-of there back walk)

-- a way and the other one, each in its place
abbrev pub there_of : Way → PairWay → PairWay → PairWay
there_of There own other = own
there_of Back own other = other

-- each way beside the other one
abbrev AreWays : PairWay → PairWay → Type 0
AreWays own other = IsWayBeside other own × IsWayBeside own other

are-ways : (way : Way) (own other : PairWay) → IsPairWalk (there_of way own other) (there_of way other own) →
    AreWays own other
are-ways There own other walk = (walk.there_way, walk.back_way)
are-ways Back own other walk = (walk.back_way, walk.there_way)

-- a way that moved so
quiet-own : (other own now : PairWay) → IsWayBeside other own → IsQuiet own now →
    StandsAs (leg_beside own other) now → LandedAs (leg_beside own other) now → IsWayBeside other now
quiet-own other own now is quiet stands landed = record {
  lives = subst (λ (x : Script). WayLives x other.script other.live.core.sink.taken (walking_of now.live))
      (sym quiet.script)
      (still-lives own.script other.script other.live.core.sink.taken (walking_of own.live) (walking_of now.live)
      is.lives quiet.still stands);
  windows = subst (λ (x : Script). HasWindows x.config now.live.core.lines) (sym quiet.script)
      (λ m low. ap (λ windows. slice_index_or windows m []) quiet.windows ∙ is.windows m low);
  landed = subst (λ (x : Script). LandedAs (way_of x other.script) now) (sym quiet.script) landed;
}

-- and the other one, which sees its script and its rows alone
seen-other : (other own now : PairWay) → IsWayBeside own other → now.script ≡ own.script →
    now.live.core.sink.taken ≡ own.live.core.sink.taken → IsWayBeside now other
seen-other other own now is script rows = record {
  lives = subst (λ (x : Script). WayLives other.script x now.live.core.sink.taken (walking_of other.live)) (sym script)
      (seen-lives other.script own.script own.live.core.sink.taken now.live.core.sink.taken (walking_of other.live)
      rows is.lives);
  windows = is.windows;
  landed = subst (λ (x : Script). LandedAs (way_of other.script x) other) (sym script) is.landed;
}

-- a way in which nothing lands, whatever becomes of both live halves
abbrev pub with_live : PairWay → LiveWay → PairWay
with_live own now = record own { live = now }

kept-own : (other own : PairWay) (other_now now : LiveWay) → IsWayBeside other own →
    WayLives own.script other.script other_now.core.sink.taken (walking_of now) →
    Keeps (walking_of own.live) (walking_of now) → IsWayBeside (with_live other other_now) (with_live own now)
kept-own other own other_now now is lives keeps = record {
  lives = lives;
  windows = λ m low. ap (λ windows. slice_index_or windows m []) keeps.windows ∙ is.windows m low;
  landed = landing-stays (leg_beside own other) (way_counts own) (way_counts (with_live own now)) own.landing
      keeps.frames keeps.commands is.landed;
}

-- ---- a tick
-- each container comes as the lines' windows have it, which are the scripts'
pub can-tick-both : (there back : PairWay) → IsPairWalk there back →
    tick_cause (pair_plan there.script back.script) (pair_counts there back) ≡ None →
    CanTickBoth there.script back.script (walking_both there.live back.live)
can-tick-both there back walk free = record { lives = lives-of there back walk; free = free; agrees = agrees }
  where
    agrees : PairAgreesNow there.script back.script (walking_both there.live back.live)
    agrees There m low = ap (λ windows. carried windows there.live.core.source.core.ticks)
        (sym (walk.there_way.windows m low))
    agrees Back m low = ap (λ windows. carried windows back.live.core.source.core.ticks)
        (sym (walk.back_way.windows m low))

pub tick-walk : (there back : PairWay) (there_now back_now : LiveWay) (next : PairCounts) → IsPairWalk there back →
    GoesOn there.script back.script next (walking_both there_now back_now) →
    Keeps (walking_of there.live) (walking_of there_now) → Keeps (walking_of back.live) (walking_of back_now) →
    IsPairWalk (with_live there there_now) (with_live back back_now)
tick-walk there back there_now back_now next walk goes there_keeps back_keeps = record {
  pair = walk.pair;
  walked = goes.lives.walked;
  there_way = kept-own back there back_now there_now walk.there_way goes.lives.there_way there_keeps;
  back_way = kept-own there back there_now back_now walk.back_way goes.lives.back_way back_keeps;
}

-- ---- Why a pair stalls, and what an event of one way leaves of the pair.
-- the answer of one way, as that of the pair
pub answer-on : (way : Way) (cause : Option StallCause) (why : Option Refusal) →
    moved_on way (way_answer cause why) ≡ answer_by (option_map (λ cause. (way, cause)) cause) why
answer-on way None None = refl
answer-on way None (Some why) = refl
answer-on way (Some cause) why = refl

-- ---- the first cause of a tick
pub cause-here : (d r : Option (Way × StallCause)) (cause : Way × StallCause) → d ≡ Some cause →
    Some cause ≡ or_else d r
cause-here d r cause e = sym (ap (λ x. or_else x r) e)

pub cause-later : (d r found : Option (Way × StallCause)) → d ≡ None → found ≡ r → found ≡ or_else d r
cause-later d r found none e = e ∙ sym (ap (λ x. or_else x r) none)

-- ---- What an event leaves of a pair.
-- a pair, as it is seen
abbrev pub paired : PairWay → PairWay → Paired
paired there back = record { there = there.script; back = back.script; counts = pair_counts there back }

abbrev pub pair_of : Way → PairWay → PairWay → Paired
pair_of way own other = paired (there_of way own other) (there_of way other own)

-- it goes from one event to the next, as it was seen
pub record Follows (there_now back_now : PairWay) (seen : Paired) (event : PairEvent) (answer : PairMoved) : Type 0 where
  pub walk : IsPairWalk there_now back_now
  pub pair : paired there_now back_now ≡ after seen event
  pub moved : answer ≡ moved_of seen event

follows : (there back there_now back_now : PairWay) (event : PairEvent) (next : PairStep) (why : Option Refusal)
    (answer : PairMoved) → IsPairWalk there back → step_of (paired there back) event ≡ next →
    refusal_in (paired there back) event ≡ why → there_now.script ≡ there.script → back_now.script ≡ back.script →
    IsWayBeside back_now there_now → IsWayBeside there_now back_now → pair_counts there_now back_now ≡ next.counts →
    answer ≡ answer_by next.cause why → Follows there_now back_now (paired there back) event answer
follows there back there_now back_now event next why answer walk is refuses a b one two counts moved =
    let was : Paired = paired there back in
    let now : PairCounts = pair_counts there_now back_now in
    let same : now ≡ (step_of was event).counts = counts ∙ sym (ap (λ (x : PairStep). x.counts) is) in
    record {
      walk = record {
        pair = subst (λ (x : Script). IsPair x back_now.script) (sym a)
            (subst (λ (x : Script). IsPair there.script x) (sym b) walk.pair);
        walked = subst (λ (x : Script). IsPairWalked x back_now.script now) (sym a)
            (subst (λ (x : Script). IsPairWalked there.script x now) (sym b)
            (subst (IsPairWalked there.script back.script) (sym same)
            (pair-steps (plan_of was) was.counts event walk.walked)));
        there_way = one;
        back_way = two;
      };
      pair = ap (λ (x : Script). record { there = x; back = back_now.script; counts = now }) a
          ∙ ap (λ (x : Script). record { there = there.script; back = x; counts = now }) b ∙ ap (with_counts was) same;
      moved = moved ∙ sym (ap (λ (x : PairStep). answer_by x.cause (refusal_in was event)) is
          ∙ ap (answer_by next.cause) refuses);
    }

-- an event of one way
way-follows : (way : Way) (own other own_now other_now : PairWay) (event : PairEvent) (next : Step)
    (why : Option Refusal) (answer : Moved) → IsPairWalk (there_of way own other) (there_of way other own) →
    step_of (pair_of way own other) event ≡ on_way way next (pair_of way own other).counts →
    refusal_in (pair_of way own other) event ≡ why →
    own_now.script ≡ own.script → other_now.script ≡ other.script → IsWayBeside other_now own_now →
    IsWayBeside own_now other_now → way_counts own_now ≡ next.counts → way_counts other_now ≡ way_counts other →
    answer ≡ way_answer next.cause why → Follows (there_of way own_now other_now) (there_of way other_now own_now)
    (pair_of way own other) event (moved_on way answer)
way-follows There own other own_now other_now event next why answer walk is refuses a b one two counts same moved =
    follows own other own_now other_now event (on_way There next (pair_counts own other)) why (moved_on There answer)
    walk is refuses a b one two (ap₂ (λ (s t : Counts). record { there = s; back = t }) counts same)
    (ap (moved_on There) moved ∙ answer-on There next.cause why)
way-follows Back own other own_now other_now event next why answer walk is refuses a b one two counts same moved =
    follows other own other_now own_now event (on_way Back next (pair_counts other own)) why (moved_on Back answer)
    walk is refuses b a two one (ap₂ (λ (s t : Counts). record { there = s; back = t }) same counts)
    (ap (moved_on Back) moved ∙ answer-on Back next.cause why)

-- the other way sees nothing of it
pub quiet-follows : (way : Way) (own other now : PairWay) (event : Way → PairEvent) (next : Leg → Counts → Step)
    (why : Leg → Counts → Option Refusal) (answer : Moved) →
    IsPairWalk (there_of way own other) (there_of way other own) → step_of (pair_of way own other) (event way)
    ≡ on_way way (next (leg_beside own other) (way_counts own)) (pair_of way own other).counts →
    refusal_in (pair_of way own other) (event way) ≡ why (leg_beside own other) (way_counts own) →
    IsQuiet own now → ((script : Script) → StandsAs (way_of own.script script) own →
    LandedAs (way_of own.script script) own → Goes (way_of own.script script) now
    (next (way_of own.script script) (way_counts own)) (why (way_of own.script script) (way_counts own)) answer) →
    Follows (there_of way now other) (there_of way other now) (pair_of way own other) (event way) (moved_on way answer)
quiet-follows way own other now event next why answer walk is refuses quiet moves =
    let (own_way, other_way) = are-ways way own other walk in
    let goes = moves other.script own_way.lives.stands own_way.landed in
    way-follows way own other now other (event way) (next (leg_beside own other) (way_counts own))
    (why (leg_beside own other) (way_counts own)) answer walk is refuses quiet.script refl
    (quiet-own other own now own_way quiet goes.stands goes.landed)
    (seen-other other own now other_way quiet.script quiet.still.rows) goes.counts refl goes.moved

-- a row of a way
pub take-follows : (way : Way) (own other : PairWay) (own_now other_now : LiveWay) (answer : Moved) →
    IsPairWalk (there_of way own other) (there_of way other own) → step_of (pair_of way own other) (Take way)
    ≡ on_way way (take_one (walk_plan (leg_beside own other)) (way_counts own)) (pair_of way own other).counts →
    TakesRow own.script other.script (walking_of own.live) (walking_of other.live) (walking_of own_now)
    (walking_of other_now) answer → Keeps (walking_of own.live) (walking_of own_now) →
    Keeps (walking_of other.live) (walking_of other_now) →
    Follows (there_of way (with_live own own_now) (with_live other other_now))
    (there_of way (with_live other other_now) (with_live own own_now)) (pair_of way own other) (Take way)
    (moved_on way answer)
take-follows way own other own_now other_now answer walk is takes own_keeps other_keeps =
    let (own_way, other_way) = are-ways way own other walk in
    way-follows way own other (with_live own own_now) (with_live other other_now) (Take way)
    (take_one (walk_plan (leg_beside own other)) (way_counts own)) None answer walk is refl refl refl
    (kept-own other own other_now own_now own_way takes.own_way own_keeps)
    (kept-own own other own_now other_now other_way takes.other_way other_keeps) takes.own_counts
    takes.other_counts takes.moved

-- as it is seen from without
pub seen-follows : {there_now back_now : PairWay} {said : PairMoved} (p q : Paired) (at way : Way)
    (event : Way → PairEvent) (answer : Moved) → p ≡ q → at ≡ way → said ≡ moved_on at answer →
    Follows there_now back_now p (event way) (moved_on way answer) → Follows there_now back_now q (event at) said
seen-follows p q at way event answer view way_is is now = record {
  walk = now.walk;
  pair = now.pair ∙ ap (λ (x : Paired). after x (event way)) view ∙ ap (λ w. after q (event w)) (sym way_is);
  moved = is ∙ ap (λ w. moved_on w answer) way_is ∙ now.moved ∙ ap (λ (x : Paired). moved_of x (event way)) view
      ∙ ap (λ w. moved_of q (event w)) (sym way_is);
}

-- ---- there is a path for each line
pub paths-size : (script other : Script) → IsWay script →
    script.config.lines ≡ length (walk_plan (way_of script other)).paths
paths-size script other is =
    let sound = way-sound script other is in
    sym (has-paths (way_of script other) (sound-walks (way_of script other) sound) ∙ sound.network.windows_each)

pub line-in : (pair : Paired) (way : Way) (line : ℕ) → IsPair pair.there pair.back →
    line < length (plan_on (plan_of pair) way).paths → line < (script_on pair way).config.lines
line-in pair There line is low =
    let size = paths-size pair.there pair.back is.there_way in omega (arith, size, low)
line-in pair Back line is low =
    let size = paths-size pair.back pair.there is.back_way in omega (arith, size, low)

-- ---- A way before any event.
new-beside : (own other : PairWay) → IsWay own.script → IsNewWay own.script own → other.live.core.sink.taken ≡ 0 →
    IsWayBeside other own
new-beside own other is new none =
    let alike = way-alike own.script.config own.script other.script is refl in
    record {
      lives = new-lives own.script.config own.script other.script (walking_of own.live) refl alike new.live
          other.live.core.sink.taken none;
      windows = new.live.windows;
      landed = subst (λ (s : Counts). HasLanded (leg_beside own other) s own.landing)
          (sym (new-counts own.script.config own.script other.script (walking_of own.live) refl alike new.live))
          (none-known (leg_beside own other) own.landing new.landing);
    }

-- ---- a pair before any event
pub begun-counts : (there back : PairWay) → IsPair there.script back.script → IsNewWay there.script there →
    IsNewWay back.script back → pair_counts there back ≡ pair_begin (pair_plan there.script back.script)
begun-counts there back pair one two =
    new-pair-counts there.script.config back.script.config there.script back.script
    (walking_both there.live back.live) pair refl refl
    (way-alike there.script.config there.script back.script pair.there_way refl)
    (way-alike back.script.config back.script there.script pair.back_way refl) one.live two.live

pub begun-pair : (there back : PairWay) → IsPair there.script back.script → IsNewWay there.script there →
    IsNewWay back.script back → IsPairWalk there back
begun-pair there back pair one two =
    let there_alike = way-alike there.script.config there.script back.script pair.there_way refl in
    let back_alike = way-alike back.script.config back.script there.script pair.back_way refl in
    record {
      pair = pair;
      walked = subst (IsPairWalked there.script back.script) (sym (begun-counts there back pair one two))
          (pair-begins (pair_plan there.script back.script));
      there_way = new-beside there back pair.there_way one
          (no-rows back.script.config back.script there.script (walking_of back.live) refl back_alike two.live);
      back_way = new-beside back there pair.back_way two
          (no-rows there.script.config there.script back.script (walking_of there.live) refl there_alike one.live);
    }
