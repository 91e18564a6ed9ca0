-- Some event of each round of a pair moves and raises its measure, so that a drain of rounds ends within a bound.
use Rattle.std.proofs.Common.{◌≡◌, ◌⊎◌, ℕ, zero, suc, ◌+◌, ◌<◌, inl, inr, List, [], ◌∷◌, ◌++◌, length, replicate, Contains}
use Rattle.std.proofs.Common.{sum_by, Option, Some, None, option_map, refl, sym, ◌∙◌, ap, subst, arith, leb-false, ◌-◌}
use Rattle.std.proofs.Common.{◌/◌, ◌%◌, ◌==◌, ◌*◌, ◌≤◌, nat_le, true, false, le-leb, eq-eqb, leb-true}
use Rattle.law_model.specs.Common.{LinePath, Plan, Counts, LineCounts, carry, tick, step, used_in, sum_delays}
use Rattle.law_model.specs.declared.walk_events.Event.{Event}
use Rattle.law_model.specs.declared.walk_events.StallCause.{StallCause}
use Rattle.law_progress.specs.Progress.{IsPlan, IsReached, LineFits, Fits, made, HasLine, cells_popped, IsProgress}
use Rattle.law_progress.proofs.EventBoundAndStallCauseLaws.{each-map, carry-kept, take-kept}
use Rattle.law_progress.proofs.RisingRoundsLaws.{Rounds, AreRising, round-less, drain-turn, drain-over}
use Rattle.law_progress.proofs.StalledEventLaws.{is_progress}
use Rattle.law_progress.proofs.RoundProgressAndDrainLaws.{rows-ticks, reached-fits, reached-moves, inbox-fits}
use Rattle.law_progress.proofs.RoundProgressAndDrainLaws.{counts-bounded}
pub use Rattle.law_progress.proofs.RoundProgressAndDrainLaws.{kinds}
use Rattle.law_pair.specs.Common.{PairPlan, PairCounts, plan_on, counts_on, with_counts, land_item, take_one}
use Rattle.law_pair.specs.Common.{tick_cause, tick_by, pair_step, carries_on, pair_round, with_lag, IsPairPlan}
use Rattle.law_pair.specs.Common.{HasWayLine, IsPairProgress, IsOpen, pair_run, pair_begin, is_over, pair_drain}
use Rattle.law_pair.specs.Common.{pair_bound, IsPairReached, SomePairProgress}
use Rattle.law_pair.specs.declared.pair_events.Way.{Way}
use Rattle.law_pair.specs.declared.pair_events.Way.TheVariants.{There, Back}
use Rattle.law_pair.specs.declared.pair_events.PairEvent.{PairEvent}
use Rattle.law_pair.specs.declared.pair_events.PairEvent.TheVariants.{Item, Tick, Carry, Take}
use Rattle.law_pair.proofs.NextItemAndOneWayEventLaws.{way_made, HasSaid, OneWay, Grows, item-leads, item-grows}
use Rattle.law_pair.proofs.NextItemAndOneWayEventLaws.{accept-moves, command-moves, carry-leads, carry-more}
use Rattle.law_pair.proofs.NextItemAndOneWayEventLaws.{take-leads, take-as, back-none}
use Rattle.law_pair.proofs.ReachedPairAndStallLaws.{IsFree, tick-free, free-both, IsGoing, both-free, can-go-near}
use Rattle.law_pair.proofs.ReachedPairAndStallLaws.{step-goes, goes-near, same-way, own-counts}
use Rattle.law_model.specs.session.Scenario.{packets_in}
use Rattle.std.proofs.lemmas.Bool.{cases_Bool, and_parts}
use Rattle.std.proofs.lemmas.List.Elements.{Contains-append_left, Contains-append_right}
use Rattle.law_model.specs.declared.walk_events.Event.TheVariants as walk

-- ---- Some event of a pair moves where rows are left.
-- ---- the measure: the ticks of both ways at once, and what is counted of each
abbrev pub pair_made : PairCounts → ℕ
pair_made s = s.there.ticks + way_made s.there + way_made s.back

abbrev pub PairGrows : PairCounts → PairCounts → Type 0
PairGrows s next = (next ≡ s) ⊎ (pair_made s < pair_made next)

-- a way that can walk with a plan, and has
pub record Walks (plan : Plan) (s : Counts) : Type 0 where
  pub is : IsPlan plan
  pub reached : IsReached plan s
  pub said : HasSaid s

pub walks-fits : (plan : Plan) (s : Counts) → Walks plan s → Fits plan s
walks-fits plan s walks = reached-fits plan s walks.is walks.reached

carry-grows : (plan : Plan) (s : Counts) (m : ℕ) → Walks plan s → Grows s (carry plan s m).counts
carry-grows plan s m walks =
    elim (carry-kept walks.is.slow walks.is.fast walks.is.slip plan s walks.is.is (walks-fits plan s walks) m) [
      | inl same ↦ inl same.0
      | inr more ↦ inr (carry-more plan s m more.1)
    ]

take-grows : (plan : Plan) (s : Counts) → Walks plan s → Grows s (take_one plan s).counts
take-grows plan s walks =
    elim (take-kept walks.is.slow walks.is.fast walks.is.slip plan s walks.is.is (walks-fits plan s walks)) [
      | inl same ↦ inl ((take-as plan s walks.said).same same.0)
      | inr more ↦ inr ((take-as plan s walks.said).grows more.1)
    ]

-- ---- a round tries each event that names a line of its way
carries-try : (way : Way) (n m : ℕ) (paths : List LinePath) → m < length paths →
    Contains (carries_on way n paths) (Carry way (n + m))
unfolding carries_on
carries-try way n m [] h = absurd (omega (arith, h))
carries-try way n zero (path ∷ paths) h = (0, omega arith, ap (Carry way) (let e : n ≡ n + 0 = omega arith in e))
carries-try way n (suc m) (path ∷ paths) h =
    let e : suc n + m ≡ n + suc m = omega arith in
    Contains-append_right (Carry way n ∷ []) (carries_on way (suc n) paths) (Carry way (n + suc m))
    (subst (λ k. Contains (carries_on way (suc n) paths) (Carry way k)) e
    (carries-try way (suc n) m paths (omega (arith, h))))

module _ (pair : PairPlan) where
  abbrev items : Way → List PairEvent
  items way = replicate (suc (length (plan_on pair way).items)) (Item way)

  abbrev carries : Way → List PairEvent
  carries way = carries_on way 0 (plan_on pair way).paths

  abbrev takes : List PairEvent
  takes = Take There ∷ Take Back ∷ []

  abbrev last : List PairEvent
  last = Tick ∷ (carries There ++ (carries Back ++ takes))

  in-last : (event : PairEvent) → Contains last event → Contains (pair_round pair) event
  in-last event has =
      Contains-append_right (items There) (items Back ++ last) event
      (Contains-append_right (items Back) last event has)

  behind-tick : (event : PairEvent) → Contains (carries There ++ (carries Back ++ takes)) event →
      Contains (pair_round pair) event
  behind-tick event has =
      in-last event (Contains-append_right (Tick ∷ []) (carries There ++ (carries Back ++ takes)) event has)

  behind-there : (event : PairEvent) → Contains (carries Back ++ takes) event → Contains (pair_round pair) event
  behind-there event has =
      behind-tick event (Contains-append_right (carries There) (carries Back ++ takes) event has)

  in-carries : (way : Way) (m : ℕ) → m < length (plan_on pair way).paths → Contains (carries way) (Carry way m)
  in-carries way m line =
      subst (λ k. Contains (carries way) (Carry way k)) (let e : 0 + m ≡ m = omega arith in e)
      (carries-try way 0 m (plan_on pair way).paths line)

  round-tries : (event : PairEvent) → HasWayLine pair event → Contains (pair_round pair) event
  round-tries (Item There) line = (0, omega arith, refl)
  round-tries (Item Back) line =
      Contains-append_right (items There) (items Back ++ last) (Item Back) (0, omega arith, refl)
  round-tries Tick line = in-last Tick (0, omega arith, refl)
  round-tries (Carry There m) line =
      behind-tick (Carry There m)
      (Contains-append_left (carries There) (carries Back ++ takes) (Carry There m) (in-carries There m line))
  round-tries (Carry Back m) line =
      behind-there (Carry Back m)
      (Contains-append_left (carries Back) takes (Carry Back m) (in-carries Back m line))
  round-tries (Take There) line =
      behind-there (Take There) (Contains-append_right (carries Back) takes (Take There) (0, omega arith, refl))
  round-tries (Take Back) line =
      behind-there (Take Back) (Contains-append_right (carries Back) takes (Take Back) (1, omega arith, refl))

-- ---- an event that moves
pub record Found (pair : PairPlan) (s : PairCounts) : Type 0 where
  pub event : PairEvent
  pub line : HasWayLine pair event
  pub progress : IsPairProgress pair s event
  pub more : pair_made s < pair_made (pair_step pair s event).counts

module _ (pair : PairPlan) (s : PairCounts) where
  way-more : (way : Way) (next : Counts) → next.ticks ≡ (counts_on s way).ticks →
      way_made (counts_on s way) < way_made next → pair_made s < pair_made (with_counts way next s)
  way-more There next ticks more = omega (arith, ticks, more)
  way-more Back next ticks more = omega (arith, more)

  way-grows : (way : Way) (next : Counts) → next.ticks ≡ (counts_on s way).ticks →
      Grows (counts_on s way) next → PairGrows s (with_counts way next s)
  way-grows way next ticks (inl same) = inl (same-way s way next same)
  way-grows way next ticks (inr more) = inr (way-more way next ticks more)

  no-cause : (way : Way) (cause : Option StallCause) → cause ≡ None →
      option_map {U = Way × StallCause} (λ (found : StallCause). (way, found)) cause ≡ None
  no-cause way None none = refl
  no-cause way (Some cause) none = absurd cc

-- ---- each event counts more, or changes nothing
pub record IsNear (pair : PairPlan) (s : PairCounts) : Type 0 where
  pub there : Walks (with_lag pair.lag pair.there) s.there
  pub back : Walks (with_lag pair.lag pair.back) s.back
  pub together : s.there.ticks ≡ s.back.ticks

pub is-near : (pair : PairPlan) (s : PairCounts) → IsPairPlan pair → IsGoing pair pair.lag pair.lag s → IsNear pair s
is-near pair s is going = record {
  there = record { is = is.there_plan; reached = going.there.walks; said = going.there.said };
  back = record { is = is.back_plan; reached = going.back.walks; said = going.back.said };
  together = going.together;
}

module _ (pair : PairPlan) (s : PairCounts) (near : IsNear pair s) where
  abbrev near_plan : Way → Plan
  near_plan way = with_lag pair.lag (plan_on pair way)

  near-walks : (way : Way) → Walks (near_plan way) (counts_on s way)
  near-walks There = near.there
  near-walks Back = near.back

  item-way : (way : Way) → OneWay (near_plan way) (counts_on s way) (land_item (near_plan way) (counts_on s way)).counts
  item-way way =
      let is = (near-walks way).is.is in
      item-leads (near_plan way) (counts_on s way) (is.frames, is.commands) (near-walks way).said

  carry-way : (way : Way) (m : ℕ) →
      OneWay (near_plan way) (counts_on s way) (carry (near_plan way) (counts_on s way) m).counts
  carry-way way m = carry-leads (near_plan way) (counts_on s way) m (near-walks way).said

  take-way : (way : Way) → OneWay (near_plan way) (counts_on s way) (take_one (near_plan way) (counts_on s way)).counts
  take-way way = take-leads (near_plan way) (counts_on s way) (near-walks way).said

  tick-grows : (cause : Option (Way × StallCause)) → PairGrows s (tick_by cause s).counts
  tick-grows (Some cause) = inl refl
  tick-grows None = inr (omega arith)

  pub step-grows : (event : PairEvent) → PairGrows s (pair_step pair s event).counts
  step-grows (Item way) =
      way-grows pair s way (land_item (near_plan way) (counts_on s way)).counts (item-way way).ticks
      (item-grows (near_plan way) (counts_on s way))
  step-grows Tick = tick-grows (tick_cause pair s)
  step-grows (Carry way m) =
      way-grows pair s way (carry (near_plan way) (counts_on s way) m).counts (carry-way way m).ticks
      (carry-grows (near_plan way) (counts_on s way) m (near-walks way))
  step-grows (Take way) =
      way-grows pair s way (take_one (near_plan way) (counts_on s way)).counts (take-way way).ticks
      (take-grows (near_plan way) (counts_on s way) (near-walks way))

  -- ---- some event moves
  item-found : (way : Way) → ((land_item (near_plan way) (counts_on s way)).cause ≡ None)
      × (way_made (counts_on s way) < way_made (land_item (near_plan way) (counts_on s way)).counts) → Found pair s
  item-found way moves = record {
    event = Item way;
    line = tt;
    progress = inl (no-cause pair s way (land_item (near_plan way) (counts_on s way)).cause moves.0);
    more = way-more pair s way (land_item (near_plan way) (counts_on s way)).counts (item-way way).ticks moves.1;
  }

  carry-found : (way : Way) (m : ℕ) → m < length (plan_on pair way).paths →
      (carry (near_plan way) (counts_on s way) m).cause ≡ None →
      made (counts_on s way) < made (carry (near_plan way) (counts_on s way) m).counts → Found pair s
  carry-found way m inside moves more = record {
    event = Carry way m;
    line = inside;
    progress = inl (no-cause pair s way (carry (near_plan way) (counts_on s way) m).cause moves);
    more = way-more pair s way (carry (near_plan way) (counts_on s way) m).counts (carry-way way m).ticks
        (carry-more (near_plan way) (counts_on s way) m more);
  }

  take-progress : (way : Way) → IsProgress (near_plan way) (counts_on s way) walk.Take →
      IsPairProgress pair s (Take way)
  take-progress way (inl moves) =
      let as_ = take-as (near_plan way) (counts_on s way) (near-walks way).said in
      inl (no-cause pair s way (take_one (near_plan way) (counts_on s way)).cause (as_.cause ∙ moves))
  take-progress way (inr (e, pops)) =
      let as_ = take-as (near_plan way) (counts_on s way) (near-walks way).said in
      inr (
        way,
        refl,
        subst (λ c. cells_popped (counts_on s way) < cells_popped c)
            (sym (own-counts s way (take_one (near_plan way) (counts_on s way)).counts))
            (subst (λ lines. cells_popped (counts_on s way) < sum_by (λ (line : LineCounts). line.popped) lines)
            (sym as_.lines) pops),
      )

  take-found : (way : Way) → IsProgress (near_plan way) (counts_on s way) walk.Take →
      made (counts_on s way) < made (step (near_plan way) (counts_on s way) walk.Take).counts → Found pair s
  take-found way progress more = record {
    event = Take way;
    line = tt;
    progress = take-progress way progress;
    more = way-more pair s way (take_one (near_plan way) (counts_on s way)).counts (take-way way).ticks
        ((take-as (near_plan way) (counts_on s way) (near-walks way).said).grows more);
  }

  -- what moves in the walk of a way moves in the pair, but its tick
  abbrev TicksOr : Way → Type 0
  TicksOr way = ((tick (near_plan way) (counts_on s way)).cause ≡ None) ⊎ Found pair s

  from-walk : (way : Way) (event : Event) → HasLine (near_plan way) event →
      IsProgress (near_plan way) (counts_on s way) event →
      made (counts_on s way) < made (step (near_plan way) (counts_on s way) event).counts → TicksOr way
  from-walk way walk.Accept line (inl moves) more =
      inr (item-found way (accept-moves (near_plan way) (counts_on s way) moves))
  from-walk way walk.Accept line (inr (e, pops)) more = absurd cc
  from-walk way walk.Command line (inl moves) more =
      inr (item-found way (command-moves (near_plan way) (counts_on s way) moves))
  from-walk way walk.Command line (inr (e, pops)) more = absurd cc
  from-walk way walk.Tick line (inl moves) more = inl moves
  from-walk way walk.Tick line (inr (e, pops)) more = absurd cc
  from-walk way (walk.Carry m) line (inl moves) more = inr (carry-found way m line moves more)
  from-walk way (walk.Carry m) line (inr (e, pops)) more = absurd cc
  from-walk way walk.Back line (inl moves) more =
      absurd (back-none (near_plan way) (counts_on s way) (near-walks way).said moves)
  from-walk way walk.Back line (inr (e, pops)) more = absurd cc
  from-walk way walk.Take line progress more = inr (take-found way progress more)

  ticks-or : (way : Way) → (counts_on s way).rows < (plan_on pair way).ticks → TicksOr way
  ticks-or way open_ =
      let walks = near-walks way in
      let plan = near_plan way in
      let c = counts_on s way in
      let found = reached-moves plan c walks.is walks.reached open_ in
      let beside = each-map (LineFits plan.ticks plan.ring c.ticks c.rows) (λ path line. Unit {0}) plan.paths c.lines
      (λ path line fits. tt) (walks-fits plan c walks).lines in
      from-walk way found.0 found.1 (is_progress plan c found.0 beside found.2) found.2

  near-free : (way : Way) → (tick (near_plan way) (counts_on s way)).cause ≡ None →
      IsFree (plan_on pair way) pair.lag (counts_on s way)
  near-free way moves =
      let free = tick-free (near_plan way) (counts_on s way) (near-walks way).said moves in
      record { open_ = free.open_; landed = free.landed; room = free.room; said = free.said }

  -- a way that can tick has rows left
  free-open : (way : Way) → (counts_on s way).ticks < (plan_on pair way).ticks →
      (counts_on s way).rows < (plan_on pair way).ticks
  free-open way low =
      let walks = near-walks way in
      let early = rows-ticks walks.is.slow walks.is.fast walks.is.slip (near_plan way) walks.is.is (counts_on s way)
      (walks-fits (near_plan way) (counts_on s way) walks) in
      omega (arith, early, low)

  tick-found : IsFree pair.there pair.lag s.there → IsFree pair.back pair.lag s.back → Found pair s
  tick-found one other =
      let none = free-both pair s one other in
      record {
        event = Tick;
        line = tt;
        progress = inl (ap (λ cause. (tick_by cause s).cause) none);
        more = subst (λ cause. pair_made s < pair_made (tick_by cause s).counts) (sym none) (omega arith);
      }

  both-found : (own other : Way) → (counts_on s own).ticks ≡ (counts_on s other).ticks →
      (plan_on pair own).ticks ≡ (plan_on pair other).ticks → (IsFree (plan_on pair own) pair.lag (counts_on s own) →
      IsFree (plan_on pair other) pair.lag (counts_on s other) → Found pair s) →
      (counts_on s own).rows < (plan_on pair own).ticks → Found pair s
  both-found own other same ticks both open_ = elim (ticks-or own open_) [
    | inr found ↦ found
    | inl moves ↦
        let free = near-free own moves in
        let low = leb-false (plan_on pair own).ticks (counts_on s own).ticks free.open_ in
        elim (ticks-or other (free-open other (omega (arith, low, same, ticks)))) [
          | inr found ↦ found
          | inl more ↦ both free (near-free other more)
        ]
  ]

  pub some-found : pair.there.ticks ≡ pair.back.ticks → IsOpen pair s → Found pair s
  some-found ticks (There, open_) = both-found There Back near.together ticks tick-found open_
  some-found ticks (Back, open_) =
      both-found Back There (sym near.together) (sym ticks) (λ one other. tick-found other one) open_

-- ---- Rounds of a pair end, within a bound.
module _ (pair : PairPlan) (is : IsPairPlan pair) where
  abbrev Going : PairCounts → Type 0
  Going s = IsGoing pair pair.lag pair.lag s

  near : (s : PairCounts) → Going s → IsNear pair s
  near s going = is-near pair s is going

  way-fits : (way : Way) (s : PairCounts) → Going s → Fits (with_lag pair.lag (plan_on pair way)) (counts_on s way)
  way-fits way s going =
      walks-fits (with_lag pair.lag (plan_on pair way)) (counts_on s way) (near-walks pair s (near s going) way)

  way-bounded : (way : Way) (s : PairCounts) → Going s → way_made (counts_on s way)
      ≤ length (plan_on pair way).paths * (2 * (plan_on pair way).ticks) + sum_delays (plan_on pair way).paths
      + 2 * length (plan_on pair way).paths + length (plan_on pair way).items + (plan_on pair way).ticks
  way-bounded way s going =
      let plan = (near-walks pair s (near s going) way).is in
      counts-bounded plan.slow plan.fast plan.slip (with_lag pair.lag (plan_on pair way)) plan.is (counts_on s way)
      (way-fits way s going)

  bounded : (s : PairCounts) → Going s → pair_made s ≤ pair_bound pair
  bounded s going =
      let one = way-bounded There s going in
      let other = way-bounded Back s going in
      let ticks = (way-fits There s going).ticks in
      let same = is.ticks in
      let a = length pair.there.paths in
      let b = length pair.back.paths in
      let across : b * (2 * pair.back.ticks) ≡ b * (2 * pair.there.ticks) = ap (λ n. b * (2 * n)) (sym same) in
      let product : (2 * (a + b) + 3) * pair.there.ticks
      ≡ a * (2 * pair.there.ticks) + b * (2 * pair.there.ticks) + 3 * pair.there.ticks = grind arith in
      omega (arith, one, other, ticks, same, across, product)

  -- ---- rounds
  not-over : (s : PairCounts) → is_over pair s ≡ false → IsOpen pair s
  not-over s e =
      elim (cases_Bool (nat_le pair.there.ticks s.there.rows)) [
        | inr open_ ↦ (There, leb-false pair.there.ticks s.there.rows open_)
        | inl shut ↦ (Back, leb-false pair.back.ticks s.back.rows (rw shut at e))
      ]

  over-on : (s : PairCounts) (way : Way) → is_over pair s ≡ true → (plan_on pair way).ticks ≤ (counts_on s way).rows
  over-on s There over = leb-true pair.there.ticks s.there.rows
      (and_parts (nat_le pair.there.ticks s.there.rows) (nat_le pair.back.ticks s.back.rows) over).0
  over-on s Back over = leb-true pair.back.ticks s.back.rows
      (and_parts (nat_le pair.there.ticks s.there.rows) (nat_le pair.back.ticks s.back.rows) over).1

  abbrev pair_rounds : Rounds PairCounts PairEvent
  pair_rounds = record {
    next = λ s event. (pair_step pair s event).counts;
    run = pair_run pair;
    round = pair_round pair;
    over = is_over pair;
    drain = λ k. pair_drain k pair;
    made = pair_made;
    most = pair_bound pair;
  }

  are-rising : AreRising pair_rounds Going
  unfolding pair_run pair_drain
  are-rising = record {
    run_none = λ s. refl;
    run_more = λ s event events. refl;
    drain_none = λ s. refl;
    drain_more = λ k s. refl;
    keeps = λ s event going. elim (step-grows pair s (near s going) event) [
      | inl same ↦ inl same
      | inr more ↦ inr (step-goes pair pair.lag pair.lag (can-go-near pair is) s event going, more)
    ];
    few = bounded;
    moves = λ s going open_.
        let found = some-found pair s (near s going) is.ticks (not-over s open_) in
        (found.event, round-tries pair found.event found.line, found.more);
  }

  -- the measure of a loop over rounds falls
  pub pair-round-less : (s : PairCounts) → IsPairReached pair s → is_over pair s ≡ false →
      pair_bound pair - pair_made (pair_run pair s (pair_round pair)) < pair_bound pair - pair_made s
  pair-round-less s reached open_ = round-less pair_rounds Going are-rising s (goes-near pair s is reached) open_

pub pair-turns : (pair : PairPlan) (s : PairCounts) → IsPairPlan pair → IsPairReached pair s →
    is_over pair s ≡ false →
    pair_drain (pair_bound pair) pair (pair_run pair s (pair_round pair)) ≡ pair_drain (pair_bound pair) pair s
pair-turns pair s is reached open_ =
    drain-turn (pair_rounds pair is) (Going pair is) (are-rising pair is) s (goes-near pair s is reached) open_

pub pair-stops : (pair : PairPlan) (s : PairCounts) (k : ℕ) → is_over pair s ≡ true → pair_drain k pair s ≡ s
unfolding pair_drain
pair-stops pair s zero over = refl
pair-stops pair s (suc k) over = rw over refl

pub pair-ends : (pair : PairPlan) (s : PairCounts) (way : Way) → IsPairPlan pair → IsPairReached pair s →
    (counts_on (pair_drain (pair_bound pair) pair s) way).rows ≡ (plan_on pair way).ticks
pair-ends pair s way is reached =
    let end : PairCounts = pair_drain (pair_bound pair) pair s in
    let (going, over) = drain-over (pair_rounds pair is) (Going pair is) (are-rising pair is) (pair_bound pair) s
    (goes-near pair s is reached) (omega arith) in
    let most = (way-fits pair is way end going).rows in
    let all = over-on pair is end way over in
    omega (arith, most, all)

pub pair-moves : (pair : PairPlan) (s : PairCounts) → IsPairPlan pair → IsPairReached pair s → IsOpen pair s →
    SomePairProgress pair s
pair-moves pair s is reached open_ =
    let found = some-found pair s (is-near pair s is (goes-near pair s is reached)) is.ticks open_ in
    (found.event, found.line, found.progress)

-- ---- what a drain leads to
pub run-append : (pair : PairPlan) (s : PairCounts) (xs ys : List PairEvent) →
    pair_run pair s (xs ++ ys) ≡ pair_run pair (pair_run pair s xs) ys
unfolding pair_run
run-append pair s [] ys = refl
run-append pair s (x ∷ xs) ys = run-append pair (pair_step pair s x).counts xs ys

pub pair-drains : (pair : PairPlan) (s : PairCounts) (k : ℕ) → IsPairReached pair s →
    IsPairReached pair (pair_drain k pair s)
unfolding pair_drain
pair-drains pair s zero reached = reached
pair-drains pair s (suc k) reached =
    elim (cases_Bool (is_over pair s)) [
      | inl e ↦ rw e reached
      | inr e ↦ rw e (pair-drains pair (pair_run pair s (pair_round pair)) k (
        reached.0 ++ pair_round pair,
        ap (λ c. pair_run pair c (pair_round pair)) reached.1
            ∙ sym (run-append pair (pair_begin pair) reached.0 (pair_round pair)),
      ))
    ]

-- ---- what an event leads to
pub pair-begins : (pair : PairPlan) → IsPairReached pair (pair_begin pair)
unfolding pair_run
pair-begins pair = ([], refl)

pub pair-steps : (pair : PairPlan) (s : PairCounts) (event : PairEvent) → IsPairReached pair s →
    IsPairReached pair (pair_step pair s event).counts
unfolding pair_run
pair-steps pair s event reached = (
  reached.0 ++ event ∷ [],
  ap (λ c. (pair_step pair c event).counts) reached.1
      ∙ sym (run-append pair (pair_begin pair) reached.0 (event ∷ [])),
)

-- ---- return packets that are said and not told yet
waits-near : (plan : Plan) (s : Counts) → Walks plan s → packets_in s.rows - used_in plan.lag s.ticks ≤ plan.lag
waits-near plan s walks =
    let few = inbox-fits plan s walks.is walks.reached in
    let said = walks.said in
    omega (arith, few, said)

pub pair-waits : (pair : PairPlan) (s : PairCounts) (way : Way) → IsPairPlan pair → IsPairReached pair s →
    packets_in (counts_on s way).rows - used_in pair.lag (counts_on s way).ticks ≤ pair.lag
pair-waits pair s way is reached =
    waits-near (with_lag pair.lag (plan_on pair way)) (counts_on s way)
    (near-walks pair s (is-near pair s is (goes-near pair s is reached)) way)

-- ---- what a tick tells was said
free-told : (plan : Plan) (lag : ℕ) (s : Counts) → IsFree plan lag s → s.ticks % 16 ≡ 8 → lag ≤ s.ticks / 16 →
    16 * (s.ticks / 16 - lag) + 23 < s.rows
free-told plan lag s free place late =
    elim (cases_Bool (nat_le s.rows (16 * (s.ticks / 16 - lag) + 23))) [
      | inr e ↦ leb-false s.rows (16 * (s.ticks / 16 - lag) + 23) e
      | inl e ↦
          let first : nat_le (16 * lag + 8) s.ticks ≡ true =
          le-leb (16 * lag + 8) s.ticks (omega (arith, place, late)) in
          let begins : (s.ticks % 16 == 8) ≡ true = eq-eqb (s.ticks % 16) 8 place in
          let said = free.said in
          absurd (let f : true ≡ false = rw (first, begins, e) at said in cc)
    ]

tick-moves : (s : PairCounts) (cause : Option (Way × StallCause)) → (tick_by cause s).cause ≡ None → cause ≡ None
tick-moves s None e = refl
tick-moves s (Some cause) e = absurd cc

pub pair-told : (pair : PairPlan) (s : PairCounts) (way : Way) → (pair_step pair s Tick).cause ≡ None →
    (counts_on s way).ticks % 16 ≡ 8 → pair.lag ≤ (counts_on s way).ticks / 16 →
    16 * ((counts_on s way).ticks / 16 - pair.lag) + 23 < (counts_on s way).rows
pair-told pair s There moves place late =
    free-told pair.there pair.lag s.there (both-free pair s (tick-moves s (tick_cause pair s) moves)).0 place late
pair-told pair s Back moves place late =
    free-told pair.back pair.lag s.back (both-free pair s (tick-moves s (tick_cause pair s) moves)).1 place late
