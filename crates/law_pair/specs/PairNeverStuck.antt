-- What is asked of a pair in numbers so that it is never stuck, and what progress is.
use Rattle.std.specs.Prelude.{◌≡◌, ◌⊎◌, ℕ, ◌<◌, ◌≤◌, List, length, None}
use Rattle.law_model.specs.Common.{LineCounts, Plan, Counts}
use Rattle.law_progress.specs.Progress.{IsPlan, cells_popped}
use Rattle.law_pair.specs.declared.pair_events.Way.{Way}
use Rattle.law_pair.specs.declared.pair_events.PairEvent.{PairEvent}
use Rattle.law_pair.specs.declared.pair_events.PairEvent.TheVariants.{Item, Tick, Carry, Take}
use Rattle.law_pair.specs.PairCounts.{PairPlan, PairCounts, plan_on, counts_on, with_counts, pair_step, pair_run}
use Rattle.law_pair.specs.PairCounts.{pair_begin}

-- a plan with another lag
abbrev pub with_lag : ℕ → Plan → Plan
with_lag lag plan = record plan { lag = lag }

-- the delays and slips of each way fit the lag of the scripts, and the lag of each walk is no less; both ways make the
-- same ticks
pub record IsPairPlan (pair : PairPlan) : Type 0 where
  pub there_plan : IsPlan (with_lag pair.lag pair.there)
  pub back_plan : IsPlan (with_lag pair.lag pair.back)
  pub there_lag : pair.lag ≤ pair.there.lag
  pub back_lag : pair.lag ≤ pair.back.lag
  pub ticks : pair.there.ticks ≡ pair.back.ticks

-- some list of events leads to the counts
abbrev pub IsPairReached : PairPlan → PairCounts → Type 0
IsPairReached pair s = (events : List PairEvent) × (s ≡ pair_run pair (pair_begin pair) events)

-- a line that an event names is one of its way
abbrev pub HasWayLine : PairPlan → PairEvent → Type 0
HasWayLine pair (Item way) = Unit {0}
HasWayLine pair Tick = Unit {0}
HasWayLine pair (Carry way line) = line < length (plan_on pair way).paths
HasWayLine pair (Take way) = Unit {0}

-- an event moves, or it is a Take that pops a cell
abbrev pub IsPairProgress : PairPlan → PairCounts → PairEvent → Type 0
IsPairProgress pair s event =
    ((pair_step pair s event).cause ≡ None)
    ⊎ ((way : Way) × (event ≡ Take way)
    × (cells_popped (counts_on s way) < cells_popped (counts_on (pair_step pair s event).counts way)))

abbrev pub SomePairProgress : PairPlan → PairCounts → Type 0
SomePairProgress pair s = (event : PairEvent) × HasWayLine pair event × IsPairProgress pair s event

-- rows are left in some way
abbrev pub IsOpen : PairPlan → PairCounts → Type 0
IsOpen pair s = (way : Way) × ((counts_on s way).rows < (plan_on pair way).ticks)

-- a stalled event changes nothing, but that a Take keeps the cells which it popped
abbrev pub with_lines : List LineCounts → Counts → Counts
with_lines lines s = record s { lines = lines }

abbrev pub IsStill : PairPlan → PairCounts → PairEvent → Type 0
IsStill pair s event =
    ((pair_step pair s event).counts ≡ s)
    ⊎ ((way : Way) × (event ≡ Take way) × ((pair_step pair s event).counts
    ≡ with_counts way (with_lines (counts_on (pair_step pair s event).counts way).lines (counts_on s way)) s))
