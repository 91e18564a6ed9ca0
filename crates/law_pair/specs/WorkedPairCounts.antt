-- Worked pairs in numbers: why events stall, and what a drain leads to.
use Rattle.std.specs.Prelude.{List, [], ◌∷◌, ◌++◌, replicate, Option, flat_map}
use Rattle.law_model.specs.Common.{Due}
use Rattle.law_model.specs.declared.walk_events.StallCause.{StallCause}
use Rattle.law_progress.specs.WorkedPlans.{one_line, all_done}
use Rattle.law_pair.specs.declared.pair_events.Way.{Way}
use Rattle.law_pair.specs.declared.pair_events.Way.TheVariants.{There}
use Rattle.law_pair.specs.declared.pair_events.PairEvent.{PairEvent}
use Rattle.law_pair.specs.declared.pair_events.PairEvent.TheVariants.{Tick, Carry, Take}
use Rattle.law_pair.specs.PairCounts.{PairPlan, PairCounts, pair_step, pair_run, pair_begin, pair_drain, pair_bound}

-- each way has one line that never fails, without delay, and makes 41 ticks; the lag of its script is one packet
abbrev pub two_ways : List Due → List Due → PairPlan
two_ways there back = record { lag = 1; there = one_line 2 there; back = one_line 2 back }

-- in which way and why an event stalls after others
abbrev pub pair_cause : PairPlan → List PairEvent → PairEvent → Option (Way × StallCause)
pair_cause pair events event = (pair_step pair (pair_run pair (pair_begin pair) events) event).cause

-- 24 ticks; and after them all rows of the way there
abbrev pub all_ticked : List PairEvent
all_ticked = replicate 24 Tick

abbrev pub there_taken : List PairEvent
there_taken =
    all_ticked
    ++ flat_map (λ (events : List PairEvent). events) (replicate 24 (Carry There 0 ∷ Take There ∷ []))

-- the counts after a drain, and those when all is done
abbrev pub drained_from : PairPlan → PairCounts
drained_from pair = pair_drain (pair_bound pair) pair (pair_begin pair)

abbrev pub both_done : PairCounts
both_done = record { there = all_done; back = all_done }
