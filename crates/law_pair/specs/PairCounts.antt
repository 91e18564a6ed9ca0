-- A pair in numbers: the counts of its two ways, which its events raise, and the order in which the causes of a stall
-- are tried. A return packet comes at once where the row is taken that ends it: what it waits for is the other way's
-- packet that carries it.
use Rattle.std.specs.Prelude.{ℕ, zero, suc, ◌+◌, ◌-◌, ◌*◌, ◌/◌, ◌%◌, ◌&&◌, ◌==◌, nat_le, nat_lt, Bool, List, []}
use Rattle.std.specs.Prelude.{◌∷◌, ◌++◌, length, replicate, Option, Some, None, option_map, if◌then◌else◌}
use Rattle.law_model.specs.Common.{LinePath, Due, frame_due, command_due, Plan, LineCounts, Counts, Step, moved}
use Rattle.law_model.specs.Common.{stalled, land_due, held, full, carry, pop_lines, begin, sum_delays}
use Rattle.law_model.specs.declared.walk_events.StallCause.{StallCause}
use Rattle.law_model.specs.declared.walk_events.StallCause.TheVariants.{Done, Held, TxFull, BackMissing, Waiting}
use Rattle.law_model.specs.session.Scenario.{packets_in}
use Rattle.law_pair.specs.declared.pair_events.Way.{Way}
use Rattle.law_pair.specs.declared.pair_events.Way.TheVariants.{There, Back}
use Rattle.law_pair.specs.declared.pair_events.PairEvent.{PairEvent}
use Rattle.law_pair.specs.declared.pair_events.PairEvent.TheVariants.{Item, Tick, Carry, Take}

-- ---- what a pair is given, and its counts
-- the lag of its scripts, and the walk of each way
pub record PairPlan : Type 0 where
  pub lag : ℕ
  pub there : Plan
  pub back : Plan

pub record PairCounts : Type 0 where
  pub there : Counts
  pub back : Counts

abbrev pub plan_on : PairPlan → Way → Plan
plan_on pair There = pair.there
plan_on pair Back = pair.back

abbrev pub counts_on : PairCounts → Way → Counts
counts_on s There = s.there
counts_on s Back = s.back

abbrev pub with_counts : Way → Counts → PairCounts → PairCounts
with_counts There next s = record { there = next; back = s.back }
with_counts Back next s = record { there = s.there; back = next }

-- ---- what an event gives: the next counts, and in which way and why it stalled, where it did
pub record PairStep : Type 0 where
  pub counts : PairCounts
  pub cause : Option (Way × StallCause)

-- a step of one way
abbrev pub on_way : Way → Step → PairCounts → PairStep
on_way way next s = record {
  counts = with_counts way next.counts s;
  cause = option_map (λ cause. (way, cause)) next.cause;
}

-- ---- Item
-- the items that haven't landed, where a frames and b commands have
unfoldable pub left_after : ℕ → ℕ → List Due → List Due
left_after a b [] = []
left_after zero b (frame_due due ∷ items) = frame_due due ∷ left_after zero b items
left_after (suc a) b (frame_due due ∷ items) = left_after a b items
left_after a zero (command_due due ∷ items) = command_due due ∷ left_after a zero items
left_after a (suc b) (command_due due ∷ items) = left_after a b items

abbrev pub tick_of : Due → ℕ
tick_of (frame_due due) = due
tick_of (command_due due) = due

-- the one that is due first, and of equal ones the first
abbrev pub sooner : Due → Option Due → Due
sooner item None = item
sooner item (Some other) = if nat_lt (tick_of other) (tick_of item) then other else item

unfoldable pub first_due : List Due → Option Due
first_due [] = None
first_due (item ∷ items) = Some (sooner item (first_due items))

abbrev pub landed : Due → Counts → Counts
landed (frame_due due) s = record s { frames = s.frames + 1 }
landed (command_due due) s = record s { commands = s.commands + 1 }

abbrev pub land_first : Option Due → Counts → Step
land_first None s = stalled s Done
land_first (Some item) s = land_due s.ticks (Some (tick_of item)) s (landed item s)

abbrev pub land_item : Plan → Counts → Step
land_item plan s = land_first (first_due (left_after s.frames s.commands plan.items)) s

-- ---- Tick
-- in the frame in which packet j begins, with j at least the lag, return packet j - lag hasn't been said, which goes in
-- it
abbrev pub is_unsaid : ℕ → Counts → Bool
is_unsaid lag s =
    nat_le (16 * lag + 8) s.ticks && s.ticks % 16 == 8 && nat_le s.rows (16 * (s.ticks / 16 - lag) + 23)

-- each cause of one way
abbrev pub done_at : Plan → Counts → Option StallCause
done_at plan s = if nat_le plan.ticks s.ticks then Some Done else None

abbrev pub held_at : Plan → Counts → Option StallCause
held_at plan s = option_map Held (held s.ticks s.frames s.commands 0 plan.items)

abbrev pub full_at : Plan → Counts → Option StallCause
full_at plan s = option_map TxFull (full plan.ticks s.ticks 0 s.lines)

abbrev pub missing_at : ℕ → Counts → Option StallCause
missing_at lag s = if is_unsaid lag s then Some (BackMissing (s.ticks / 16 - lag)) else None

-- a cause of the way there comes before the same one of the way back
abbrev pub first_way : Option StallCause → Option StallCause → Option (Way × StallCause)
first_way (Some cause) other = Some (There, cause)
first_way None other = option_map (λ cause. (Back, cause)) other

abbrev pub or_else : Option (Way × StallCause) → Option (Way × StallCause) → Option (Way × StallCause)
or_else (Some cause) other = Some cause
or_else None other = other

-- the first that holds
abbrev pub tick_cause : PairPlan → PairCounts → Option (Way × StallCause)
tick_cause pair s =
    or_else (first_way (done_at pair.there s.there) (done_at pair.back s.back))
    (or_else (first_way (held_at pair.there s.there) (held_at pair.back s.back))
    (or_else (first_way (full_at pair.there s.there) (full_at pair.back s.back))
    (first_way (missing_at pair.lag s.there) (missing_at pair.lag s.back))))

abbrev pub ticked : Counts → Counts
ticked s = record s { ticks = s.ticks + 1 }

abbrev pub tick_by : Option (Way × StallCause) → PairCounts → PairStep
tick_by (Some cause) s = record { counts = s; cause = Some cause }
tick_by None s = record { counts = record { there = ticked s.there; back = ticked s.back }; cause = None }

-- ---- Take
-- the row is taken, and the return packets that are ended have come
abbrev pub take_said : Counts → List LineCounts → Option ℕ → Step
take_said s lines (Some line) = stalled (record s { lines = lines }) (Waiting line)
take_said s lines None =
    moved (record s { lines = lines; rows = s.rows + 1; backs = packets_in (s.rows + 1) })

abbrev pub take_one : Plan → Counts → Step
take_one plan s =
    if nat_le plan.ticks s.rows then stalled s Done
    else take_said s (pop_lines s.rows 0 plan.paths s.lines).lines (pop_lines s.rows 0 plan.paths s.lines).waiting

-- ---- an event, and a list of events
abbrev pub pair_step : PairPlan → PairCounts → PairEvent → PairStep
pair_step pair s (Item way) = on_way way (land_item (plan_on pair way) (counts_on s way)) s
pair_step pair s Tick = tick_by (tick_cause pair s) s
pair_step pair s (Carry way line) = on_way way (carry (plan_on pair way) (counts_on s way) line) s
pair_step pair s (Take way) = on_way way (take_one (plan_on pair way) (counts_on s way)) s

unfoldable pub pair_run : PairPlan → PairCounts → List PairEvent → PairCounts
pair_run pair s [] = s
pair_run pair s (event ∷ events) = pair_run pair (pair_step pair s event).counts events

abbrev pub pair_begin : PairPlan → PairCounts
pair_begin pair = record { there = begin pair.there; back = begin pair.back }

-- ---- rounds
-- a carry of each line of a way, from one on
unfoldable pub carries_on : Way → ℕ → List LinePath → List PairEvent
carries_on way m [] = []
carries_on way m (path ∷ paths) = Carry way m ∷ carries_on way (suc m) paths

-- an item is tried once more than there are any, so until it stalls
abbrev pub pair_round : PairPlan → List PairEvent
pair_round pair =
    replicate (suc (length pair.there.items)) (Item There)
    ++ (replicate (suc (length pair.back.items)) (Item Back)
    ++ Tick ∷ (carries_on There 0 pair.there.paths ++ (carries_on Back 0 pair.back.paths
    ++ Take There ∷ Take Back ∷ [])))

-- all rows of both ways are taken
abbrev pub is_over : PairPlan → PairCounts → Bool
is_over pair s = nat_le pair.there.ticks s.there.rows && nat_le pair.back.ticks s.back.rows

-- at most a number of rounds, until that is so
unfoldable pub pair_drain : ℕ → PairPlan → PairCounts → PairCounts
pair_drain zero pair s = s
pair_drain (suc k) pair s =
    if is_over pair s then s else pair_drain k pair (pair_run pair s (pair_round pair))

-- the lines of both ways, their delays, and the items of both ways
abbrev pub lines_in : PairPlan → ℕ
lines_in pair = length pair.there.paths + length pair.back.paths

abbrev pub delays_in : PairPlan → ℕ
delays_in pair = sum_delays pair.there.paths + sum_delays pair.back.paths

abbrev pub items_in : PairPlan → ℕ
items_in pair = length pair.there.items + length pair.back.items

-- how many rounds are enough
abbrev pub pair_bound : PairPlan → ℕ
pair_bound pair =
    (2 * lines_in pair + 3) * pair.there.ticks + 2 * lines_in pair + delays_in pair + items_in pair
