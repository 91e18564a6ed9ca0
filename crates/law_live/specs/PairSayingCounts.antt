-- The counts of a pair that is told live. An item of a way lands when it is said; some ticks pass by rounds of both
-- ways, until they are made.
use Rattle.std.specs.Prelude.{ℕ, zero, suc, ◌+◌, nat_le, List, [], ◌∷◌, ◌++◌, if◌then◌else◌}
use Rattle.law_model.specs.declared.script_types.Script.{Script}
use Rattle.law_pair.specs.declared.pair_events.Way.TheVariants.{There, Back}
use Rattle.law_pair.specs.declared.pair_events.PairEvent.{PairEvent}
use Rattle.law_pair.specs.declared.pair_events.PairEvent.TheVariants.{Item, Tick, Take}
use Rattle.law_pair.specs.PairCounts.{PairPlan, PairCounts, pair_step, pair_run, pair_begin, pair_bound, carries_on}
use Rattle.law_pair.specs.PairWalk.{pair_plan}
use Rattle.law_live.specs.PairSayings.{PairSaying, lands_on, cuts_on, mends_on, both_pass}

-- ---- rounds
-- a tick of both ways, a carry of each line there and then back, a row there and a row back, each one try: a round of a
-- pair without its items
abbrev pub pair_turn : PairPlan → List PairEvent
pair_turn pair =
    Tick ∷ (carries_on There 0 pair.there.paths
    ++ (carries_on Back 0 pair.back.paths ++ Take There ∷ Take Back ∷ []))

abbrev pub turn_both : PairPlan → PairCounts → PairCounts
turn_both pair s = pair_run pair s (pair_turn pair)

unfoldable pub after_turns : ℕ → PairPlan → PairCounts → PairCounts
after_turns zero pair s = s
after_turns (suc n) pair s = after_turns n pair (turn_both pair s)

-- how many rounds it takes until so many ticks are made, where it takes no more than k
unfoldable pub turns_until : ℕ → PairPlan → ℕ → PairCounts → ℕ
turns_until zero pair ticks s = 0
turns_until (suc k) pair ticks s =
    if nat_le ticks s.there.ticks then 0 else suc (turns_until k pair ticks (turn_both pair s))

-- until k more are made: a pair never takes more rounds than its bound
abbrev pub turns_for : ℕ → PairPlan → PairCounts → ℕ
turns_for k pair s = turns_until (pair_bound pair) pair (s.there.ticks + k) s

-- ---- a saying
abbrev pub both_said : PairPlan → PairCounts → PairSaying → PairCounts
both_said pair s (lands_on way kind) = (pair_step pair s (Item way)).counts
both_said pair s (cuts_on way m) = s
both_said pair s (mends_on way m) = s
both_said pair s (both_pass k) = after_turns (turns_for k pair s) pair s

-- ---- one saying after another
unfoldable pub both_from : PairPlan → PairCounts → List PairSaying → PairCounts
both_from pair s [] = s
both_from pair s (saying ∷ said) = both_from pair (both_said pair s saying) said

-- over two scripts
abbrev pub pair_counts : Script → Script → List PairSaying → PairCounts
pair_counts there back said = both_from (pair_plan there back) (pair_begin (pair_plan there back)) said
