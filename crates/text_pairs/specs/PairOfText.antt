-- The two scripts that a text says, or its first fault.
use Rattle.std.specs.Prelude.{ℕ, ◌==◌, ◌||◌, max, nat_lt, not, List, length, Option, Some, None, Result, Ok, Err, option_map}
use Rattle.std.specs.Prelude.{unwrap_or}
use Rattle.std.specs.Option.{option_or}
use Rattle.text_lines.specs.Fields.{where_true}
use Rattle.text_lines.specs.Language.{said_by}
use Rattle.law_model.specs.declared.script_types.Script.{Script}
use Rattle.text_scripts.specs.declared.script_read.script_fault.ScriptFault.TheVariants.{Line}
use Rattle.text_scripts.specs.script_read.Statements.{at_first}
use Rattle.text_scripts.specs.script_read.Script.{script_in, config_fault, least_lag}
use Rattle.law_pair.specs.declared.pair_events.Way.TheVariants.{There, Back}
use Rattle.text_pairs.specs.declared.script_pair.ScriptPair.{ScriptPair}
use Rattle.text_pairs.specs.declared.script_pair.PairFault.{PairFault}
use Rattle.text_pairs.specs.declared.script_pair.PairFault.TheVariants as fault
use Rattle.text_pairs.specs.PairTextLines.{Halves, HalfFault, of_script, no_division, pair_lines}

-- ---- the tests of two scripts all of whose lines are right
-- neither loses return packets by itself or has event lines
abbrev pub alone_fault : Script → Script → Option PairFault
alone_fault there back =
    option_or (where_true (nat_lt 0 (length there.config.lost)) (fault.Lost There))
    (option_or (where_true (nat_lt 0 (length back.config.lost)) (fault.Lost Back))
    (option_or (where_true (nat_lt 0 (length there.events)) (fault.Events There))
    (where_true (nat_lt 0 (length back.events)) (fault.Events Back))))

-- the least lag that the delays and slips of both allow
abbrev pub least_of : Script → Script → ℕ
least_of there back = max (least_lag there.config) (least_lag back.config)

-- their lags are the same and at most 256, and their ticks are the same
abbrev pub unlike_fault : Script → Script → Option PairFault
unlike_fault there back =
    option_or (where_true (not (there.config.lag == back.config.lag) || nat_lt 256 there.config.lag)
    (fault.Lag there.config.lag back.config.lag (least_of there back)))
    (where_true (not (there.config.ticks == back.config.ticks)) (fault.Ticks there.config.ticks back.config.ticks))

-- the limits of each script come first
abbrev pub limits_fault : ScriptPair → Option PairFault
limits_fault pair =
    option_or (option_map (fault.Limit There) (config_fault pair.there.config))
    (option_or (option_map (fault.Limit Back) (config_fault pair.back.config))
    (option_or (alone_fault pair.there pair.back) (unlike_fault pair.there pair.back)))

-- ---- the text
-- the fault of a line, by its number
abbrev pub fault_at : ℕ → HalfFault → PairFault
fault_at n (of_script wrong) = fault.Script (Line n wrong)
fault_at n no_division = fault.Undivided n

-- what halves say; where none divides there is a fault before
abbrev pub pair_in : Halves → ScriptPair
pair_in h = record { there = unwrap_or h.there (script_in at_first); back = script_in h.now }

abbrev pub pair_unless : Option PairFault → ScriptPair → Result ScriptPair PairFault
pair_unless None pair = Ok pair
pair_unless (Some wrong) pair = Err wrong

abbrev pub pair_of_halves : Result Halves (ℕ × HalfFault) → Result ScriptPair PairFault
pair_of_halves (Err at) = Err (fault_at at.0 at.1)
pair_of_halves (Ok h) = pair_unless (limits_fault (pair_in h)) (pair_in h)

abbrev pub pair_of : List ℕ → Result ScriptPair PairFault
pair_of text = pair_of_halves (said_by pair_lines text)
