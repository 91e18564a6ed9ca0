-- The script of one way of a pair, by itself.
use Rattle.std.specs.Prelude.{ℕ, ◌-◌, nat_lt, if◌then◌else◌, List, [], length, filter, Result, Ok, Err}
use Rattle.std.specs.List.{range_with_len}
use Rattle.law_model.specs.Common.{most_windows}
use Rattle.law_model.specs.declared.script_types.Script.{Script}
use Rattle.law_pair.specs.Common.{is_unheard, runs_of, way_config}
use Rattle.law_pair.specs.declared.pair_events.Way.{Way}
use Rattle.law_pair.specs.declared.pair_events.Way.TheVariants.{There, Back}
use Rattle.text_pairs.specs.declared.script_pair.ScriptPair.{ScriptPair}
use Rattle.text_pairs.specs.declared.script_pair.PairFault.{PairFault}
use Rattle.text_pairs.specs.declared.script_pair.PairFault.TheVariants.{Runs}

-- of the way of a script, beside the other one. It has no event lines, so it drains
abbrev pub one_way_of : Script → Script → Script
one_way_of script other = record { config = way_config script other; items = script.items; events = [] }

-- it is one where it has no more lost lines than a script may have
abbrev pub few_runs : Script → Result Script PairFault
few_runs script =
    if nat_lt most_windows (length script.config.lost) then Err (Runs (length script.config.lost)) else Ok script

abbrev pub way_script_of : Way → ScriptPair → Result Script PairFault
way_script_of There pair = few_runs (one_way_of pair.there pair.back)
way_script_of Back pair = few_runs (one_way_of pair.back pair.there)

-- ---- while runs are found
-- the longest runs of lost ones among the return packets from one on, where so many are made
abbrev pub runs_left : Script → ℕ → ℕ → List (ℕ × ℕ)
runs_left other from packets = runs_of (filter (is_unheard other) (range_with_len from (packets - from)))
