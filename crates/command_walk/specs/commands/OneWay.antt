-- `pair there` and `pair back`: the script of one way of a pair.
use Rattle.std.specs.Prelude.{ℕ, nat_lt, List, length, if◌then◌else◌}
use Rattle.law_model.specs.Common.{longest_input}
use Rattle.law_model.specs.declared.script_types.Script.{Script}
use Rattle.law_pair.specs.declared.pair_events.Way.{Way}
use Rattle.text_scripts.specs.script_text.ScriptText.{script_text}
use Rattle.command_parts.specs.Common.{Answer, answer_told, exceeds, writes}
use Rattle.text_pairs.specs.declared.script_pair.ScriptPair.{ScriptPair}
use Rattle.text_pairs.specs.Inputs.{pair_answer, pair_told}
use Rattle.pair_walk.specs.OneWay.{way_script_of}

-- the text of a script, where an input may have as many octets
abbrev pub script_reply : Script → Answer
script_reply script =
    if nat_lt longest_input (length (script_text script)) then exceeds else writes (script_text script)

-- of two scripts that make a pair: the script of the way, or why it isn't one
abbrev pub way_reply : Way → ScriptPair → Answer
way_reply way pair = answer_told script_reply (pair_told (way_script_of way pair))

abbrev pub one_way_answer : Way → List ℕ → Answer
one_way_answer way = pair_answer (way_reply way)
