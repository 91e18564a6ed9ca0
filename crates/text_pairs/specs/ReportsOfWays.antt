-- What the command `pair` writes of two scripts: on `out` the report of the way there, on notes that of the way back.
use Rattle.std.specs.Prelude.{ℕ, List}
use Rattle.law_model.specs.declared.script_types.Script.{Script}
use Rattle.law_walk.specs.Common.{final_report}
use Rattle.law_pair.specs.Common.{way_of}
use Rattle.law_pair.specs.declared.pair_events.Way.{Way}
use Rattle.law_pair.specs.declared.pair_events.Way.TheVariants.{There, Back}
use Rattle.command_parts.specs.Common.{Answer, writes_both}
use Rattle.text_pairs.specs.declared.script_pair.ScriptPair.{ScriptPair}
use Rattle.text_pairs.specs.Inputs.{pair_answer}

-- of the way of a script, beside the other one, whose ticks are all made and whose rows are all taken: the got lines of
-- the frames that are delivered, the lines of refused items, and the line of totals
abbrev pub way_text : Script → Script → List ℕ
way_text script other = final_report (way_of script other)

-- of a way of two scripts
abbrev pub text_on : Way → ScriptPair → List ℕ
text_on There pair = way_text pair.there pair.back
text_on Back pair = way_text pair.back pair.there

-- of both ways
abbrev pub pair_text : ScriptPair → Answer
pair_text pair = writes_both (way_text pair.there pair.back) (way_text pair.back pair.there)

-- of an input: where it isn't two scripts that make a pair, the note on its first fault. The statuses are those of any
-- task that reads an input and is answered by it
abbrev pub pair_reply : List ℕ → Answer
pair_reply = pair_answer pair_text
