-- `trace`: a walk, and a line for each of its decision steps.
use Rattle.std.specs.Prelude.{ℕ, ◌+◌, ◌*◌, List, codes, Option, Some, None, if◌then◌else◌}
use Rattle.std.specs.List.{flat_map, range_with_len}
use Rattle.law_model.specs.Common.{leg_of, steps_in}
use Rattle.law_model.specs.declared.script_types.Script.{Script}
use Rattle.law_walk.specs.Common.{cell_taken, table_in}
use Rattle.law_headline.specs.WalkTexts.{counts_in, walk_text}
use Rattle.text_captures.specs.packet_trace.StepText.{step_text}
use Rattle.command_parts.specs.Common.{Answer, writes_both, script_answer}
use Rattle.command_rooms.specs.declared.walk_command.WalkCommand.{WalkCommand}
use Rattle.command_rooms.specs.declared.walk_command.WalkCommand.TheVariants.{Trace}
use Rattle.command_rooms.specs.commands.Walk.{is_word}

abbrev pub trace_words : List (List ℕ) → Option WalkCommand
trace_words words = if is_word (codes "trace") words then Some Trace else None

-- the line of decision step j
abbrev pub decision_text : Script → ℕ → List ℕ
decision_text script j =
    step_text j (cell_taken (leg_of script) j) (table_in (leg_of script) (16 * j + 9)) script.config.lines

-- the lines of the decision steps that some ticks make
abbrev pub decisions_text : Script → ℕ → List ℕ
decisions_text script ticks = flat_map (decision_text script) (range_with_len 0 (steps_in ticks))

abbrev pub trace_text : Script → List ℕ
trace_text script = decisions_text script (counts_in script).ticks

abbrev pub trace_answer : List ℕ → Answer
trace_answer = script_answer (λ script. writes_both (walk_text script) (trace_text script))
