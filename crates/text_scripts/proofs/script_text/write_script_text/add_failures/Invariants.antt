-- The lines so far.
use Rattle.std.proofs.Common.{take}
use Rattle.text_scripts.specs.script_text.ScriptText.{failures_from}
use Rattle.text_scripts.specs.script_text.TextOuts.{Adds}
use Rattle.text_scripts.proofs.script_text.write_script_text.add_failures.Given as goal

abbrev pub invariant-loop-line : goal.invariant-loop-line
invariant-loop-line g l =
    Adds g.T.TextOut.stands_for l.fn.out l.out (failures_from 0 (take l.line l.lists))
