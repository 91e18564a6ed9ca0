-- The windows so far.
use Rattle.std.proofs.Common.{take}
use Rattle.std.specs.List.{flat_map}
use Rattle.text_scripts.specs.script_text.ScriptText.{fail_line}
use Rattle.text_scripts.specs.script_text.TextOuts.{Adds}
use Rattle.text_scripts.proofs.script_text.write_script_text.add_windows.Given as goal

abbrev pub invariant-loop-window : goal.invariant-loop-window
invariant-loop-window g l =
    Adds g.T.TextOut.stands_for l.fn.out l.out (flat_map (fail_line l.line) (take l.window-index l.windows))
