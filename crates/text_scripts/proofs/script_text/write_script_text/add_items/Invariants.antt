-- The items so far.
use Rattle.std.proofs.Common.{take}
use Rattle.std.specs.List.{flat_map}
use Rattle.text_scripts.specs.script_text.ScriptText.{item_line}
use Rattle.text_scripts.specs.script_text.TextOuts.{Adds}
use Rattle.text_scripts.proofs.script_text.write_script_text.add_items.Given as goal

abbrev pub invariant-loop-number : goal.invariant-loop-number
invariant-loop-number g l =
    Adds g.T.TextOut.stands_for l.fn.out l.out (flat_map item_line (take l.number l.items))
