-- The numbers so far.
use Rattle.std.proofs.Common.{◌++◌, take, map}
use Rattle.std.specs.Prelude.{decimal}
use Rattle.std.specs.List.{flat_map}
use Rattle.text_scripts.specs.script_text.ScriptText.{spaced}
use Rattle.text_scripts.specs.script_text.TextOuts.{Adds}
use Rattle.text_scripts.proofs.script_text.write_script_text.add_numbers.Given as goal

abbrev pub invariant-loop-number : goal.invariant-loop-number
invariant-loop-number g l =
    Adds g.T.TextOut.stands_for l.fn.out l.out (l.keyword ++ flat_map spaced (map decimal (take l.number-index l.numbers)))
