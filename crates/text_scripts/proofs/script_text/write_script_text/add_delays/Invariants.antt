-- The delays so far.
use Rattle.std.proofs.Common.{◌++◌, take, map}
use Rattle.std.specs.Prelude.{codes, decimal}
use Rattle.std.specs.List.{flat_map}
use Rattle.text_scripts.specs.script_text.ScriptText.{spaced}
use Rattle.text_scripts.specs.script_text.TextOuts.{Adds}
use Rattle.text_scripts.proofs.script_text.write_script_text.add_delays.Given as goal

abbrev pub invariant-loop-delay : goal.invariant-loop-delay
invariant-loop-delay g l =
    Adds g.T.TextOut.stands_for l.fn.out l.out (codes "delays" ++ flat_map spaced (map decimal (take l.delay-index l.delays)))
