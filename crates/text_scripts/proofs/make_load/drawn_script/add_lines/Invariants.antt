-- The lines so far are added.
use Rattle.std.proofs.Common.{◌≡◌, length}
use Rattle.text_scripts.specs.make_load.Load.{additions}
use Rattle.text_scripts.proofs.make_load.drawn_script.add_lines.Given as goal

abbrev pub invariant-loop-line : goal.invariant-loop-line
invariant-loop-line l = record { are : l.items ≡ additions l.line; few : length l.items ≡ l.line }
