-- The lines so far have passed a number, and the others are as they were.
use Rattle.member_cells.specs.HeldPlaces.{held}
use Rattle.member_rows.specs.realign_rows.LineByLine.{ArePassed}
use Rattle.member_rows.proofs.realign_rows.row_gather.pass_all.Given as goal

abbrev pub invariant-loop-m : goal.invariant-loop-m
invariant-loop-m l = ArePassed l.m l.j (held l.places) l.fn.lines l.lines
