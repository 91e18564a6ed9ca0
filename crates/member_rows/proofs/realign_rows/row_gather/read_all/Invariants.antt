-- The packets of the lines so far were read.
use Rattle.member_rows.specs.realign_rows.LineByLine.{AreRead}
use Rattle.member_rows.proofs.realign_rows.row_gather.read_all.Given as goal

abbrev pub invariant-loop-m : goal.invariant-loop-m
invariant-loop-m l = AreRead l.m l.lines l.packets
