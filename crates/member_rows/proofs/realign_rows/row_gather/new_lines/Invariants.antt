-- The lines so far are new.
use Rattle.member_rows.specs.realign_rows.LineByLine.{AreNew}
use Rattle.member_rows.proofs.realign_rows.row_gather.new_lines.Given as goal

abbrev pub invariant-loop : goal.invariant-loop
invariant-loop l = AreNew l.counter l.lines.items
