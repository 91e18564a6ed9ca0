-- One more line is new.
use Rattle.member_rows.proofs.RowGatherLinesLaws.{new_more}
use Rattle.member_rows.proofs.realign_rows.row_gather.new_lines.Goals as goal

pub loop-preserved : goal.loop-preserved
loop-preserved c = rw c.in_ok-push.ensures.items
    (new_more c.loop.counter c.loop.lines.items c.new.result c.loop.invariant c.new.ensures.stands c.new.ensures.open)
