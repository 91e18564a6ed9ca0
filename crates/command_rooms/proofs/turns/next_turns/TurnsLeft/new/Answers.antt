-- All lines, or a drain.
use Rattle.std.proofs.Common.{length, refl, sym}
use Rattle.std.proofs.lemmas.Bool.{eqb-true}
use Rattle.command_rooms.proofs.WalkTraceAndEventCountLaws.{some-lines}
use Rattle.command_rooms.proofs.TurnsLeftLaws.{drains-first, lines-first}
use Rattle.command_rooms.proofs.turns.next_turns.TurnsLeft.new.Goals as goal

pub returns-then-is_empty : goal.returns-then-is_empty
returns-then-is_empty c script valid lines ticks =
    drains-first script _ valid lines ticks refl (eqb-true (length c.args.lines.now) 0 (sym c.if-is_empty.ensures))

pub returns : goal.returns
returns c script valid lines ticks =
    lines-first script _ valid lines ticks refl (some-lines (length c.args.lines.now) c.if-is_empty.ensures)
