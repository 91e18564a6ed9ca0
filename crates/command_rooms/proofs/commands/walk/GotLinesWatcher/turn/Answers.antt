-- The lines of the frames of the rows that a turn takes stand behind those before them.
use Rattle.command_rooms.proofs.WalkTraceAndEventCountLaws.{rows-on}
use Rattle.command_rooms.proofs.commands.walk.GotLinesWatcher.turn.Goals as goal

pub returns-clause-seen : goal.returns-clause-seen
returns-clause-seen g c start has =
    rows-on g.K.ByteSink.written g.K.ByteSink.faults c.args.self.now c.make_turn.new.out start c.args.walk.now c.make_turn.new.walk
    c.make_turn.ensures.script c.make_turn.ensures.rows c.make_turn.ensures.gives has
