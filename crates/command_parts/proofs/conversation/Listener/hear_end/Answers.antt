-- The end was replied to, or why not.
use Rattle.command_parts.specs.Dialogue.{last_reply}
use Rattle.command_parts.proofs.ListenerLineAndSaidTextLaws.{ended_whole, ended_said, ended_stops, stops_reply}
use Rattle.command_parts.proofs.conversation.Listener.hear_end.Goals as goal

pub returns-in-Ok-clause-whole : goal.returns-in-Ok-clause-whole
returns-in-Ok-clause-whole g c first earlier heard stands =
    ended_whole g.T.Talker.Hears _ _ _ _ _ _ heard _ (c.in-Ok.ensures.replied heard stands.listens.hears)

pub returns-in-Ok-clause-said : goal.returns-in-Ok-clause-said
returns-in-Ok-clause-said g c first earlier heard stands =
    ended_said g.T.Talker.Hears _ _ first c.args.out.now c.finish.new.out earlier c.args.block.now
    c.finish.new.block heard _ stands.said (c.in-Ok.ensures.replied heard stands.listens.hears)

pub returns-in-Err-clause-stopped : goal.returns-in-Err-clause-stopped
returns-in-Err-clause-stopped g c first earlier heard stands =
    ended_stops g.T.Talker.Hears g.K.ByteSink.written g.K.ByteSink.faults first c.finish.new.out earlier
    c.finish.new.block heard (last_reply heard) c.in-Err.stop
    (stops_reply _ _ first c.args.out.now c.finish.new.out earlier c.args.block.now c.finish.new.block heard
    (last_reply heard) c.in-Err.stop stands.said (c.in-Err.ensures.stopped heard stands.listens.hears))
