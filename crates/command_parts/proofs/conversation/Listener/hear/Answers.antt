-- The line was replied to, or why not.
use Rattle.std.proofs.Common.{refl}
use Rattle.command_parts.proofs.ListenerLineAndSaidTextLaws.{heard_line, stops_reply}
use Rattle.command_parts.proofs.conversation.Listener.hear.Goals as goal

pub returns-in-Ok-clause-heard : goal.returns-in-Ok-clause-heard
returns-in-Ok-clause-heard g c first earlier heard stands =
    heard_line g.T.Talker.Hears _ _ first c.args.out.now c.reply.new.out earlier _ c.reply.new.block
    c.args.line.now c.args.self.now _ heard stands (c.in-Ok.ensures.replied heard stands.listens.hears) refl
    (λ text is. c.in-Ok.ensures.hears heard text stands.listens.hears is)

pub returns-in-Err-clause-stopped : goal.returns-in-Err-clause-stopped
returns-in-Err-clause-stopped g c first earlier heard stands =
    stops_reply g.K.ByteSink.written g.K.ByteSink.faults first c.args.out.now c.reply.new.out earlier c.args.block.now
    c.reply.new.block heard _ c.in-Err.stop stands.said (c.in-Err.ensures.stopped heard stands.listens.hears)
