-- All is said and put, or a part of it.
use Rattle.std.proofs.lemmas.Result.{on_ok_weaker, on_err_weaker, IfOk-weaker}
use Rattle.command_parts.specs.Dialogue.{closed}
use Rattle.command_parts.proofs.ListenerLineAndSaidTextLaws.{not_ok, on_err, said_put, said_put_part}
use Rattle.command_parts.proofs.conversation.close.Goals as goal

pub returns-in-Ok-clause-whole : goal.returns-in-Ok-clause-whole
returns-in-Ok-clause-whole g c first earlier heard stands =
    on_ok_weaker c.put.result
    (λ puts. (
      c.in-Ok.ensures.whole first earlier heard stands,
      said_put _ _ first _ _ earlier _ _ (c.in-Ok.ensures.said first earlier heard stands) puts,
    ))
    c.put.ensures.ok

pub returns-in-Ok-clause-cut : goal.returns-in-Ok-clause-cut
returns-in-Ok-clause-cut g c first earlier heard stands =
    on_err_weaker c.put.result (λ part. said_put_part _ _ first c.hear_rest.new.out _ earlier
    c.hear_rest.new.block _ (c.in-Ok.ensures.said first earlier heard stands) part) c.put.ensures.err

pub returns-in-Err-clause-whole : goal.returns-in-Err-clause-whole
returns-in-Err-clause-whole g c first earlier heard stands =
    IfOk-weaker c.stopped.result _ _ (λ own it. not_ok own.written _ it.0)
    (c.stopped.ensures.cut first earlier (closed heard c.args.rest.now) (c.in-Err.ensures.stopped first earlier heard stands))

pub returns-in-Err-clause-cut : goal.returns-in-Err-clause-cut
returns-in-Err-clause-cut g c first earlier heard stands =
    IfOk-weaker c.stopped.result _ _ (λ own it. on_err own.written _ it.1)
    (c.stopped.ensures.cut first earlier (closed heard c.args.rest.now) (c.in-Err.ensures.stopped first earlier heard stands))

pub returns-in-Err-clause-stops : goal.returns-in-Err-clause-stops
returns-in-Err-clause-stops g c first earlier heard stands =
    c.stopped.ensures.stops first earlier (closed heard c.args.rest.now) (c.in-Err.ensures.stopped first earlier heard stands)
