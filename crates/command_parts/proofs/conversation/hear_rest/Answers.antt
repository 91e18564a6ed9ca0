-- The last line lacks its LF, or there is none.
use Rattle.std.proofs.Common.{◌≡◌, ◌<◌, length, None, sym, subst, rules, OnOk, IfErr}
use Rattle.command_parts.specs.Talk.{Said}
use Rattle.command_parts.specs.Dialogue.{heard_more}
use Rattle.command_parts.specs.Conversation.{StopsSaying}
use Rattle.command_parts.proofs.ListenerLineAndSaidTextLaws.{closed_none, closed_heard, closed_stops}
use Rattle.command_parts.proofs.conversation.hear_rest.Goals as goal

pub returns-then-is_empty-clause-whole : goal.returns-then-is_empty-clause-whole
returns-then-is_empty-clause-whole g c first earlier heard stands =
    let none : length c.args.rest.now ≡ 0 = search rules in
    subst (λ (is : Said). OnOk c.hear_end.result (is.end ≡ None))
    (sym (closed_none g.T.Talker.Hears g.K.ByteSink.written g.K.ByteSink.faults heard c.args.rest.now none))
    (c.hear_end.ensures.whole first earlier heard stands)

pub returns-then-is_empty-clause-stopped : goal.returns-then-is_empty-clause-stopped
returns-then-is_empty-clause-stopped g c first earlier heard stands =
    let none : length c.args.rest.now ≡ 0 = search rules in
    subst (λ (is : Said). IfErr c.hear_end.result (StopsSaying g.K.ByteSink.written g.K.ByteSink.faults first
    earlier c.hear_end.new.out c.hear_end.new.block is))
    (sym (closed_none g.T.Talker.Hears g.K.ByteSink.written g.K.ByteSink.faults heard c.args.rest.now none))
    (c.hear_end.ensures.stopped first earlier heard stands)

pub hear_end-requires-in-Ok : goal.hear_end-requires-in-Ok
hear_end-requires-in-Ok g c =
    let (first, earlier, heard, stands) = c.requires.stands in
    let has = c.in-Ok.ensures.heard first earlier heard stands in
    (heard_more heard c.args.rest.now has.text, has.stands.listens.hears)

pub returns-in-Ok-clause-whole : goal.returns-in-Ok-clause-whole
returns-in-Ok-clause-whole g c first earlier heard stands =
    let some : 0 < length c.args.rest.now = search rules in
    let has = c.in-Ok.ensures.heard first earlier heard stands in
    subst (λ (is : Said). OnOk c.hear_end-in-Ok.result (is.end ≡ None))
    (sym (closed_heard g.T.Talker.Hears g.K.ByteSink.written g.K.ByteSink.faults heard c.args.rest.now
    has.text some has.is)) (c.hear_end-in-Ok.ensures.whole first earlier
    (heard_more heard c.args.rest.now has.text) has.stands)

pub returns-in-Ok-clause-stopped : goal.returns-in-Ok-clause-stopped
returns-in-Ok-clause-stopped g c first earlier heard stands =
    let some : 0 < length c.args.rest.now = search rules in
    let has = c.in-Ok.ensures.heard first earlier heard stands in
    subst (λ (is : Said). IfErr c.hear_end-in-Ok.result
    (StopsSaying g.K.ByteSink.written g.K.ByteSink.faults first earlier c.hear_end-in-Ok.new.out
    c.hear_end-in-Ok.new.block is)) (sym (closed_heard g.T.Talker.Hears g.K.ByteSink.written
    g.K.ByteSink.faults heard c.args.rest.now has.text some has.is))
    (c.hear_end-in-Ok.ensures.stopped first earlier (heard_more heard c.args.rest.now has.text) has.stands)

pub returns-in-Err-clause-stopped : goal.returns-in-Err-clause-stopped
returns-in-Err-clause-stopped g c first earlier heard stands =
    let some : 0 < length c.args.rest.now = search rules in
    closed_stops g.T.Talker.Hears g.K.ByteSink.written g.K.ByteSink.faults first c.hear.new.out earlier
    c.hear.new.block c.args.rest.now heard c.in-Err.stop some (c.in-Err.ensures.stopped first earlier heard stands)
