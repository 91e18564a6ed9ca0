-- Nothing has landed, and there is room for all items.
use Rattle.std.proofs.Common.{arith}
use Rattle.thread_session.proofs.OpenedLineAndGroupLaws.{group-opened, octets-few}
use Rattle.thread_session.proofs.session_run.open_ends.open_group.Goals as goal

pub returns-clause-bound : goal.returns-clause-bound
returns-clause-bound c =
    let e = c.new.ensures in
    let script = c.args.script.now in
    let octets = octets-few script.items (λ k d inside. (c.requires.script.sound.items.each k d inside).1) in
    group-opened script c.requires.script _ _ c.args.tx c.args.back c.new.result
    c.len-entries.ensures.count (omega (arith, octets, c.len-entries.ensures.count)) c.requires.sends e.script e.ticks
    e.landed e.journal e.room e.refusals e.ends e.made
