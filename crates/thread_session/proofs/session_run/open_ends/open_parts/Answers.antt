-- What was opened is the script's, over rings through which nothing has passed.
use Rattle.thread_session.proofs.WorkerShareAndPairListLaws.{none-received}
use Rattle.thread_session.proofs.session_run.open_ends.open_parts.Goals as goal

pub open_ends-requires-clause-fresh : goal.open_ends-requires-clause-fresh
open_ends-requires-clause-fresh c =
    let opened = c.in_ok-lines.ensures in
    none-received c.args.script.now.config.lines c.in_ok-lines.lines.rx.items opened.rx_count opened.fresh

pub returns : goal.returns
returns c =
    let e = c.in_ok-group.ensures in
    record {
      bound = e.bound;
      lines = rw (e.ends.0, e.ends.1) c.in_ok-lines.ensures;
      returns = e.returns;
      sink = e.sink;
    }
