-- The worker is the script's.
use Rattle.thread_session.proofs.OpenedLineAndGroupLaws.{sink-opened}
use Rattle.thread_session.proofs.session_run.open_ends.open_sink.Goals as goal

pub returns-clause-sink : goal.returns-clause-sink
returns-clause-sink c =
    let e = c.new.ensures in
    sink-opened _ c.requires.script c.new.result e.lines e.size e.options e.ticks e.taken e.failed e.stands
