-- Both terminals are the script's.
use Rattle.walk_engine.proofs.walk_core.open_way.open_ends.Goals as goal

pub returns-clause-source : goal.returns-clause-source
returns-clause-source c = c.in_ok-source.ensures

pub returns-clause-sink : goal.returns-clause-sink
returns-clause-sink c =
    let e = c.in_ok-sink.ensures in
    record { lines = e.lines; size = e.size; options = e.options; taken = e.taken; stands = e.stands }
