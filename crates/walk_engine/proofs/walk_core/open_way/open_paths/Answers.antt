-- The rings have a place for each line of the script.
use Rattle.walk_engine.proofs.walk_core.open_way.open_paths.Goals as goal

pub returns-clause-sent : goal.returns-clause-sent
returns-clause-sent c =
    let e = c.in_ok-new_sent.ensures in
    record { places = e.places; lines = e.lines }
