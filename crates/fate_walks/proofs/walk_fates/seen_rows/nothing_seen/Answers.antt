-- No packet and no row.
use Rattle.fate_walks.proofs.FatesAndSeenRowsLaws.{sees-nothing}
use Rattle.fate_walks.proofs.walk_fates.seen_rows.nothing_seen.Goals as goal

pub returns : goal.returns
returns c leg is = sees-nothing leg c.args.size
    (record { packets = c.new.result; segments = c.new-2.result; runs = c.new-3.result }) is c.new.ensures
    c.new-2.ensures c.new-3.ensures
