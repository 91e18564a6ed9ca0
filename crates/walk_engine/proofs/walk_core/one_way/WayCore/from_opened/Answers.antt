-- Nothing has landed, was sent, or was taken.
use Rattle.walk_engine.proofs.OpenedWayLaws.{new-counts, new-stands, new-windows}
use Rattle.walk_engine.proofs.walk_core.one_way.WayCore.from_opened.Goals as goal

pub returns-clause-stands : goal.returns-clause-stands
returns-clause-stands c leg config new alike = new-stands leg config c.args.opened new alike

pub returns-clause-counts : goal.returns-clause-counts
returns-clause-counts c leg config new alike = new-counts leg config c.args.opened new alike

pub returns-clause-windows : goal.returns-clause-windows
returns-clause-windows c config new = new-windows config c.args.opened new
