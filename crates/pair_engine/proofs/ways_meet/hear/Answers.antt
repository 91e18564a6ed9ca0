-- What is read is the session's return cell; the first packets tell none.
use Rattle.std.proofs.Common.{ap, arith, map, ◌∙◌}
use Rattle.law_model.specs.Common.{governing}
use Rattle.law_walk.specs.Common.{popped_cells}
use Rattle.law_pair.specs.Common.{way_of}
use Rattle.walk_engine.specs.Common.{Parts, line_counts, windows_in}
use Rattle.pair_engine.specs.Ways.{walking_of}
use Rattle.pair_engine.proofs.TakenRowAndHeardPacketLaws.{put-room, put-few, hears-late, hears-early}
use Rattle.pair_engine.proofs.ways_meet.hear.Goals as goal

pub put-requires : goal.put-requires
put-requires c =
    let (script, beside, was, ends) = c.requires in
    let own = walking_of c.args.own.now in
    let other = walking_of c.args.other.now in
    let late = c.if-row-from.true in
    let from = c.from.ensures in
    let lag = ends.lag in
    record {
      room = put-room script beside was own other c.args.row ends (omega (arith, late, from, lag));
      few = put-few script beside was own other c.args.row ends (omega (arith, late, from, lag));
    }

pub returns-then-row-from-clause-hears : goal.returns-then-row-from-clause-hears
returns-then-row-from-clause-hears c script beside was ends =
    let own = walking_of c.args.own.now in
    let other = walking_of c.args.other.now in
    let late = c.if-row-from.true in
    let from = c.from.ensures in
    let lag = ends.lag in
    let popped = popped_cells (way_of script beside) (map line_counts own.core.lines) in
    hears-late script beside was own other c.args.row ends (omega (arith, late, from, lag)) c.heard_cell-cell.result
    c.packets.result.now c.put.new.self c.heard_cell-cell.ensures.said
    ((rw c.rows.ensures at c.packets.ensures.governing) popped ends.stands.sink.gathers
    ∙ ap (governing popped) ends.stands.sink.passed)
    c.heard_cell-cell.ensures.told c.put.ensures

pub returns-then-row-from-clause-other : goal.returns-then-row-from-clause-other
returns-then-row-from-clause-other c = record {
  frames = ap (λ (p : Parts). p.source.landed.frames) c.put.ensures;
  commands = ap (λ (p : Parts). p.source.landed.commands) c.put.ensures;
  windows = ap (λ (p : Parts). windows_in p.lines) c.put.ensures;
}

pub returns-else-row-from-clause-hears : goal.returns-else-row-from-clause-hears
returns-else-row-from-clause-hears c script beside was ends =
    let early = c.if-row-from.false in
    let from = c.from.ensures in
    let lag = ends.lag in
    hears-early script beside was (walking_of c.args.own.now) (walking_of c.args.other.now) c.args.row ends
    (omega (arith, early, from, lag))
