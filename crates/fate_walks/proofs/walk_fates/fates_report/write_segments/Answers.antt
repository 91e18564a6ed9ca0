-- A line more; and all of them.
use Rattle.std.proofs.Common.{◌<◌, ◌≤◌, ◌++◌, length, take, refl, ap, subst, arith, flat_map, take_all}
use Rattle.law_model.proofs.ListLaws.{slice_get-inside}
use Rattle.law_model.specs.Common.{leg_of}
use Rattle.text_got.specs.TextSoFar.{HasText}
use Rattle.law_walk.specs.Common.{session_rows}
use Rattle.fate_engine.specs.Common.{later_segments}
use Rattle.fate_walks.specs.walk_fates.MadeWalk.{segment_in}
use Rattle.fate_walks.proofs.FatesAndSeenRowsLaws.{text-next}
use Rattle.fate_walks.proofs.walk_fates.fates_report.write_segments.Goals as goal

pub loop-i-preserved : goal.loop-i-preserved
loop-i-preserved g c = λ start before has.
    let script = c.args.walk.now.script in
    let rows = c.args.walk.now.counts.rows in
    let all = later_segments (session_rows (leg_of script) rows) in
    let i = c.loop-i.i in
    let count = c.later_count-i-end.ensures (session_rows (leg_of script) rows) c.requires.rows.segments in
    let low : i < length all = omega (arith, count, c.loop-i-test.true) in
    let own = slice_get-inside all i low in
    subst (HasText g.K.ByteSink.written g.K.ByteSink.faults c.write_segment.new.got start)
    (text-next (segment_in (leg_of script) rows) all i own.0 before (segment_in (leg_of script) rows own.0) own.1 refl)
    (c.write_segment.ensures own.0 own.1 start (before ++ flat_map (segment_in (leg_of script) rows) (take i all))
    (c.loop-i.invariant start before has))

pub returns : goal.returns
returns g c = λ start before has.
    let script = c.args.walk.now.script in
    let rows = c.args.walk.now.counts.rows in
    let all = later_segments (session_rows (leg_of script) rows) in
    let count = c.later_count-i-end.ensures (session_rows (leg_of script) rows) c.requires.rows.segments in
    let high : length all ≤ c.loop-i.i = omega (arith, count, c.loop-i-test.false) in
    subst (HasText g.K.ByteSink.written g.K.ByteSink.faults c.loop-i.got start)
    (ap (λ l. before ++ flat_map (segment_in (leg_of script) rows) l) (take_all c.loop-i.i all high))
    (c.loop-i.invariant start before has)
