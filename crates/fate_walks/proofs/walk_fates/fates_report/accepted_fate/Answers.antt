-- The pieces of the ticks made tell it.
use Rattle.law_model.specs.Common.{leg_of, scenario_of, stream_before}
use Rattle.law_walk.specs.Common.{session_of}
use Rattle.fate_walks.proofs.FatesAndSeenRowsLaws.{kept-rows, fate-is}
use Rattle.fate_walks.proofs.walk_fates.fates_report.accepted_fate.Goals as goal

pub fate-requires : goal.fate-requires
fate-requires c = kept-rows (leg_of c.args.walk.now.script) c.args.walk.now.counts c.args.seen.now c.requires

pub returns : goal.returns
returns c =
    let script = c.args.walk.now.script in
    let s = c.args.walk.now.counts in
    fate-is (leg_of script) s c.args.seen.now c.requires c.args.frame c.fate.result
    (c.fate.ensures (scenario_of script) (session_of (leg_of script))
    (stream_before (scenario_of script) (session_of (leg_of script)) s.ticks) s.rows c.requires.rows.packets.are
    c.requires.places c.requires.rows.segments)
