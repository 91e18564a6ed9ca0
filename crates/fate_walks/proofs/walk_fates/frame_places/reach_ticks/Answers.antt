-- Each tick makes the stream up to the place at which its row ends.
use Rattle.std.proofs.Common.{◌≡◌, ◌≤◌, ap, ◌∙◌, arith}
use Rattle.law_model.specs.Common.{leg_of}
use Rattle.fate_engine.specs.Common.{ruler_of}
use Rattle.fate_walks.specs.walk_frames.StreamInTicks.{stream_in}
use Rattle.fate_walks.proofs.CursorAndRulerLaws.{reach-tick}
use Rattle.fate_walks.proofs.walk_fates.frame_places.reach_ticks.Goals as goal

pub loop-t-preserved : goal.loop-t-preserved
loop-t-preserved c frames between from =
    reach-tick
    (leg_of c.args.walk.now.script) frames c.args.from c.loop-t.t c.args.to c.place_after.result c.loop-t.ruler
    c.reach.new.self between c.loop-t.auto.t c.loop-t-test.true
    c.place_after.ensures.is c.reach.ensures (c.loop-t.invariant frames between from)

pub returns : goal.returns
returns c frames between from =
    let order : c.args.from ≤ c.args.to = c.requires.order in
    let last : c.loop-t.t ≡ c.args.to = omega (arith, c.loop-t.auto.t-end order, c.loop-t-test.false) in
    c.loop-t.invariant frames between from
    ∙ ap (λ t. ruler_of (stream_in (leg_of c.args.walk.now.script) t frames)) last
