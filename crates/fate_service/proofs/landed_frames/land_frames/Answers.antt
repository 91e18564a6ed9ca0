-- A frame more is taken; and all of them.
use Rattle.std.proofs.Common.{◌<◌, [], ◌∷◌, ◌++◌, length, ap, subst, arith}
use Rattle.std.proofs.lemmas.List.{length-map}
use Rattle.law_model.specs.Common.{leg_of}
use Rattle.fate_engine.specs.Common.{Ended}
use Rattle.fate_walks.specs.walk_fates.MadeWalk.{fates_in}
use Rattle.fate_walks.proofs.FatesAndSeenRowsLaws.{ended_frame}
use Rattle.fate_service.specs.FrameColumns.{offered_frame, AreLanded}
use Rattle.fate_service.proofs.LandedFrameTallyLaws.{taken-begun, taken-next, taken-few, landed-accepted-few}
use Rattle.fate_service.proofs.LandedFrameTallyLaws.{taken-past}
use Rattle.fate_service.proofs.landed_frames.land_frames.Goals as goal

pub loop-frame-init : goal.loop-frame-init
loop-frame-init c = (
  [],
  taken-begun (leg_of c.args.walk.now.script) c.args.walk.now.counts c.new-cursor.result c.in_ok-landed.landed
      c.new-cursor.ensures.at c.new-cursor.ensures.first c.in_ok-landed.ensures.landed,
)

pub take_frame-requires : goal.take_frame-requires
take_frame-requires c =
    let done = c.loop-frame.invariant.0 in
    let come = c.loop-frame.invariant.1 in
    let all = taken-few (leg_of c.args.walk.now.script) c.args.walk.now.counts c.loop-frame.cursor c.loop-frame.landed
    done come in
    record {
      seen = c.requires;
      few = omega (arith, all, landed-accepted-few done c.loop-frame.landed come.columns);
      frames = omega (arith, all, come.waits);
      octets = omega (arith, all, come.octets);
    }

pub loop-frame-preserved : goal.loop-frame-preserved
loop-frame-preserved c =
    let script = c.args.walk.now.script in
    let s = c.args.walk.now.counts in
    let done = c.loop-frame.invariant.0 in
    let next = c.in-Some.ensures.some in
    let small : c.in-Some.frame.length < 65536 = omega arith in
    let own : Ended = ended_frame (leg_of script) (fates_in (leg_of script) s.rows) c.in-Some.frame next.octets
    (length c.loop-frame.landed.accepted.items) in (
      done ++ own ∷ [],
      taken-next (leg_of script) s c.loop-frame.cursor c.next.new.self c.loop-frame.landed c.take_frame.new.landed done
          c.in-Some.frame next small c.loop-frame.invariant.1 c.in-Some.ensures.at c.in_ok-take_frame.ensures,
    )

pub returns : goal.returns
returns c =
    let done = c.loop-frame.invariant.0 in
    let come = c.loop-frame.invariant.1 in
    let all = taken-few (leg_of c.args.walk.now.script) c.args.walk.now.counts c.loop-frame.cursor c.loop-frame.landed
    done come in
    record {
      landed = subst (λ l. AreLanded l c.loop-frame.landed)
          (taken-past (leg_of c.args.walk.now.script) c.args.walk.now.counts c.loop-frame.cursor c.loop-frame.landed done
          come c.in_default.ensures.none) come.columns;
      few = omega (arith, all, ap length come.columns.offered, length-map done offered_frame);
    }
