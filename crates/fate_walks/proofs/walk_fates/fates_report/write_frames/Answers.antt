-- A line more; and all of them.
use Rattle.std.proofs.Common.{[], ◌∷◌, ◌++◌, refl, sym, ap, subst, append-nil}
use Rattle.std.specs.List.{flat_map}
use Rattle.law_model.specs.Common.{leg_of}
use Rattle.text_got.specs.TextSoFar.{HasText}
use Rattle.fate_engine.specs.Common.{Ended, ended_text}
use Rattle.fate_walks.specs.walk_fates.MadeWalk.{Counted, fates_in}
use Rattle.fate_walks.proofs.FatesAndSeenRowsLaws.{ended_frame, frames-begun, frames-next, frames-few, frames-past, texts-next}
use Rattle.fate_walks.proofs.walk_fates.fates_report.write_frames.Goals as goal

pub loop-frame-init : goal.loop-frame-init
loop-frame-init g c =
    let none = c.default.ensures in (
      [],
      frames-begun (leg_of c.args.walk.now.script) c.args.walk.now.counts c.new-cursor.result
          (record { frames = 0; refused = 0; totals = c.default.result })
          c.new-cursor.ensures.at c.new-cursor.ensures.first refl refl none.0 none.1.0 none.1.1,
      λ start before has. subst (HasText g.K.ByteSink.written g.K.ByteSink.faults c.args.got.now start)
          (sym (append-nil before)) has,
    )

pub write_frame-requires-clause-few : goal.write_frame-requires-clause-few
write_frame-requires-clause-few g c =
    frames-few (leg_of c.args.walk.now.script) c.args.walk.now.counts c.loop-frame.cursor c.loop-frame.ended
    c.loop-frame.invariant.0 c.loop-frame.invariant.1

pub loop-frame-preserved : goal.loop-frame-preserved
loop-frame-preserved g c =
    let script = c.args.walk.now.script in
    let s = c.args.walk.now.counts in
    let done = c.loop-frame.invariant.0 in
    let next = c.in-Some.ensures.some in
    let own : Ended =
    ended_frame (leg_of script) (fates_in (leg_of script) s.rows) c.in-Some.frame next.octets c.loop-frame.ended.frames
    in (
      done ++ own ∷ [],
      frames-next (leg_of script) s c.loop-frame.cursor c.next.new.self c.loop-frame.ended c.write_frame.new.ended done
          c.in-Some.frame next c.loop-frame.invariant.1 c.in-Some.ensures.at c.write_frame.ensures.count,
      λ start before has.
          subst (HasText g.K.ByteSink.written g.K.ByteSink.faults c.write_frame.new.got start)
          (texts-next done own before)
          (c.write_frame.ensures.text start (before ++ flat_map ended_text done)
          (c.loop-frame.invariant.2 start before has)),
    )

pub returns : goal.returns
returns g c = record {
  text = λ start before has.
      let script = c.args.walk.now.script in
      let s = c.args.walk.now.counts in
      let done = c.loop-frame.invariant.0 in
      subst (HasText g.K.ByteSink.written g.K.ByteSink.faults c.loop-frame.got start)
      (ap (λ l. before ++ flat_map ended_text l)
      (frames-past (leg_of script) s c.loop-frame.cursor c.loop-frame.ended done c.loop-frame.invariant.1
      c.in_default.ensures.none))
      (c.loop-frame.invariant.2 start before has);
  counted =
      let script = c.args.walk.now.script in
      let s = c.args.walk.now.counts in
      let done = c.loop-frame.invariant.0 in
      subst (λ l. Counted l c.loop-frame.ended)
      (frames-past (leg_of script) s c.loop-frame.cursor c.loop-frame.ended done c.loop-frame.invariant.1
      c.in_default.ensures.none) c.loop-frame.invariant.1.counted;
}
