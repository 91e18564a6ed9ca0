-- One step more.
use Rattle.std.proofs.Common.{inl, inr, arith}
use Rattle.std.proofs.lemmas.Bool.{cases_lt}
use Rattle.thread_sink.specs.SinkParts.{parts}
use Rattle.thread_sink.proofs.SinkStepAndFrameLaws.{later-then, gives-then}
use Rattle.thread_sink.proofs.burst_steps.go_on.Goals as goal

pub returns-then-ne-clause-later : goal.returns-then-ne-clause-later
returns-then-ne-clause-later g c =
    later-then _ _ _ c.loop.invariant.later c.step.ensures.later

pub returns-then-ne-clause-gives : goal.returns-then-ne-clause-gives
returns-then-ne-clause-gives g c keeps =
    gives-then g.F.FrameOut.stands_for c.args.out.now c.loop.out c.step.new.out _ _ _
    (c.loop.invariant.keeps keeps) c.loop.invariant.later c.step.ensures.later (c.loop.invariant.gives keeps)
    (c.step.ensures.gives (c.loop.invariant.keeps keeps))

pub loop-preserved : goal.loop-preserved
loop-preserved g c =
    let first = parts c.args.rows.now c.args.core.now c.args.rx.now.items c.args.back.now in
    let before = parts c.loop.rows c.loop.core c.loop.rx.items c.loop.back in
    let after = parts c.step.new.rows c.step.new.core c.step.new.rx.items c.step.new.back in
    record {
      lines = c.step.ensures.lines;
      rings = c.step.ensures.rings;
      rows = c.step.ensures.rows;
      most = elim (cases_lt c.loop.core.taken c.args.last) [
        | inl less ↦ omega (arith, less, c.step.ensures.most)
        | inr all ↦ absurd (c.if-taken-last.false (omega (arith, all, c.loop.invariant.most, c.taken.ensures)))
      ];
      later = later-then first before after c.loop.invariant.later c.step.ensures.later;
      keeps = λ keeps. c.step.ensures.keeps (c.loop.invariant.keeps keeps);
      gives = λ keeps.
          gives-then g.F.FrameOut.stands_for c.args.out.now c.loop.out c.step.new.out first before after
          (c.loop.invariant.keeps keeps) c.loop.invariant.later c.step.ensures.later (c.loop.invariant.gives keeps)
          (c.step.ensures.gives (c.loop.invariant.keeps keeps));
    }
