-- No line is marked at first, and then one line more.
use Rattle.std.proofs.Common.{refl, arith}
use Rattle.terminal_source.proofs.DealtFrameContainerLaws.{marked-is, no-mark}
use Rattle.terminal_source.proofs.source_core.container_frame.carriers.Goals as goal
use Rattle.law_model.specs.Common.{most_lines}

pub loop-rank-init : goal.loop-rank-init
loop-rank-init c = record {
  size = refl;
  all = λ rank low. absurd (omega arith);
  only = λ line marked. absurd (no-mark most_lines line marked);
}

pub returns : goal.returns
returns c line low =
    marked-is c.args.active.now c.loop-rank.carry line
    (λ rank below. c.loop-rank.invariant.all rank (omega arith))
    (λ marked. let one = c.loop-rank.invariant.only line marked in (one.0, omega (arith, one.1), one.2))
