-- The line gave the same cells, and the ring holds those that weren't popped.
use Rattle.std.proofs.Common.{subst, sym, refl}
use Rattle.member_path.specs.path_delay.CallsOnDelayedLine.{and_mend}
use Rattle.walk_engine.specs.Common.{Has}
use Rattle.walk_engine.proofs.ReceiveRingAndPopLaws.{has-same, ringed-same}
use Rattle.walk_engine.proofs.walk_parts.walk_line.WalkLine.mend.Goals as goal

pub invariant_of-self : goal.invariant_of-self
invariant_of-self c = ringed-same _ c.mend.new.self _ c.self.invariant c.mend.ensures.line

pub returns-clause-has : goal.returns-clause-has
returns-clause-has c calls has =
    let own = subst (λ line. Has line calls) (sym c.self.view_is) has in
    has-same _ _ calls (and_mend calls c.args.end) own (c.mend.ensures.stands calls own.core) refl
    (c.mend.ensures.cells calls own.core)

pub returns-clause-cells : goal.returns-clause-cells
returns-clause-cells c calls has =
    let own = subst (λ line. Has line calls) (sym c.self.view_is) has in c.mend.ensures.cells calls own.core
