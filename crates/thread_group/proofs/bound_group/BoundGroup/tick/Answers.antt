-- A tick leaves the group bound.
use Rattle.thread_group.proofs.GroupBoundToLegLaws.{bound-ticks}
use Rattle.thread_group.proofs.bound_group.BoundGroup.tick.Goals as goal

pub invariant_of-self : goal.invariant_of-self
invariant_of-self g c = record { bound = bound-ticks _ _ _ _ _ _ c.args.self.now.bound c.tick.ensures }

pub returns-clause-ticks : goal.returns-clause-ticks
returns-clause-ticks g c = c.tick.ensures
