-- What was known stays known, and more may be.
use Rattle.std.proofs.Common.{ap}
use Rattle.thread_rings.specs.EndsOfRing.{InEnd}
use Rattle.thread_rings.proofs.SameRingEndsLaws.{known-kept}
use Rattle.thread_rings.proofs.ring_ends.RingIn.ready.Goals as goal

pub returns-then-knows_item-2-clause-kept : goal.returns-then-knows_item-2-clause-kept
returns-then-knows_item-2-clause-kept g c =
    known-kept g.T.Placed.lies_in _ _ _ _ _ (ap (λ (into : InEnd g.row.T.Denot). into.items) c.self.view_is)
    c.slots.ensures.looked.2 c.slots-2.ensures.looked.2
