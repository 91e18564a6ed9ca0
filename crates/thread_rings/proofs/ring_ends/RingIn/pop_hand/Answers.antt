-- The first of the items that are known is popped.
use Rattle.std.proofs.Common.{ap}
use Rattle.thread_rings.specs.EndsOfRing.{InEnd}
use Rattle.thread_rings.proofs.SameRingEndsLaws.{known-popped}
use Rattle.thread_rings.proofs.ring_ends.RingIn.pop_hand.Goals as goal

pub returns-clause-item : goal.returns-clause-item
returns-clause-item g c =
    known-popped g.T.Placed.lies_in _ _ _ _ _ _ _ (ap (λ (into : InEnd g.row.T.Denot). into.items) c.self.view_is)
    c.pop_known-place.ensures.received.1 c.push_reserved.ensures.sent.1 c.swap.ensures.y_after
