-- What was known stays known, and more may be.
use Rattle.std.proofs.Common.{ap}
use Rattle.thread_rings.specs.EndsOfRing.{InEnd}
use Rattle.thread_rings.proofs.SameRingEndsLaws.{known-kept}
use Rattle.thread_rings.proofs.ring_ends.RingIn.beside.Goals as goal

pub returns-clause-items : goal.returns-clause-items
returns-clause-items g c =
    known-kept g.T.Placed.lies_in _ _ _ _ _ (ap (λ (into : InEnd g.row.T.Denot). into.items) c.self.view_is)
    c.slots_beside.ensures.looked.2 c.slots_beside-2.ensures.looked.2
