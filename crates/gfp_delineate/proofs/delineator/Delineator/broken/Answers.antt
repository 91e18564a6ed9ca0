-- The receiver of areas begins a new segment, and so does that of frames.
use Rattle.std.proofs.Common.{false, sym, subst}
use Rattle.gfp_delineate.specs.Receiver.{Receiver, area_limit, StandsIn}
use Rattle.gfp_delineate.proofs.delineator.Delineator.broken.Goals as goal

pub returns-clause-stands_in : goal.returns-clause-stands_in
returns-clause-stands_in c = λ longest first octets stands.
    c.broken.ensures.stands (area_limit longest) false first octets
    (subst (λ (was : Receiver). StandsIn was longest first octets) (sym c.self.view_is) stands)
