-- The receiver of areas begins a new segment, and so does that of frames.
use Rattle.std.proofs.Common.{false, sym, subst}
use Rattle.gfp_channels.specs.gfp_linear.Delineator.{LinearReceiver, StandsIn}
use Rattle.gfp_channels.proofs.gfp_linear.linear_delineator.LinearDelineator.broken.Goals as goal
use Rattle.law_model.specs.Common.{longest_extended_area}

pub returns-clause-stands : goal.returns-clause-stands
returns-clause-stands c = λ first octets stands.
    c.broken.ensures.stands longest_extended_area false first octets
    (subst (λ (was : LinearReceiver). StandsIn was first octets) (sym c.self.view_is) stands)
