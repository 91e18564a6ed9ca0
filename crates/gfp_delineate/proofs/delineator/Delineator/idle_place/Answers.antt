-- Idles that end no area bring no outcome.
use Rattle.std.proofs.Common.{ℕ, [], false, Option, Some, None, refl, subst, IfSome}
use Rattle.gfp_delineate.specs.Repeated.{idles_from}
use Rattle.gfp_delineate.specs.ReceivedAreas.{Goes, Adds}
use Rattle.gfp_delineate.specs.Receiver.{Receiver, area_limit, Advances, Brings}
use Rattle.gfp_delineate.proofs.AreaOutcomeLaws.{Brings-ends}
use Rattle.gfp_delineate.proofs.delineator.Delineator.idle_place.Goals as goal

stays : (receiver : Receiver) (place : Option ℕ) →
    IfSome place (λ place. (count : ℕ) → Goes receiver.progress receiver.progress (idles_from place count)
    × Adds receiver.progress (idles_from place count) []) →
    IfSome place (λ place. (count : ℕ) → Advances receiver receiver (idles_from place count)
    × Brings receiver (idles_from place count) [])
stays receiver None inner = tt
stays receiver (Some place) inner = λ count. (
  λ longest first octets stands. (inner count).0 (area_limit longest) false first octets stands,
  Brings-ends receiver (idles_from place count) [] [] refl (inner count).1,
)

pub returns-clause-stays : goal.returns-clause-stays
returns-clause-stays c =
    subst (λ (receiver : Receiver). IfSome c.idle_place.result (λ place. (count : ℕ) →
    Advances receiver receiver (idles_from place count) × Brings receiver (idles_from place count) [])) c.self.view_is
    (stays (record { progress = c.self.inside.receiver; holds = c.self.inside.holds }) c.idle_place.result
    c.idle_place.ensures.stays)
