-- Idle frames change no mark in SYNC, and a header is due in SYNC alone.
use Rattle.std.proofs.Common.{◌≡◌, ℕ, true, false, refl, List, [], take, Option, Some, None, ◌∙◌, subst, IfSome}
use Rattle.law_model.specs.Common.{core_header}
use Rattle.gfp_delineate.specs.declared.hunt_presync_sync.Phase.{Phase}
use Rattle.gfp_delineate.specs.declared.hunt_presync_sync.Phase.TheVariants.{Hunt, PresyncArea, PresyncHeader}
use Rattle.gfp_delineate.specs.declared.hunt_presync_sync.Phase.TheVariants.{SyncHeader, SyncArea, SyncPassing}
use Rattle.gfp_delineate.specs.ReceivedAreas.{header_begun_in}
use Rattle.gfp_delineate.specs.Receiver as receiver
use Rattle.gfp_delineate.specs.Repeated.{idles_from}
use Rattle.gfp_delineate.proofs.ReceiverProgressLaws.{in_sync, is_sync-IsAt}
use Rattle.terminal_sink.specs.marked_delineator.Marks.{Marked, header_begun, Advances, Brings}
use Rattle.terminal_sink.proofs.ConfirmedPlaceAndMarkLaws.{synced-stays}
use Rattle.terminal_sink.proofs.marked_delineator.MarkedDelineator.idle_place.Goals as goal

due-synced : (phase : Phase) (window begun : List ℕ) → header_begun_in phase window ≡ Some begun → in_sync phase ≡ true
due-synced (Hunt have) window begun due = absurd (let wrong : None ≡ Some begun = due in cc)
due-synced (PresyncArea left) window begun due = absurd (let wrong : None ≡ Some begun = due in cc)
due-synced (PresyncHeader have) window begun due = absurd (let wrong : None ≡ Some begun = due in cc)
due-synced (SyncHeader have) window begun due = refl
due-synced (SyncArea left) window begun due = refl
due-synced (SyncPassing left why) window begun due = refl

both : (marked : Marked) (result : Option ℕ) →
    IfSome result (λ place. header_begun marked ≡ Some (take place (core_header 0))) →
    IfSome result (λ place. (count : ℕ) → receiver.Advances marked.receiver marked.receiver (idles_from place count) ×
    receiver.Brings marked.receiver (idles_from place count) []) →
    IfSome result (λ place. (count : ℕ) → Advances marked marked (idles_from place count) ×
    Brings marked (idles_from place count) [])
both marked None due stays = tt
both marked (Some place) due stays = λ count. (
  λ longest first octets stands. (
    (stays count).0 longest first octets stands.0,
    synced-stays marked.mark octets (idles_from place count) (is_sync-IsAt _ _ false first octets stands.0
        ∙ due-synced marked.receiver.progress.phase marked.receiver.progress.window (take place (core_header 0)) due)
        stands.1,
  ),
  λ longest first octets stands. (stays count).1 longest first octets stands.0,
)

pub returns-clause-stays : goal.returns-clause-stays
returns-clause-stays c =
    subst (λ (marked : Marked). IfSome c.idle_place.result (λ place. (count : ℕ) →
    Advances marked marked (idles_from place count) × Brings marked (idles_from place count) [])) c.self.view_is
    (both (record { receiver = c.self.inside.delineator; mark = c.self.inside.mark }) c.idle_place.result
    c.idle_place.ensures.idle c.idle_place.ensures.stays)
