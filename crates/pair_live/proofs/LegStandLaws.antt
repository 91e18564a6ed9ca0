-- What has landed of a leg, by how what was said of it stands: the next item, and how many frames wait behind a pass.
use Rattle.std.proofs.Common.{◌≡◌, ℕ, ◌+◌, ◌≤◌, All, List, length, take, fold, map, slice_get, Some, sym, ◌∙◌, ap}
use Rattle.std.proofs.Common.{ap₂, arith}
use Rattle.std.proofs.Math.Seq.{take-append_seam}
use Rattle.std.proofs.lemmas.Grind.{flat_map-append}
use Rattle.std.proofs.lemmas.List.{length-map}
use Rattle.law_model.specs.Common.{Counts, DueCommand, DueFrame, Leg, due_of, dues_of, offer_of, offered, offers_of}
use Rattle.law_model.specs.Common.{orders_of, scenario_by, stream_before}
use Rattle.law_model.specs.declared.script_types.Item.{Item}
use Rattle.law_model.specs.declared.script_types.ItemKind.{ItemKind}
use Rattle.law_walk.specs.Common.{session_of, stream_met}
use Rattle.law_walk.proofs.LandedItemRefusalAndTotalLaws.{command-dues, frame-dues}
use Rattle.law_live.specs.Common.{HasLater, Live, item_at, live_after, passes, waiting_at}
use Rattle.law_live.proofs.AnsweredFrameAndRefusalLaws.{dues-size}
use Rattle.law_live.proofs.ConversationCountAndScriptLaws.{Stands}
use Rattle.law_live.proofs.QueueAndRoomLaws.{past-offers}
use Rattle.walk_engine.specs.walk_core.WayParts.{waiting_in}
use Rattle.walk_live.proofs.SaidItemAndFailureLaws.{IsNext}

module _ (leg : Leg) (live : Live) (s : Counts) (stands : Stands live s) where
  pub stands-number : s.frames + s.commands ≡ length live.items
  stands-number =
      let sizes = dues-size (dues_of live.items) in
      let size = length-map live.items (λ (item : Item). due_of item.due item.kind) in
      let frames = stands.frames in
      let orders = stands.commands in
      omega (arith, sizes, size, frames, orders)

  module _ (more : HasLater live leg.items) where
    stands-taken : take (s.frames + s.commands) leg.items ≡ live.items
    stands-taken =
        ap (λ n. take n leg.items) stands-number
        ∙ ap (take (length live.items)) more.are
        ∙ take-append_seam live.items more.later

    stands-offers : length (offers_of (take (s.frames + s.commands) leg.items)) ≡ s.frames
    stands-offers =
        ap (λ items. length (offers_of items)) stands-taken
        ∙ sym (ap length (frame-dues live.items) ∙ length-map (offers_of live.items) (λ (offer : DueFrame). offer.due))
        ∙ sym stands.frames

    stands-orders : length (orders_of (take (s.frames + s.commands) leg.items)) ≡ s.commands
    stands-orders =
        ap (λ items. length (orders_of items)) stands-taken
        ∙ sym (ap length (command-dues live.items) ∙ length-map (orders_of live.items) (λ (order : DueCommand).
        order.due))
        ∙ sym stands.commands

    pub stands-next : (kind : ItemKind) → slice_get leg.items (s.frames + s.commands) ≡ Some (item_at s.ticks kind) →
        IsNext leg s kind
    stands-next kind next = record { there = next; offers = stands-offers; orders = stands-orders }

-- ---- behind a pass of some ticks
pub stands-wait : (leg : Leg) (live : Live) (k : ℕ) (s : Counts) → 1 ≤ k →
    All (λ (item : Item). item.due ≤ live.passed) live.items → Stands (live_after live (passes k)) s →
    HasLater (live_after live (passes k)) leg.items →
    waiting_in leg s ≡ waiting_at leg s.ticks
stands-wait leg live k s some due stands more =
    let offer : Item → List DueFrame = λ (item : Item). offer_of item.due item.kind in
    let t : ℕ = live.passed + k in
    let size : s.frames ≡ length (offers_of live.items) =
    stands.frames ∙ ap length (frame-dues live.items)
    ∙ length-map (offers_of live.items) (λ (offer : DueFrame). offer.due) in
    let landed : take s.frames (offers_of leg.items) ≡ offers_of live.items =
    ap₂ (λ n items. take n (offers_of items)) size more.are
    ∙ ap (take (length (offers_of live.items))) (flat_map-append offer live.items more.later)
    ∙ take-append_seam (offers_of live.items) (offers_of more.later) in
    ap₂ (λ n offers. length (stream_met (scenario_by leg) (session_of leg) n offers).waiting) stands.ticks landed
    ∙ ap (λ offers. length (fold offered (stream_before (scenario_by leg) (session_of leg) t)
    (map (λ (offer : DueFrame). offer.frame) offers)).waiting)
    (past-offers live.passed t live.items (omega (arith, some)) due)
    ∙ ap (waiting_at leg) (sym stands.ticks)
