-- The octets lead to SYNC exactly where the phase is one of SYNC.
use Rattle.std.proofs.Common.{◌≡◌, true, false, inl, inr, sym, ◌∙◌, ap}
use Rattle.gfp_delineate.specs.ReceivedAreas.{Progress}
use Rattle.gfp_delineate.proofs.ReceiverProgressLaws.{in_sync, is_sync-IsAt}
use Rattle.gfp_delineate.proofs.hunt_presync_sync.AreaReceiver.synced.Goals as goal

pub returns-in-Hunt : goal.returns-in-Hunt
returns-in-Hunt c longest corrects first octets stands =
    let phase : in_sync c.self.inside.phase ≡ false =
    elim c.in-Hunt.is [
      | inl hunt ↦ ap in_sync hunt.1
      | inr presync ↦ elim presync
          [ inl area ↦ ap in_sync area.1 | inr header ↦ ap in_sync header.1 ]
    ] in
    sym phase ∙ ap (λ (receiver : Progress). in_sync receiver.phase) c.self.view_is
    ∙ sym (is_sync-IsAt c.args.self.now longest corrects first octets stands)

pub returns-in-SyncHeader : goal.returns-in-SyncHeader
returns-in-SyncHeader c longest corrects first octets stands =
    let phase : in_sync c.self.inside.phase ≡ true =
    elim c.in-SyncHeader.is [
      | inl header ↦ ap in_sync header.1
      | inr areas ↦ elim areas
          [ inl area ↦ ap in_sync area.1 | inr passing ↦ ap in_sync passing.2 ]
    ] in
    sym phase ∙ ap (λ (receiver : Progress). in_sync receiver.phase) c.self.view_is
    ∙ sym (is_sync-IsAt c.args.self.now longest corrects first octets stands)
