-- The headers of idles, a header as three octets and one more, or a single octet.
use Rattle.std.proofs.Common.{ℕ, List, [], ◌∷◌, get_or, ◌∙◌, ap}
use Rattle.gfp_delineate.specs.declared.hunt_presync_sync.Phase.TheVariants.{SyncHeader}
use Rattle.gfp_delineate.proofs.OctetPieceAndIdleRunLaws.{take_one, take_four}
use Rattle.gfp_delineate.proofs.ReceiverProgressLaws.{tell, told, Takes-then}
use Rattle.gfp_delineate.proofs.SyncHeaderAreaSteps.{Takes-idles}
use Rattle.gfp_delineate.proofs.hunt_presync_sync.AreaReceiver.follow.Goals as goal

pub returns-then-idles-gt0-clause-takes : goal.returns-then-idles-gt0-clause-takes
returns-then-idles-gt0-clause-takes c =
    rw c.idle_run-idles.ensures.run
    (told _ _ _ _ (Takes-idles c.args.self.now (c.requires.phase ∙ ap SyncHeader c.if-have-eq0.true)
    c.idle_run-idles.result))

pub returns-then-piece-ge4-clause-takes : goal.returns-then-piece-ge4-clause-takes
returns-then-piece-ge4-clause-takes c =
    let piece : List ℕ = c.args.piece.now in
    let three : List ℕ = get_or piece 0 0 ∷ get_or piece 1 0 ∷ get_or piece 2 0 ∷ [] in
    rw (take_four piece c.if-piece-ge4.true) (told _ _ _ _
    (Takes-then c.args.self.now c.take_three.new.self _ three (get_or piece 3 0 ∷ []) []
    (tell _ _ _ _ c.take_three.ensures.takes) (tell _ _ _ _ c.take_header-then-piece-ge4.ensures)))

pub returns-clause-takes : goal.returns-clause-takes
returns-clause-takes c =
    rw (take_one c.args.piece.now c.requires.some) c.follow_octet.ensures
