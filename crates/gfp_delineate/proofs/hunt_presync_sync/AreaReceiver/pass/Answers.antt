-- The area that is dropped goes on, or ends; before its last octet no area ends.
use Rattle.std.proofs.Common.{◌-◌, ◌<◌, ℕ, List, length, take, ◌∙◌, ap, subst, arith, length-take, vec_len, take_all}
use Rattle.std.proofs.Common.{length-take-le}
use Rattle.gfp_scramble.specs.Descrambler.{Continues}
use Rattle.gfp_delineate.specs.declared.hunt_presync_sync.Phase.TheVariants.{SyncHeader, SyncPassing}
use Rattle.gfp_delineate.specs.ReceivedAreas.{Progress, IsWithin}
use Rattle.gfp_delineate.proofs.ReceiverProgressLaws.{seen}
use Rattle.gfp_delineate.proofs.SyncHeaderAreaSteps.{holding, Adds-passing, Takes-pass-part, Takes-pass-whole}
use Rattle.gfp_delineate.proofs.hunt_presync_sync.AreaReceiver.pass.Goals as goal

pub returns-then-piece-rest-clause-takes : goal.returns-then-piece-rest-clause-takes
returns-then-piece-rest-clause-takes c =
    let piece : List ℕ = c.args.piece.now in
    rw (take_all (length piece) piece (omega arith))
    (seen c.args.self.now _ (λ old. holding old (SyncPassing (c.args.left - length piece) c.args.why)
    c.pass_over.new.descrambler old.area) _ _ c.self.view_is
    (Takes-pass-part c.args.self.now piece c.args.left c.pass_over.new.descrambler c.args.why c.requires.phase
    (subst (λ (old : Progress). Continues old.descrambling c.pass_over.new.descrambler piece) c.self.view_is
    c.pass_over.ensures) (omega arith)))

pub returns-clause-takes : goal.returns-clause-takes
returns-clause-takes c =
    let part : List ℕ = take c.from-rest.result c.args.piece.now in
    seen c.args.self.now _ (λ old. holding old (SyncHeader 0) c.pass_over-2.new.descrambler old.area) part _
    c.self.view_is
    (Takes-pass-whole c.args.self.now part c.args.left c.pass_over-2.new.descrambler c.args.why
    c.requires.phase
    (subst (λ (old : Progress). Continues old.descrambling c.pass_over-2.new.descrambler part) c.self.view_is
    c.pass_over-2.ensures)
    (length-take-le c.from-rest.result c.args.piece.now c.if-piece-rest.false ∙ c.from-rest.ensures))

pub returns-clause-first : goal.returns-clause-first
returns-clause-first c = λ _.
    let part : List ℕ = take (c.from-rest.result - 1) c.args.piece.now in
    let some : 0 < c.args.left = subst (λ phase. IsWithin phase (vec_len c.self.inside.area) c.self.inside.longest)
    (ap (λ (old : Progress). old.phase) c.self.view_is ∙ c.requires.phase) c.self.invariant.bounds in
    Adds-passing c.args.self.now part c.args.left c.args.why
    (omega (arith, length-take (c.from-rest.result - 1) c.args.piece.now, c.from-rest.ensures, some))
    c.requires.phase
