-- Octets go on with the area, or complete it; before its last octet no area ends.
use Rattle.std.proofs.Common.{◌≡◌, ◌-◌, ◌<◌, ℕ, List, [], ◌∷◌, ◌++◌, length, take, drop, refl, sym, ◌∙◌, ap, subst}
use Rattle.std.proofs.Common.{arith, length-take, vec_len, take_all, take-append-drop, length-take-le}
use Rattle.gfp_delineate.specs.declared.hunt_presync_sync.Phase.TheVariants.{SyncHeader, SyncArea}
use Rattle.gfp_delineate.specs.ReceivedAreas.{keeping, Progress, IsWithin}
use Rattle.gfp_delineate.proofs.ReceiverProgressLaws.{Takes, seen}
use Rattle.gfp_delineate.proofs.SyncHeaderAreaSteps.{Descrambles, holding, Adds-area, Takes-keep-part}
use Rattle.gfp_delineate.proofs.SyncHeaderAreaSteps.{Takes-keep-whole}
use Rattle.gfp_delineate.proofs.hunt_presync_sync.AreaReceiver.keep.Goals as goal

pub returns-then-piece-rest-clause-takes : goal.returns-then-piece-rest-clause-takes
returns-then-piece-rest-clause-takes c =
    let piece : List ℕ = c.args.piece.now in
    let plain : List ℕ = drop (vec_len c.self.inside.area) c.keep.new.area.items in
    rw (
      take_all (length piece) piece (omega arith),
      sym (take-append-drop (vec_len c.self.inside.area) c.keep.new.area.items),
      c.keep.ensures.front,
    )
    (seen c.args.self.now _ (λ old. holding old (SyncArea (c.args.left - length piece)) c.keep.new.descrambler
    (old.area ++ plain)) _ _ c.self.view_is
    (Takes-keep-part c.args.self.now piece c.args.left c.keep.new.descrambler plain c.requires.phase
    (subst (λ (old : Progress). Descrambles old.descrambling c.keep.new.descrambler piece plain) c.self.view_is
    (record { stands = c.keep.ensures.stands; answer = c.keep.ensures.kept })) (omega arith)))

pub returns-clause-takes : goal.returns-clause-takes
returns-clause-takes c =
    let part : List ℕ = take c.from-rest.result c.args.piece.now in
    let items : List ℕ = c.keep-2.new.area.items in
    let plain : List ℕ = drop (vec_len c.self.inside.area) items in
    let whole : List ℕ = c.args.self.now.area ++ plain in
    let same : items ≡ whole =
    sym (take-append-drop (vec_len c.self.inside.area) items) ∙ ap (λ l. l ++ plain) c.keep-2.ensures.front
    ∙ ap (λ (old : Progress). old.area ++ plain) c.self.view_is in
    seen c.args.self.now _ (λ old. holding old (SyncHeader 0) c.keep-2.new.descrambler items) part
    (keeping items ∷ []) c.self.view_is
    (subst (λ area. Takes c.args.self.now
    (holding c.args.self.now (SyncHeader 0) c.keep-2.new.descrambler area) part (keeping area ∷ [])) (sym same)
    (Takes-keep-whole c.args.self.now part c.args.left c.keep-2.new.descrambler plain c.requires.phase
    (subst (λ (old : Progress). Descrambles old.descrambling c.keep-2.new.descrambler part plain)
    c.self.view_is (record { stands = c.keep-2.ensures.stands; answer = c.keep-2.ensures.kept }))
    (keeping whole ∷ [])
    (length-take-le c.from-rest.result c.args.piece.now c.if-piece-rest.false ∙ c.from-rest.ensures) refl))

pub returns-clause-first : goal.returns-clause-first
returns-clause-first c = λ _.
    let part : List ℕ = take (c.from-rest.result - 1) c.args.piece.now in
    let some : 0 < c.args.left =
    (subst (λ phase. IsWithin phase (vec_len c.self.inside.area) c.self.inside.longest)
    (ap (λ (old : Progress). old.phase) c.self.view_is ∙ c.requires.phase) c.self.invariant.bounds).0 in
    Adds-area c.args.self.now part c.args.left
    (omega (arith, length-take (c.from-rest.result - 1) c.args.piece.now, c.from-rest.ensures, some))
    c.requires.phase
