-- No header, that of an idle, or one whose area is unsettled, too long, or kept.
use Rattle.std.proofs.Common.{true, false, [], ◌∷◌, ◌++◌, drop, Some, ◌∙◌, ap, subst, arith}
use Rattle.gfp_delineate.specs.declared.hunt_presync_sync.AreaWhy.TheVariants.{Unsettled, TooLong}
use Rattle.gfp_delineate.specs.declared.hunt_presync_sync.Phase.TheVariants.{SyncHeader, SyncArea, SyncPassing}
use Rattle.gfp_delineate.specs.ReceivedAreas.{reader, Progress}
use Rattle.gfp_delineate.proofs.ReceiverProgressLaws.{seen, read-window}
use Rattle.gfp_delineate.proofs.SyncHeaderAreaSteps.{followed, Knows, lost, Takes-lost, Takes-idle, Takes-unknown}
use Rattle.gfp_delineate.proofs.SyncHeaderAreaSteps.{Takes-long, Takes-kept}
use Rattle.gfp_delineate.proofs.hunt_presync_sync.AreaReceiver.take_header.Goals as goal

pub returns-in_default : goal.returns-in_default
returns-in_default c =
    let none = read-window
    (reader c.args.corrects) _ _ _ _ _ _ c.self.view_is c.shifted-self-inside.ensures c.read_header.ensures.value
    c.in_default.is in
    rw c.shifted-self-inside.ensures
    (seen c.args.self.now _ (λ old. lost old c.args.octet c.forget.new.self) _ _ c.self.view_is
    (Takes-lost c.args.self.now c.args.octet c.args.corrects c.requires c.forget.new.self none c.forget.ensures))

pub returns-then-pli-eq0 : goal.returns-then-pli-eq0
returns-then-pli-eq0 c =
    let found = read-window
    (reader c.args.corrects) _ _ _ _ _ _ c.self.view_is c.shifted-self-inside.ensures c.read_header.ensures.value
    c.in-Some.is
    ∙ ap (λ n. Some n) c.if-pli-eq0.true in
    rw (c.clear.ensures.items, c.shifted-self-inside.ensures)
    (seen c.args.self.now _ (λ old. followed old (drop 1 old.window ++ c.args.octet ∷ []) (SyncHeader 0)) _ _
    c.self.view_is
    (Takes-idle c.args.self.now c.args.octet c.args.corrects c.requires found))

pub returns-then-not-known : goal.returns-then-not-known
returns-then-not-known c =
    let found = read-window
    (reader c.args.corrects) _ _ _ _ _ _ c.self.view_is c.shifted-self-inside.ensures c.read_header.ensures.value
    c.in-Some.is in
    rw (c.clear.ensures.items, c.shifted-self-inside.ensures)
    (seen c.args.self.now _ (λ old. followed old (drop 1 old.window ++ c.args.octet ∷ [])
    (SyncPassing c.in-Some.pli Unsettled)) _ _ c.self.view_is
    (Takes-unknown c.args.self.now c.args.octet c.args.corrects c.requires c.in-Some.pli found
    (omega (arith, c.if-pli-eq0.false))
    (subst (λ (old : Progress). Knows false old.descrambling) c.self.view_is
    (subst (λ known. Knows known c.self.inside.descrambler) c.if-not-known.true c.known.ensures))))

pub returns-then-pli-self : goal.returns-then-pli-self
returns-then-pli-self c =
    let found = read-window
    (reader c.args.corrects) _ _ _ _ _ _ c.self.view_is c.shifted-self-inside.ensures c.read_header.ensures.value
    c.in-Some.is in
    let limit = ap (λ (old : Progress). old.longest) c.self.view_is in
    rw (c.clear.ensures.items, c.shifted-self-inside.ensures)
    (seen c.args.self.now _ (λ old. followed old (drop 1 old.window ++ c.args.octet ∷ [])
    (SyncPassing c.in-Some.pli (TooLong c.in-Some.pli))) _ _ c.self.view_is
    (Takes-long c.args.self.now c.args.octet c.args.corrects c.requires c.in-Some.pli found
    (omega (arith, limit, c.if-pli-self.true))
    (subst (λ (old : Progress). Knows true old.descrambling) c.self.view_is
    (subst (λ known. Knows known c.self.inside.descrambler) c.if-not-known.false c.known.ensures))))

pub returns-else-pli-self : goal.returns-else-pli-self
returns-else-pli-self c =
    let found = read-window
    (reader c.args.corrects) _ _ _ _ _ _ c.self.view_is c.shifted-self-inside.ensures c.read_header.ensures.value
    c.in-Some.is in
    let limit = ap (λ (old : Progress). old.longest) c.self.view_is in
    rw (c.clear.ensures.items, c.shifted-self-inside.ensures)
    (seen _ _ (λ old. followed old (drop 1 old.window ++ c.args.octet ∷ []) (SyncArea c.in-Some.pli)) _ _
    c.self.view_is (Takes-kept c.args.self.now c.args.octet c.args.corrects c.requires c.in-Some.pli found
    (omega (arith, c.if-pli-eq0.false)) (omega (arith, limit, c.if-pli-self.false))
    (subst (λ (old : Progress). Knows true old.descrambling) c.self.view_is
    (subst (λ known. Knows known c.self.inside.descrambler) c.if-not-known.false c.known.ensures))))
