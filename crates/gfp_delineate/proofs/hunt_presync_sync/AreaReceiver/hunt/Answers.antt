-- Fewer than four octets; at the fourth, no header, that of an idle, or one with an area.
use Rattle.std.proofs.Common.{◌+◌, ◌<◌, Some, ◌∙◌, ap, arith}
use Rattle.law_model.specs.Common.{head}
use Rattle.gfp_delineate.specs.declared.hunt_presync_sync.Phase.TheVariants.{Hunt, PresyncArea, PresyncHeader}
use Rattle.gfp_delineate.proofs.ReceiverProgressLaws.{seen, read-window}
use Rattle.gfp_delineate.proofs.HuntPresyncSteps.{shifted, Takes-hunt-part, Takes-hunt-none, Takes-hunt-idle}
use Rattle.gfp_delineate.proofs.HuntPresyncSteps.{Takes-hunt-client}
use Rattle.gfp_delineate.proofs.hunt_presync_sync.AreaReceiver.hunt.Goals as goal

pub returns-then-have-lt3 : goal.returns-then-have-lt3
returns-then-have-lt3 c =
    rw c.shifted-self-inside.ensures (seen _ _ (λ old. shifted old c.args.octet (Hunt (c.args.have + 1))) _ _
    c.self.view_is (Takes-hunt-part c.args.self.now c.args.octet c.args.have c.if-have-lt3.true c.requires))

pub returns-in-None : goal.returns-in-None
returns-in-None c =
    let found = read-window head _ _ _ _ _ _ c.self.view_is c.shifted-self-inside.ensures c.read_core.ensures.value
    c.in-None.is in
    rw c.shifted-self-inside.ensures (seen _ _ (λ old. shifted old c.args.octet (Hunt 3)) _ _ c.self.view_is
    (Takes-hunt-none c.args.self.now c.args.octet c.args.have c.if-have-lt3.false c.requires found))

pub returns-in-Some-eq0 : goal.returns-in-Some-eq0
returns-in-Some-eq0 c =
    let found = read-window head _ _ _ _ _ _ c.self.view_is c.shifted-self-inside.ensures c.read_core.ensures.value
    c.in-Some-eq0.is
    ∙ ap (λ n. Some n) c.in-Some-eq0.field-0-test in
    rw c.shifted-self-inside.ensures
    (seen c.args.self.now _ (λ old. shifted old c.args.octet (PresyncHeader 0)) _ _ c.self.view_is
    (Takes-hunt-idle c.args.self.now c.args.octet c.args.have c.if-have-lt3.false c.requires found))

pub returns-in-Some : goal.returns-in-Some
returns-in-Some c =
    let found = read-window head _ _ _ _ _ _ c.self.view_is c.shifted-self-inside.ensures c.read_core.ensures.value
    c.in-Some.is in
    let some : 0 < c.in-Some.pli = omega arith in
    rw c.shifted-self-inside.ensures (seen _ _ (λ old. shifted old c.args.octet (PresyncArea c.in-Some.pli)) _
    _ c.self.view_is (Takes-hunt-client c.args.self.now c.args.octet c.args.have c.in-Some.pli some
    c.if-have-lt3.false c.requires found))
