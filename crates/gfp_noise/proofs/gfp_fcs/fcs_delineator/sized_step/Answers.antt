-- The last four octets are the FCS of the frame, or they say another one.
use Rattle.std.proofs.Common.{[], ◌∷◌, sym, ◌∙◌, ap}
use Rattle.check_crc32.specs.Crc32.{fcs_of}
use Rattle.gfp_noise.proofs.FcsOutcomeLaws.{last-four, sized-right, sized-wrong}
use Rattle.gfp_noise.proofs.gfp_fcs.fcs_delineator.sized_step.Goals as goal

pub returns-then-said-found-clause-outcome : goal.returns-then-said-found-clause-outcome
returns-then-said-found-clause-outcome c =
    ap (λ outcome. outcome ∷ [])
    (sym (sized-right c.args.area.now c.if-area-lt12.false c.word-said.result c.fcs-found.result c.word-said.type_inv
    c.fcs-found.type_inv (c.word-said.ensures ∙ c.first_four.ensures ∙ last-four c.args.area.now c.if-area-lt12.false)
    (c.fcs-found.ensures ∙ ap fcs_of c.info.ensures) c.if-said-found.true))

pub returns-else-said-found-clause-outcome : goal.returns-else-said-found-clause-outcome
returns-else-said-found-clause-outcome c =
    ap (λ outcome. outcome ∷ [])
    (sym (sized-wrong c.args.area.now c.if-area-lt12.false c.word-said.result c.fcs-found.result c.word-said.type_inv
    c.fcs-found.type_inv (c.word-said.ensures ∙ c.first_four.ensures ∙ last-four c.args.area.now c.if-area-lt12.false)
    (c.fcs-found.ensures ∙ ap fcs_of c.info.ensures) c.if-said-found.false))
