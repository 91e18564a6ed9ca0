-- What comes of the area is what its extension header says.
use Rattle.std.proofs.Common.{[], ◌∷◌, drop, sym, ◌∙◌, ap}
use Rattle.gfp_model.specs.linear_model.ChannelArea.{cid_fault}
use Rattle.gfp_channels.proofs.LinearExtensionLaws.{sized, cid_right, cid_wrong}
use Rattle.gfp_channels.proofs.gfp_linear.linear_delineator.sized_step.Goals as goal

pub returns-in-Ok-clause-outcome : goal.returns-in-Ok-clause-outcome
returns-in-Ok-clause-outcome c =
    ap (λ outcome. outcome ∷ [])
    (sym (sized c.args.area.now c.if-area-lt8.false c.first_four.result c.first_four.ensures
    ∙ cid_right (cid_fault c.first_four.result) c.first_four.result c.read_cid.result c.in-Ok.cid c.in-Ok.is
    c.read_cid.ensures.value (drop 8 c.args.area.now)))

pub returns-in-Err-clause-outcome : goal.returns-in-Err-clause-outcome
returns-in-Err-clause-outcome c =
    ap (λ outcome. outcome ∷ [])
    (sym (sized c.args.area.now c.if-area-lt8.false c.first_four.result c.first_four.ensures
    ∙ cid_wrong (cid_fault c.first_four.result) c.first_four.result c.read_cid.result c.in-Err.fault c.in-Err.is
    c.read_cid.ensures.value (drop 8 c.args.area.now)))
