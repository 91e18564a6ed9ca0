-- How an area ended tells what the octet brings, and that a frame that is held is short enough.
use Rattle.std.proofs.Common.{◌∷◌, [], true, sym, subst}
use Rattle.gfp_delineate.specs.ReceivedAreas.{ends_told}
use Rattle.gfp_noise.specs.gfp_fcs.Delineator.{FcsReceiver, FcsReceiverStands, told_fcs}
use Rattle.gfp_noise.proofs.FcsOutcomeLaws.{outcomes-ends, told-ends, short-ends}
use Rattle.gfp_noise.proofs.gfp_fcs.fcs_delineator.FcsDelineator.byte.Goals as goal
use Rattle.law_model.specs.Common.{longest_extended_area}

pub returns-clause-stands : goal.returns-clause-stands
returns-clause-stands c = λ octets stands.
    c.byte-end.ensures.stands longest_extended_area true true octets
    (subst (λ (was : FcsReceiver). FcsReceiverStands was octets) (sym c.self.view_is) stands)

pub returns-clause-outcome : goal.returns-clause-outcome
returns-clause-outcome c = λ octets stands.
    let now : FcsReceiver = record { progress = c.byte-end.new.self; holds = c.is_frame-self-inside.result } in
    outcomes-ends (record { progress = c.self.inside.receiver; holds = c.self.inside.holds }) octets (c.args.o ∷ [])
    (ends_told c.byte-end.new.self.area c.byte-end.result) (told_fcs now c.step_of-step.result)
    (told-ends c.byte-end.new.self c.is_frame-self-inside.result c.byte-end.result c.step_of-step.result
    c.area.result.now c.is_frame-self-inside.ensures c.area.ensures c.step_of-step.ensures.outcome
    c.step_of-step.ensures.room)
    c.byte-end.ensures.outcome
    (subst (λ (was : FcsReceiver). FcsReceiverStands was octets) (sym c.self.view_is) stands)

pub returns-clause-short : goal.returns-clause-short
returns-clause-short c = λ octets stands.
    short-ends c.byte-end.new.self c.is_frame-self-inside.result c.byte-end.result c.step_of-step.result
    c.is_frame-self-inside.ensures (returns-clause-stands c octets stands).limit
    c.step_of-step.ensures.frame c.byte-end.ensures.greatest
