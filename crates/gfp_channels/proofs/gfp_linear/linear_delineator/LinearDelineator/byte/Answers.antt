-- How an area ended tells what the octet brings, and that a frame that is held is short enough.
use Rattle.std.proofs.Common.{◌∷◌, [], false, sym, subst}
use Rattle.gfp_delineate.specs.ReceivedAreas.{ends_told}
use Rattle.gfp_channels.specs.gfp_linear.Delineator.{LinearReceiver, StandsIn, told_linear}
use Rattle.gfp_channels.proofs.LinearExtensionLaws.{outcomes-ends, told-ends, short-ends}
use Rattle.gfp_channels.proofs.gfp_linear.linear_delineator.LinearDelineator.byte.Goals as goal
use Rattle.law_model.specs.Common.{longest_extended_area}

pub returns-clause-stands : goal.returns-clause-stands
returns-clause-stands c = λ first octets stands.
    c.byte-end.ensures.stands longest_extended_area false first octets
    (subst (λ (was : LinearReceiver). StandsIn was first octets) (sym c.self.view_is) stands)

pub returns-clause-outcome : goal.returns-clause-outcome
returns-clause-outcome c = λ first octets stands.
    let now : LinearReceiver = record { progress = c.byte-end.new.self; holds = c.is_frame-self-inside.result } in
    outcomes-ends (record { progress = c.self.inside.receiver; holds = c.self.inside.holds }) first octets
    (c.args.o ∷ []) (ends_told c.byte-end.new.self.area c.byte-end.result) (told_linear now c.step_of-step.result)
    (told-ends c.byte-end.new.self c.is_frame-self-inside.result c.byte-end.result c.step_of-step.result
    c.area.result.now c.is_frame-self-inside.ensures c.area.ensures c.step_of-step.ensures.outcome
    c.step_of-step.ensures.room)
    c.byte-end.ensures.outcome
    (subst (λ (was : LinearReceiver). StandsIn was first octets) (sym c.self.view_is) stands)

pub returns-clause-short : goal.returns-clause-short
returns-clause-short c = λ first octets stands.
    short-ends c.byte-end.new.self c.is_frame-self-inside.result c.byte-end.result c.step_of-step.result
    c.is_frame-self-inside.ensures (returns-clause-stands c first octets stands).limit
    c.step_of-step.ensures.frame c.byte-end.ensures.greatest
