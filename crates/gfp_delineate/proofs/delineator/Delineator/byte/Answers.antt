-- How an area ended tells what the octet brings, and that a frame that is held is short enough.
use Rattle.std.proofs.Common.{◌∷◌, [], false, sym, subst}
use Rattle.gfp_delineate.specs.ReceivedAreas.{ends_told}
use Rattle.gfp_delineate.specs.Receiver.{Receiver, area_limit, StandsIn, told_outcomes, Brings}
use Rattle.gfp_delineate.proofs.AreaOutcomeLaws.{Brings-ends, told-ends, short-ends}
use Rattle.gfp_delineate.proofs.delineator.Delineator.byte.Goals as goal

pub returns-clause-stands_in : goal.returns-clause-stands_in
returns-clause-stands_in c = λ longest first octets stands.
    c.byte-end.ensures.stands (area_limit longest) false first octets
    (subst (λ (was : Receiver). StandsIn was longest first octets) (sym c.self.view_is) stands)

pub returns-clause-outcome : goal.returns-clause-outcome
returns-clause-outcome c =
    let now : Receiver = record { progress = c.byte-end.new.self; holds = c.is_frame-self-inside.result } in
    subst (λ (was : Receiver). Brings was (c.args.octet ∷ []) (told_outcomes now c.step_of-step.result)) c.self.view_is
    (Brings-ends (record { progress = c.self.inside.receiver; holds = c.self.inside.holds }) (c.args.octet ∷ [])
    (ends_told c.byte-end.new.self.area c.byte-end.result) (told_outcomes now c.step_of-step.result)
    (told-ends c.byte-end.new.self c.is_frame-self-inside.result c.byte-end.result c.step_of-step.result
    c.area.result.now c.is_frame-self-inside.ensures c.area.ensures c.step_of-step.ensures.outcome
    c.step_of-step.ensures.frame c.byte-end.ensures.least) c.byte-end.ensures.outcome)

pub returns-clause-short : goal.returns-clause-short
returns-clause-short c = λ longest first octets stands.
    short-ends c.byte-end.new.self c.is_frame-self-inside.result c.byte-end.result c.step_of-step.result longest
    c.is_frame-self-inside.ensures (returns-clause-stands_in c longest first octets stands).limit
    c.step_of-step.ensures.frame c.byte-end.ensures.greatest
