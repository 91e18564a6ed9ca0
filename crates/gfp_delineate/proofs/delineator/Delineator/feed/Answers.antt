-- How an area ended tells what the octets bring; those before the last one bring nothing.
use Rattle.std.proofs.Common.{◌-◌, [], take, false, refl, sym, subst}
use Rattle.gfp_delineate.specs.ReceivedAreas.{ends_told}
use Rattle.gfp_delineate.specs.Receiver.{Receiver, area_limit, StandsIn, told_outcomes, Brings}
use Rattle.gfp_delineate.proofs.AreaOutcomeLaws.{Brings-ends, told-ends, short-ends}
use Rattle.gfp_delineate.proofs.delineator.Delineator.feed.Goals as goal

pub returns-clause-stands_in : goal.returns-clause-stands_in
returns-clause-stands_in c = λ longest first octets stands.
    c.feed-taken.ensures.stands (area_limit longest) false first octets
    (subst (λ (was : Receiver). StandsIn was longest first octets) (sym c.self.view_is) stands)

pub returns-clause-outcome : goal.returns-clause-outcome
returns-clause-outcome c =
    let now : Receiver = record { progress = c.feed-taken.new.self; holds = c.is_frame-self-inside.result } in
    subst (λ (was : Receiver). Brings was (take c.feed-taken.result.0 c.args.piece.now)
    (told_outcomes now c.step_of-step.result)) c.self.view_is
    (Brings-ends (record { progress = c.self.inside.receiver; holds = c.self.inside.holds })
    (take c.feed-taken.result.0 c.args.piece.now) (ends_told c.feed-taken.new.self.area c.feed-taken.result.1)
    _ (told-ends c.feed-taken.new.self c.is_frame-self-inside.result c.feed-taken.result.1
    c.step_of-step.result _ c.is_frame-self-inside.ensures c.area.ensures c.step_of-step.ensures.outcome
    c.step_of-step.ensures.frame c.feed-taken.ensures.least) c.feed-taken.ensures.outcome)

pub returns-clause-short : goal.returns-clause-short
returns-clause-short c = λ longest first octets stands.
    short-ends c.feed-taken.new.self c.is_frame-self-inside.result c.feed-taken.result.1 c.step_of-step.result longest
    c.is_frame-self-inside.ensures (returns-clause-stands_in c longest first octets stands).limit
    c.step_of-step.ensures.frame c.feed-taken.ensures.greatest

pub returns-clause-first_step : goal.returns-clause-first_step
returns-clause-first_step c = λ other.
    subst (λ (was : Receiver). Brings was (take (c.feed-taken.result.0 - 1) c.args.piece.now) []) c.self.view_is
    (Brings-ends (record { progress = c.self.inside.receiver; holds = c.self.inside.holds })
    (take (c.feed-taken.result.0 - 1) c.args.piece.now) [] [] refl
    (c.feed-taken.ensures.first (λ nothing. other (c.step_of-step.ensures.nothing.1 nothing))))
