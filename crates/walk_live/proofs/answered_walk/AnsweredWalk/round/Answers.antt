-- A tick, the line of its step, and the rest of the round.
use Rattle.std.proofs.Common.{ℕ, List, ◌++◌, ◌∙◌, ap, arith, refl, rules, subst, sym}
use Rattle.std.proofs.lemmas.Result.{on_err_weaker, on_ok_weaker}
use Rattle.law_model.specs.Common.{AppendsPart, Counts, carries_from, run}
use Rattle.law_walk.specs.Common.{walk_plan}
use Rattle.law_live.specs.Common.{live_round}
use Rattle.text_got.specs.TextSoFar.{Holds}
use Rattle.walk_engine.specs.walk_core.LiveWalking.{walking_counts}
use Rattle.law_walk.specs.DeliveredFrames.{delivered_since}
use Rattle.walk_live.specs.PassingRounds.{HasStates}
use Rattle.walk_live.specs.TimedWriting.{timed_texts}
use Rattle.walk_live.proofs.PassRoundsLaws.{round-told}
use Rattle.law_live.proofs.LiveRoundAndLandingLaws.{goes-tick}
use Rattle.walk_live.proofs.PassRoundsLaws.{round-parts}
use Rattle.walk_live.proofs.TimedLineWritingLaws.{holds-more, on-ok, part-longer, part-more}
use Rattle.walk_live.proofs.answered_walk.AnsweredWalk.round.Goals as goal

pub tell_step-requires : goal.tell_step-requires
tell_step-requires g c =
    let (leg, can) = c.requires.ready in
    let made = ap (λ (s : Counts). s.ticks) (c.tick.ensures.makes leg can.stands can.free can.agrees).counts in
    let goes = goes-tick (walk_plan leg) (walking_counts c.args.self.now.walk) in
    let least = goes.ticks in
    let most = goes.most in
    let before = c.ticks-before.ensures in
    record {
      few = c.requires.few;
      size = search rules;
      least = omega (arith, made, least, before);
      most = omega (arith, made, most, before);
    }

pub finish_round-requires : goal.finish_round-requires
finish_round-requires g c =
    let (leg, can) = c.requires.ready in (leg, (c.tick.ensures.makes leg can.stands can.free can.agrees).stands)

pub returns-in-Ok-clause-rounds : goal.returns-in-Ok-clause-rounds
returns-in-Ok-clause-rounds g c leg can =
    let plan = walk_plan leg in
    let makes = c.tick.ensures.makes leg can.stands can.free can.agrees in
    let finishes = c.finish_round.ensures.finishes leg makes.stands in
    on-ok c.finish_round.result (record {
      stands = finishes.stands;
      counts = finishes.counts ∙ ap (λ s. run plan s (carries_from 0 plan.paths)) makes.counts
          ∙ sym (round-parts plan (walking_counts c.args.self.now.walk));
    })

pub returns-in-Ok-clause-told : goal.returns-in-Ok-clause-told
returns-in-Ok-clause-told g c leg can lines =
    let plan = walk_plan leg in
    let self = c.args.self.now in
    let states = subst (λ n. HasStates self.tells leg self.lines n c.states-states.result) (sym c.ticks-before.ensures)
    (c.states-states.ensures leg can.stands) in
    let makes = c.tick.ensures.makes leg can.stands can.free can.agrees in
    let finishes = c.finish_round.ensures.finishes leg makes.stands in
    let counts = finishes.counts ∙ ap (λ s. run plan s (carries_from 0 plan.paths)) makes.counts
    ∙ sym (round-parts plan (walking_counts self.walk)) in
    let P : List ℕ → Type 0 = λ text. Holds g.K.ByteSink.written g.K.ByteSink.faults c.args.out.now
    c.finish_round.new.out c.finish_round.new.block (c.args.block.now ++ text) in
    on_ok_weaker c.finish_round.result
    (λ more. subst P (round-told self.tells leg (walking_counts self.walk) (walking_counts c.tick.new.self)
    (walking_counts c.finish_round.new.self.walk) c.ticks-before.result c.ticks-before.ensures makes.counts counts)
    (holds-more g.K.ByteSink.written g.K.ByteSink.faults c.args.out.now c.tell_step.new.out c.finish_round.new.out
    c.args.block.now c.tell_step.new.block c.finish_round.new.block _ _
    (c.in-Ok.ensures.told leg makes.stands lines states) more))
    (c.finish_round.ensures.told leg makes.stands)

pub returns-in-Ok-clause-part : goal.returns-in-Ok-clause-part
returns-in-Ok-clause-part g c leg can lines =
    let plan = walk_plan leg in
    let self = c.args.self.now in
    let states = subst (λ n. HasStates self.tells leg self.lines n c.states-states.result) (sym c.ticks-before.ensures)
    (c.states-states.ensures leg can.stands) in
    let makes = c.tick.ensures.makes leg can.stands can.free can.agrees in
    let finishes = c.finish_round.ensures.finishes leg makes.stands in
    let counts = finishes.counts ∙ ap (λ s. run plan s (carries_from 0 plan.paths)) makes.counts
    ∙ sym (round-parts plan (walking_counts self.walk)) in
    let P : List ℕ → Type 0 = λ text. AppendsPart g.K.ByteSink.written g.K.ByteSink.faults c.args.out.now
    c.finish_round.new.out (c.args.block.now ++ text) in
    on_err_weaker c.finish_round.result
    (λ stops. subst P (round-told self.tells leg (walking_counts self.walk) (walking_counts c.tick.new.self)
    (walking_counts c.finish_round.new.self.walk) c.ticks-before.result c.ticks-before.ensures makes.counts counts)
    (part-more g.K.ByteSink.written g.K.ByteSink.faults c.args.out.now c.tell_step.new.out c.finish_round.new.out
    c.args.block.now c.tell_step.new.block _ _ (c.in-Ok.ensures.told leg makes.stands lines states) stops))
    (c.finish_round.ensures.part leg makes.stands)

pub returns-in-Err-clause-part : goal.returns-in-Err-clause-part
returns-in-Err-clause-part g c leg can lines =
    let self = c.args.self.now in
    let states = subst (λ n. HasStates self.tells leg self.lines n c.states-states.result) (sym c.ticks-before.ensures)
    (c.states-states.ensures leg can.stands) in
    let makes = c.tick.ensures.makes leg can.stands can.free can.agrees in
    let mid : Counts = walking_counts c.tick.new.self in
    let next : Counts = live_round (walk_plan leg) (walking_counts self.walk) in
    let P : List ℕ → Type 0 = λ text. AppendsPart g.K.ByteSink.written g.K.ByteSink.faults c.args.out.now
    c.tell_step.new.out (c.args.block.now ++ text) in
    subst P (round-told self.tells leg (walking_counts self.walk) mid next c.ticks-before.result c.ticks-before.ensures
    makes.counts refl)
    (part-longer g.K.ByteSink.written g.K.ByteSink.faults c.args.out.now c.tell_step.new.out c.args.block.now _
    (timed_texts mid.ticks (delivered_since leg mid.rows next.rows)) (c.in-Err.ensures.part leg makes.stands lines states))
