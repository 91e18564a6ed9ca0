-- A tick, the lines of its steps, and the rest of the round.
use Rattle.std.proofs.Common.{ℕ, List, ◌++◌, ◌∙◌, arith, rules, subst, sym}
use Rattle.std.proofs.lemmas.Result.{on_err_weaker, on_ok_weaker}
use Rattle.law_model.specs.Common.{AppendsPart}
use Rattle.law_pair.specs.Common.{PairCounts, pair_plan}
use Rattle.law_pair.specs.declared.pair_events.Way.TheVariants.{There, Back}
use Rattle.law_live.specs.Common.{leg_on}
use Rattle.text_got.specs.TextSoFar.{Holds}
use Rattle.walk_live.specs.PassingRounds.{HasStates}
use Rattle.walk_live.proofs.TimedLineWritingLaws.{holds-more, part-longer, part-more}
use Rattle.pair_engine.specs.LivePairs.{walking_counts}
use Rattle.pair_live.specs.PairPassing.{both_frames_text, finish_both}
use Rattle.pair_live.proofs.PairLoopLaws.{lines-still, turn-made, turn-ticks, turn-told-of}
use Rattle.pair_live.proofs.answered_pair.AnsweredPair.round.Goals as goal

pub states-there-requires : goal.states-there-requires
states-there-requires g c = c.requires.few There

pub states-back-requires : goal.states-back-requires
states-back-requires g c = c.requires.few Back

pub tell_steps-requires-clause-lives : goal.tell_steps-requires-clause-lives
tell_steps-requires-clause-lives g c =
    let (one, other, can) = c.requires.ready in (one, other, (c.tick.ensures.ticks one other can).lives)

pub tell_steps-requires-clause-size : goal.tell_steps-requires-clause-size
tell_steps-requires-clause-size g c = let few = c.requires.few There in search (rules, few)

pub tell_steps-requires-clause-size_back : goal.tell_steps-requires-clause-size_back
tell_steps-requires-clause-size_back g c = let few = c.requires.few Back in search (rules, few)

pub tell_steps-requires-clause-least : goal.tell_steps-requires-clause-least
tell_steps-requires-clause-least g c =
    let (one, other, can) = c.requires.ready in
    let ticks = turn-ticks one other c.args.self.now.pair c.tick.new.self (c.tick.ensures.ticks one other can) in
    let before = c.ticks-before.ensures in
    let least = ticks.0 in
    omega (arith, before, least)

pub tell_steps-requires-clause-most : goal.tell_steps-requires-clause-most
tell_steps-requires-clause-most g c =
    let (one, other, can) = c.requires.ready in
    let ticks = turn-ticks one other c.args.self.now.pair c.tick.new.self (c.tick.ensures.ticks one other can) in
    let before = c.ticks-before.ensures in
    let most = ticks.1 in
    omega (arith, before, most)

pub finish_round-requires : goal.finish_round-requires
finish_round-requires g c =
    let (one, other, can) = c.requires.ready in (one, other, (c.tick.ensures.ticks one other can).lives)

pub returns-in-Ok-clause-windows : goal.returns-in-Ok-clause-windows
returns-in-Ok-clause-windows g c way = c.finish_round.ensures.windows way ∙ c.tick.ensures.windows way

pub returns-in-Ok-clause-turns : goal.returns-in-Ok-clause-turns
returns-in-Ok-clause-turns g c one other can =
    let ticks = c.tick.ensures.ticks one other can in
    on_ok_weaker c.finish_round.result
    (turn-made one other c.args.self.now.pair c.tick.new.self c.finish_round.new.self.pair ticks)
    (c.finish_round.ensures.finishes one other ticks.lives)

pub returns-in-Ok-clause-told : goal.returns-in-Ok-clause-told
returns-in-Ok-clause-told g c one other can lines =
    let self = c.args.self.now in
    let before : ℕ = c.ticks-before.result in
    let ticks = c.tick.ensures.ticks one other can in
    let has = subst (λ n. HasStates self.tells (leg_on one other There) self.there.lines n c.states-there.result)
    (sym c.ticks-before.ensures) (c.states-there.ensures one other can.lives) in
    let has_back = subst (λ n. HasStates self.tells (leg_on one other Back) self.back.lines n c.states-back.result)
    (sym c.ticks-before.ensures) (c.states-back.ensures one other can.lives) in
    let P : List ℕ → Type 0 = λ text. Holds g.K.ByteSink.written g.K.ByteSink.faults c.args.out.now
    c.finish_round.new.out c.finish_round.new.block (c.args.block.now ++ text) in
    on_ok_weaker c.finish_round.result
    (λ more. subst P
    (turn-told-of self.tells one other self.pair c.tick.new.self before can.lives ticks c.ticks-before.ensures)
    (holds-more g.K.ByteSink.written g.K.ByteSink.faults c.args.out.now c.tell_steps.new.out c.finish_round.new.out
    c.args.block.now c.tell_steps.new.block c.finish_round.new.block _ _
    (c.in-Ok.ensures.told one other ticks.lives (lines-still self c.tick.new.self one other lines) has has_back) more))
    (c.finish_round.ensures.told one other ticks.lives)

pub returns-in-Ok-clause-part : goal.returns-in-Ok-clause-part
returns-in-Ok-clause-part g c one other can lines =
    let self = c.args.self.now in
    let before : ℕ = c.ticks-before.result in
    let ticks = c.tick.ensures.ticks one other can in
    let has = subst (λ n. HasStates self.tells (leg_on one other There) self.there.lines n c.states-there.result)
    (sym c.ticks-before.ensures) (c.states-there.ensures one other can.lives) in
    let has_back = subst (λ n. HasStates self.tells (leg_on one other Back) self.back.lines n c.states-back.result)
    (sym c.ticks-before.ensures) (c.states-back.ensures one other can.lives) in
    let P : List ℕ → Type 0 = λ text. AppendsPart g.K.ByteSink.written g.K.ByteSink.faults c.args.out.now
    c.finish_round.new.out (c.args.block.now ++ text) in
    on_err_weaker c.finish_round.result
    (λ stops. subst P
    (turn-told-of self.tells one other self.pair c.tick.new.self before can.lives ticks c.ticks-before.ensures)
    (part-more g.K.ByteSink.written g.K.ByteSink.faults c.args.out.now c.tell_steps.new.out c.finish_round.new.out
    c.args.block.now c.tell_steps.new.block _ _
    (c.in-Ok.ensures.told one other ticks.lives (lines-still self c.tick.new.self one other lines) has has_back) stops))
    (c.finish_round.ensures.part one other ticks.lives)

pub returns-in-Err-clause-part : goal.returns-in-Err-clause-part
returns-in-Err-clause-part g c one other can lines =
    let self = c.args.self.now in
    let before : ℕ = c.ticks-before.result in
    let ticks = c.tick.ensures.ticks one other can in
    let mid : PairCounts = walking_counts c.tick.new.self in
    let has = subst (λ n. HasStates self.tells (leg_on one other There) self.there.lines n c.states-there.result)
    (sym c.ticks-before.ensures) (c.states-there.ensures one other can.lives) in
    let has_back = subst (λ n. HasStates self.tells (leg_on one other Back) self.back.lines n c.states-back.result)
    (sym c.ticks-before.ensures) (c.states-back.ensures one other can.lives) in
    let P : List ℕ → Type 0 = λ text. AppendsPart g.K.ByteSink.written g.K.ByteSink.faults c.args.out.now
    c.tell_steps.new.out (c.args.block.now ++ text) in
    subst P (turn-told-of self.tells one other self.pair c.tick.new.self before can.lives ticks c.ticks-before.ensures)
    (part-longer g.K.ByteSink.written g.K.ByteSink.faults c.args.out.now c.tell_steps.new.out c.args.block.now _
    (both_frames_text one other mid (finish_both (pair_plan one other) mid))
    (c.in-Err.ensures.part one other ticks.lives (lines-still self c.tick.new.self one other lines) has has_back))
