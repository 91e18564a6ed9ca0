-- What is told of the last step of a way, where one was made.
use Rattle.std.proofs.Common.{◌≡◌, ℕ, ◌+◌, ◌++◌, OnErr, OnOk, sym, ◌∙◌, ap, subst, arith}
use Rattle.law_model.specs.Common.{AppendsPart, steps_in}
use Rattle.text_got.specs.TextSoFar.{Holds}
use Rattle.walk_live.proofs.TimedLineWritingLaws.{holds-none}
use Rattle.walk_live.proofs.ToldStepLaws.{states-before, step-tick}
use Rattle.walk_live.specs.declared.asked.Asked.TheVariants.{Members, Steps}
use Rattle.law_live.specs.Common.{leg_on}
use Rattle.pair_engine.specs.LivePairs.{walking_counts}
use Rattle.pair_live.specs.PairAnswered.{numbers_on}
use Rattle.pair_live.specs.PairPassing.{steps_text_on}
use Rattle.pair_live.proofs.PairStandLaws.{lives-together}
use Rattle.pair_live.proofs.WayLineLaws.{one-on, same-on, untold-on}
use Rattle.pair_live.proofs.answered_pair.AnsweredPair.tell_step.Goals as goal

pub tell_packet-requires-clause-made : goal.tell_packet-requires-clause-made
tell_packet-requires-clause-made g c =
    let (one, other, lives) = c.requires.lives in
    let step = c.if-not-is_step.ensures.yes in
    let ticks = c.ticks.ensures in
    let together = lives-together one other c.args.self.now.pair lives c.args.way in
    let same = ap steps_in (together ∙ sym ticks) in
    omega (arith, step, same)

pub returns-then-not-is_step-clause-told : goal.returns-then-not-is_step-clause-told
returns-then-not-is_step-clause-told g c one other lives lines has =
    let self = c.args.self.now in
    let now : ℕ = (walking_counts self.pair).there.ticks in
    holds-none g.K.ByteSink.written g.K.ByteSink.faults c.args.out.now c.args.block.now
    (steps_text_on self.tells one other c.args.way c.args.before now)
    (same-on self.tells one other c.args.way c.args.before now
    (ap steps_in (sym c.ticks.ensures) ∙ c.if-not-is_step.ensures.no))

pub returns-in-Nothing-clause-told : goal.returns-in-Nothing-clause-told
returns-in-Nothing-clause-told g c one other lives lines has =
    let self = c.args.self.now in
    let now : ℕ = (walking_counts self.pair).there.ticks in
    holds-none g.K.ByteSink.written g.K.ByteSink.faults c.args.out.now c.args.block.now
    (steps_text_on self.tells one other c.args.way c.args.before now)
    (ap (λ asked. steps_text_on asked one other c.args.way c.args.before now) c.in-Nothing.is
    ∙ untold-on one other c.args.way c.args.before now)

pub returns-in-Steps-clause-told : goal.returns-in-Steps-clause-told
returns-in-Steps-clause-told g c one other lives lines has =
    let self = c.args.self.now in
    let way = c.args.way in
    let was : ℕ = c.args.before in
    let now : ℕ = (walking_counts self.pair).there.ticks in
    let step : steps_in now ≡ steps_in was + 1 =
    subst (λ n. steps_in n ≡ steps_in was + 1) c.ticks.ensures c.if-not-is_step.ensures.yes in
    subst (λ text. OnOk c.tell_packet.result (Holds g.K.ByteSink.written g.K.ByteSink.faults c.args.out.now
    c.tell_packet.new.out c.tell_packet.new.block (c.args.block.now ++ text)))
    (sym (ap (λ asked. steps_text_on asked one other way was now) c.in-Steps.is
    ∙ one-on Steps one other way was now step))
    (c.tell_packet.ensures.told one other (steps_in was) lives lines
    (ap steps_in (lives-together one other self.pair lives way) ∙ step))

pub returns-in-Steps-clause-part : goal.returns-in-Steps-clause-part
returns-in-Steps-clause-part g c one other lives lines has =
    let self = c.args.self.now in
    let way = c.args.way in
    let was : ℕ = c.args.before in
    let now : ℕ = (walking_counts self.pair).there.ticks in
    let step : steps_in now ≡ steps_in was + 1 =
    subst (λ n. steps_in n ≡ steps_in was + 1) c.ticks.ensures c.if-not-is_step.ensures.yes in
    subst (λ text. OnErr c.tell_packet.result (AppendsPart g.K.ByteSink.written g.K.ByteSink.faults c.args.out.now
    c.tell_packet.new.out (c.args.block.now ++ text)))
    (sym (ap (λ asked. steps_text_on asked one other way was now) c.in-Steps.is
    ∙ one-on Steps one other way was now step))
    (c.tell_packet.ensures.part one other (steps_in was) lives lines
    (ap steps_in (lives-together one other self.pair lives way) ∙ step))

pub returns-in-Members-clause-told : goal.returns-in-Members-clause-told
returns-in-Members-clause-told g c one other lives lines has =
    let self = c.args.self.now in
    let way = c.args.way in
    let was : ℕ = c.args.before in
    let now : ℕ = (walking_counts self.pair).there.ticks in
    let step : steps_in now ≡ steps_in was + 1 =
    subst (λ n. steps_in n ≡ steps_in was + 1) c.ticks.ensures c.if-not-is_step.ensures.yes in
    subst (λ text. OnOk c.tell_members.result (Holds g.K.ByteSink.written g.K.ByteSink.faults c.args.out.now
    c.tell_members.new.out c.tell_members.new.block (c.args.block.now ++ text)))
    (sym (ap (λ asked. steps_text_on asked one other way was now) c.in-Members.is
    ∙ one-on Members one other way was now step))
    (c.tell_members.ensures.told one other (steps_in was) lives lines (step-tick was now step c.requires.most)
    (states-before self.tells (leg_on one other way) (numbers_on self way).lines was now c.args.states.now
    c.in-Members.is step c.requires.most has))

pub returns-in-Members-clause-part : goal.returns-in-Members-clause-part
returns-in-Members-clause-part g c one other lives lines has =
    let self = c.args.self.now in
    let way = c.args.way in
    let was : ℕ = c.args.before in
    let now : ℕ = (walking_counts self.pair).there.ticks in
    let step : steps_in now ≡ steps_in was + 1 =
    subst (λ n. steps_in n ≡ steps_in was + 1) c.ticks.ensures c.if-not-is_step.ensures.yes in
    subst (λ text. OnErr c.tell_members.result (AppendsPart g.K.ByteSink.written g.K.ByteSink.faults c.args.out.now
    c.tell_members.new.out (c.args.block.now ++ text)))
    (sym (ap (λ asked. steps_text_on asked one other way was now) c.in-Members.is
    ∙ one-on Members one other way was now step))
    (c.tell_members.ensures.part one other (steps_in was) lives lines (step-tick was now step c.requires.most)
    (states-before self.tells (leg_on one other way) (numbers_on self way).lines was now c.args.states.now
    c.in-Members.is step c.requires.most has))
