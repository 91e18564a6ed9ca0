-- What is told of the last step, where one was made.
use Rattle.std.proofs.Common.{◌≡◌, ℕ, ◌+◌, ◌++◌, OnErr, OnOk, sym, ◌∙◌, ap, subst}
use Rattle.law_model.specs.Common.{AppendsPart, steps_in}
use Rattle.text_got.specs.TextSoFar.{Holds}
use Rattle.walk_engine.specs.walk_core.LiveWalking.{walking_counts}
use Rattle.walk_live.specs.PassingRounds.{steps_text}
use Rattle.walk_live.specs.declared.asked.Asked.TheVariants.{Members, Steps}
use Rattle.walk_live.proofs.TimedLineWritingLaws.{holds-none}
use Rattle.walk_live.proofs.ToldStepLaws.{states-before, step-tick, steps-one, steps-untold}
use Rattle.walk_live.proofs.answered_walk.AnsweredWalk.tell_step.Goals as goal

pub returns-in-Nothing-clause-told : goal.returns-in-Nothing-clause-told
returns-in-Nothing-clause-told g c leg stands lines has =
    let self = c.args.self.now in
    let now : ℕ = (walking_counts self.walk).ticks in
    holds-none g.K.ByteSink.written g.K.ByteSink.faults c.args.out.now c.args.block.now
    (steps_text self.tells leg c.args.before now)
    (ap (λ asked. steps_text asked leg c.args.before now) c.in-Nothing.is ∙ steps-untold leg c.args.before now)

pub returns-in-Steps-clause-told : goal.returns-in-Steps-clause-told
returns-in-Steps-clause-told g c leg stands lines has =
    let self = c.args.self.now in
    let was : ℕ = c.args.before in
    let now : ℕ = (walking_counts self.walk).ticks in
    let step : steps_in now ≡ steps_in was + 1 =
    subst (λ n. steps_in n ≡ steps_in was + 1) c.ticks.ensures c.if-not-is_step.ensures.yes in
    subst (λ text. OnOk c.tell_packet.result (Holds g.K.ByteSink.written g.K.ByteSink.faults c.args.out.now
    c.tell_packet.new.out c.tell_packet.new.block (c.args.block.now ++ text)))
    (sym (ap (λ asked. steps_text asked leg was now) c.in-Steps.is ∙ steps-one Steps leg was now step))
    (c.tell_packet.ensures.told leg (steps_in was) stands lines step)

pub returns-in-Steps-clause-part : goal.returns-in-Steps-clause-part
returns-in-Steps-clause-part g c leg stands lines has =
    let self = c.args.self.now in
    let was : ℕ = c.args.before in
    let now : ℕ = (walking_counts self.walk).ticks in
    let step : steps_in now ≡ steps_in was + 1 =
    subst (λ n. steps_in n ≡ steps_in was + 1) c.ticks.ensures c.if-not-is_step.ensures.yes in
    subst (λ text. OnErr c.tell_packet.result (AppendsPart g.K.ByteSink.written g.K.ByteSink.faults c.args.out.now
    c.tell_packet.new.out (c.args.block.now ++ text)))
    (sym (ap (λ asked. steps_text asked leg was now) c.in-Steps.is ∙ steps-one Steps leg was now step))
    (c.tell_packet.ensures.part leg (steps_in was) stands lines step)

pub returns-in-Members-clause-told : goal.returns-in-Members-clause-told
returns-in-Members-clause-told g c leg stands lines has =
    let self = c.args.self.now in
    let was : ℕ = c.args.before in
    let now : ℕ = (walking_counts self.walk).ticks in
    let step : steps_in now ≡ steps_in was + 1 =
    subst (λ n. steps_in n ≡ steps_in was + 1) c.ticks.ensures c.if-not-is_step.ensures.yes in
    subst (λ text. OnOk c.tell_members.result (Holds g.K.ByteSink.written g.K.ByteSink.faults c.args.out.now
    c.tell_members.new.out c.tell_members.new.block (c.args.block.now ++ text)))
    (sym (ap (λ asked. steps_text asked leg was now) c.in-Members.is ∙ steps-one Members leg was now step))
    (c.tell_members.ensures.told leg (steps_in was) stands lines (step-tick was now step c.requires.most)
    (states-before self.tells leg self.lines was now c.args.states.now c.in-Members.is step c.requires.most has))

pub returns-in-Members-clause-part : goal.returns-in-Members-clause-part
returns-in-Members-clause-part g c leg stands lines has =
    let self = c.args.self.now in
    let was : ℕ = c.args.before in
    let now : ℕ = (walking_counts self.walk).ticks in
    let step : steps_in now ≡ steps_in was + 1 =
    subst (λ n. steps_in n ≡ steps_in was + 1) c.ticks.ensures c.if-not-is_step.ensures.yes in
    subst (λ text. OnErr c.tell_members.result (AppendsPart g.K.ByteSink.written g.K.ByteSink.faults c.args.out.now
    c.tell_members.new.out (c.args.block.now ++ text)))
    (sym (ap (λ asked. steps_text asked leg was now) c.in-Members.is ∙ steps-one Members leg was now step))
    (c.tell_members.ensures.part leg (steps_in was) stands lines (step-tick was now step c.requires.most)
    (states-before self.tells leg self.lines was now c.args.states.now c.in-Members.is step c.requires.most has))
