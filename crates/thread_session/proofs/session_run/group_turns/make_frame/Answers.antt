-- The item that a tick was held by is held still: what is tried then, and lands nothing, changes nothing.
use Rattle.std.proofs.Common.{◌∙◌, ap}
use Rattle.thread_group.specs.declared.group_answers.TickAnswer.TheVariants.{Held}
use Rattle.thread_group.specs.Group.{held_of}
use Rattle.thread_session.proofs.OpenedLineAndGroupLaws.{still-held}
use Rattle.thread_session.proofs.session_run.group_turns.make_frame.Goals as goal
use Rattle.thread_session.proofs.session_run.group_turns.make_frame.Goals.{then-item-len-via-then-item-len}
use Rattle.thread_session.proofs.session_run.group_turns.make_frame.Goals.{then-item-len-via-else-item-len+then-not-land}

pub returns-then-item-len-clause-held : goal.returns-then-item-len-clause-held
returns-then-item-len-clause-held g c = λ item same.
    let held = still-held _ _ (Held c.in-Held.item) item c.in-Held.ensures.ticks same in
    elim c.then-item-len.branch [
      | then-item-len-via-then-item-len w ↦ ap (λ b. held_of b.state) w.group-is ∙ held
      | then-item-len-via-else-item-len+then-not-land w ↦
          ap (λ b. held_of b.state) w.group-is ∙ ap held_of (w.land.ensures.stays w.if-not-land.true) ∙ held
    ]

pub returns-clause-held : goal.returns-clause-held
returns-clause-held g c = λ item is. still-held _ _ c.tick.result item c.tick.ensures.ticks is
