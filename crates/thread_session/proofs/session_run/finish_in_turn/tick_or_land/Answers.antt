-- What a tick answers says what held it, or what it lacks.
use Rattle.std.proofs.Common.{◌≡◌, None, Some, sym, ◌∙◌, refl}
use Rattle.thread_session.proofs.OpenedLineAndGroupLaws.{has-tried, lands-held}
use Rattle.thread_session.proofs.session_run.finish_in_turn.tick_or_land.Goals as goal

pub returns-in-Held-clause-goes : goal.returns-in-Held-clause-goes
returns-in-Held-clause-goes g c = λ free.
    absurd (let e : None ≡ Some c.in-Held.item =
    sym free.held ∙ ((c.in-Held.ensures.ticks.held c.in-Held.item).0 refl).1 in cc)

pub returns-in-Held-clause-lands : goal.returns-in-Held-clause-lands
returns-in-Held-clause-lands g c = λ number item no is there may.
    lands-held c.args.items.now c.args.group.now.state c.tick.new.self.state c.land_held.new.group.state c.in-Held.item
    number item c.in-Held.ensures.ticks c.land_held.ensures.landed is there may

pub returns-in-TxFull-clause-goes : goal.returns-in-TxFull-clause-goes
returns-in-TxFull-clause-goes g c = has-tried _ _ c.tick.result c.tick.ensures.ticks
