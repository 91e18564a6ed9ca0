-- The states are those of the table that the walk's direction gives out.
use Rattle.std.proofs.Common.{◌∙◌, ap}
use Rattle.law_model.specs.Common.{Table, state_of}
use Rattle.walk_live.proofs.answered_walk.AnsweredWalk.states.Goals as goal

pub returns-then-ticks-eq8 : goal.returns-then-ticks-eq8
returns-then-ticks-eq8 c leg stands is at m low =
    c.states_of.ensures m low
    ∙ ap (λ (t : Table). state_of t m) (rw c.way.ensures.way at c.table.ensures.table leg _ stands.stands)
