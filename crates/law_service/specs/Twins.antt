-- Legs that differ in the delays of their lines and in the room of their rings alone.
use Rattle.std.specs.Prelude.{ℕ, List}
use Rattle.law_model.specs.Common.{Counts, begin, Leg}
use Rattle.law_walk.specs.Common.{drained, walk_plan}

-- a leg with other delays, and with rings of other room
abbrev pub with_delays : Leg → List ℕ → ℕ → Leg
with_delays leg delays ring =
    record { config = record leg.config { delays = delays; ring = ring }; items = leg.items; tells = leg.tells }

-- the counts after a walk that has no event lines
abbrev pub whole_walk : Leg → Counts
whole_walk leg = drained leg (begin (walk_plan leg))
