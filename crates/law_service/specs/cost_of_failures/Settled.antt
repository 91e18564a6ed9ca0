-- When no change is made.
use Rattle.std.specs.Prelude.{◌≡◌, ◌⊎◌, ℕ, ◌+◌, ◌*◌, ◌≤◌, [], All, None}
use Rattle.law_model.specs.Common.{Leg, DueCommand, scenario_by, orders_of, kept_of, exchange, after, told_at}
use Rattle.law_model.specs.source.Source.{carried}
use Rattle.law_session.specs.LineInUse.{IsAdded}
use Rattle.law_walk.specs.Common.{session_of}
use Rattle.law_service.specs.cost_of_failures.Cost.{first_hit, table_at}

-- before the step that makes the first packet that can be hit no command waits and no line is in ADD; and no command
-- lands from then on up to a horizon
pub record IsSettled (leg : Leg) (from horizon : ℕ) : Type 0 where
  pub waits : (after (scenario_by leg) (session_of leg) (first_hit from)).waiting ≡ []
  pub adds : (line : ℕ) → IsAdded (table_at leg from) line → ⊥
  pub lands : All (λ (order : DueCommand). (order.due + 8 ≤ 16 * first_hit from) ⊎ (horizon ≤ order.due))
      (orders_of leg.items)

-- step j carries out no command, and exchanges no ADD lines
abbrev pub MakesNoChange : Leg → ℕ → Type 0
MakesNoChange leg j =
    let table = told_at (scenario_by leg) (session_of leg) j in
    (carried (scenario_by leg) (session_of leg) j ≡ None) × (exchange (kept_of table) 0 table.order ≡ None)
