-- A walk before any event, with what a command reads of its script beside it.
use Rattle.std.specs.Prelude.{◌≡◌}
use Rattle.law_model.specs.Common.{leg_of, IsValid, begin}
use Rattle.law_model.specs.declared.script_types.Script.{Script}
use Rattle.law_walk.specs.Common.{walk_plan}
use Rattle.command_rooms.specs.declared.turns.ready_walk.ReadyWalk.{ReadyWalk}

pub record IsBegun (own : Script) (begun : ReadyWalk) : Type 0 where
  pub valid : IsValid own
  pub script : begun.walk.script ≡ own
  pub counts : begun.walk.counts ≡ begin (walk_plan (leg_of own))
  pub events : begun.lines.items ≡ own.events
  pub lines : begun.size.lines ≡ own.config.lines
  pub ticks : begun.size.ticks ≡ own.config.ticks
