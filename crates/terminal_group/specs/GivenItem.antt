-- An item that is given to a source.
use Rattle.std.specs.Prelude.{ℕ, Option, option_map}
use Rattle.law_model.specs.Common.{Scenario, refusal, refusal_while}
use Rattle.law_model.specs.declared.script_types.ItemKind.{ItemKind}
use Rattle.law_model.specs.declared.item_refusals.Refusal.{Refusal}
use Rattle.law_model.specs.declared.script_types.ItemKind.TheVariants.{Frame, Add, Remove}
use Rattle.law_model.specs.declared.lcas_states.Command.TheVariants.{Add as add, Remove as remove}
use Rattle.law_model.specs.declared.item_refusals.Refusal.TheVariants.{Frame as frame_refused, Command as command_refused}
use Rattle.terminal_source.specs.source_core.Terminal.{Terminal}
use Rattle.terminal_source.specs.source_core.GivenScenario.{with_frame, with_command}

-- why the source refuses it, where it does
abbrev pub met_by : Terminal → ItemKind → Option Refusal
met_by core (Frame octets) = option_map frame_refused (refusal_while core.queue.waiting octets)
met_by core (Add line) = option_map command_refused (refusal core.lines (add line) core.table.source)
met_by core (Remove line) = option_map command_refused (refusal core.lines (remove line) core.table.source)

-- a session in which it lands too, after a number of ticks
abbrev pub with_kind : Scenario → ℕ → ItemKind → Scenario
with_kind scenario ticks (Frame octets) = with_frame scenario ticks octets
with_kind scenario ticks (Add line) = with_command scenario ticks (add line)
with_kind scenario ticks (Remove line) = with_command scenario ticks (remove line)
