-- What an item meets that lands.
use Rattle.std.specs.Prelude.{ℕ, nat_le, nat_lt, Bool, true, false, if◌then◌else◌, Option, Some, None, option_map}
use Rattle.law_model.specs.Common.{Plan, Counts, held}
use Rattle.law_model.specs.declared.script_types.Item.{Item}
use Rattle.law_model.specs.declared.walk_events.StallCause.{StallCause}
use Rattle.law_model.specs.declared.walk_events.StallCause.TheVariants.{Done, NotDue, Held}
use Rattle.law_model.specs.declared.walk_events.Event.{Event}
use Rattle.law_model.specs.declared.walk_events.Event.TheVariants.{Accept, Command}

-- why the next item of a kind, where there is one, doesn't land
abbrev pub stall_by : ℕ → Option Item → Option StallCause
stall_by ticks None = Some Done
stall_by ticks (Some item) = if nat_lt ticks item.due then Some (NotDue item.due) else None

-- the event that lands a frame, or a command
abbrev pub landing_of : Bool → Event
landing_of true = Accept
landing_of false = Command

-- why no frame is made, before the send rings are looked at
abbrev pub early_cause : Plan → Counts → Option StallCause
early_cause plan s =
    if nat_le plan.ticks s.ticks then Some Done else option_map Held (held s.ticks s.frames s.commands 0 plan.items)
