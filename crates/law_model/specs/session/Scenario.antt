-- A scenario: what the network, the operator and the client of a group do, as plain lists. It is what a leg, and so a
-- script, says of them.
use Rattle.std.specs.Prelude.{ℕ, ◌+◌, ◌*◌, ◌-◌, ◌/◌, nat_le, nat_lt, ◌&&◌, Bool, List, [], ◌∷◌, map, filter}
use Rattle.std.specs.Prelude.{slice_index_or}
use Rattle.std.specs.List.{list_any, flat_map}
use Rattle.law_model.specs.declared.window_types.Window.{Window}
use Rattle.law_model.specs.declared.window_types.Carried.{Carried}
use Rattle.law_model.specs.declared.lcas_states.Command.{Command}
use Rattle.law_model.specs.declared.lcas_states.Command.TheVariants.{Add as add, Remove as remove}
use Rattle.law_model.specs.declared.script_types.Options.{Options}
use Rattle.law_model.specs.declared.script_types.Script.{Script}
use Rattle.law_model.specs.declared.script_types.Item.{Item}
use Rattle.law_model.specs.declared.script_types.ItemKind.{ItemKind}
use Rattle.law_model.specs.declared.script_types.ItemKind.TheVariants.{Frame, Add, Remove}
use Rattle.law_model.specs.members.Damage.{carried, is_readable}
use Rattle.law_model.specs.source.Table.{Told}
use Rattle.law_model.specs.session.Leg.{Leg, leg_of}

-- a command, and how many ticks are made when it lands
pub record DueCommand : Type 0 where
  pub due : ℕ
  pub command : Command

-- a frame, and how many ticks are made when it lands
pub record DueFrame : Type 0 where
  pub due : ℕ
  pub frame : List ℕ

-- the lag in packets; how many ticks there are; the payload octets of a container; the failures of each line; the
-- return packets
-- that are lost; the commands and the frames in their order; what the control packets tell the other way of a pair,
-- packet by packet from the first one on; the timers of its members, and how its statuses are told
pub record Scenario : Type 0 where
  pub lag : ℕ
  pub ticks : ℕ
  pub size : ℕ
  pub windows : List (List Window)
  pub lost : List (ℕ × ℕ)
  pub orders : List DueCommand
  pub offers : List DueFrame
  pub tells : List Told
  pub options : Options

-- ---- the scenario of a leg
abbrev pub order_of : ℕ → ItemKind → List DueCommand
order_of due (Frame octets) = []
order_of due (Add line) = record { due = due; command = add line } ∷ []
order_of due (Remove line) = record { due = due; command = remove line } ∷ []

abbrev pub offer_of : ℕ → ItemKind → List DueFrame
offer_of due (Frame octets) = record { due = due; frame = octets } ∷ []
offer_of due (Add line) = []
offer_of due (Remove line) = []

abbrev pub orders_of : List Item → List DueCommand
orders_of items = flat_map (λ (item : Item). order_of item.due item.kind) items

abbrev pub offers_of : List Item → List DueFrame
offers_of items = flat_map (λ (item : Item). offer_of item.due item.kind) items

abbrev pub scenario_by : Leg → Scenario
scenario_by leg = record {
  lag = leg.config.lag;
  ticks = leg.config.ticks;
  size = leg.config.size;
  windows = leg.config.windows;
  lost = leg.config.lost;
  orders = orders_of leg.items;
  offers = offers_of leg.items;
  tells = leg.tells;
  options = leg.config.options;
}

-- and of a script
abbrev pub scenario_of : Script → Scenario
scenario_of script = scenario_by (leg_of script)

-- ---- what is damaged
-- what comes of container n of a line. A line that isn't configured has no window
abbrev pub carried_by : Scenario → ℕ → ℕ → Carried
carried_by scenario line n = carried (slice_index_or scenario.windows line []) n

-- control packet k of a line, sent in frames 16 k + 8 to 16 k + 23, can be read
abbrev pub is_read : Scenario → ℕ → ℕ → Bool
is_read scenario line k = is_readable (carried_by scenario line) k

-- some line has a readable packet k
abbrev pub is_heard : Scenario → ℕ → Bool
is_heard scenario k = list_any (λ windows. is_readable (carried windows) k) scenario.windows

-- return packet k is lost
abbrev pub is_lost : Scenario → ℕ → Bool
is_lost scenario k = list_any (λ window. nat_le window.0 k && nat_lt k window.1) scenario.lost

-- how many return packets are made in a number of rows: packet k is made when row 16 k + 23 is taken
abbrev pub packets_in : ℕ → ℕ
packets_in rows = (rows - 8) / 16

abbrev pub packets : Scenario → ℕ
packets scenario = packets_in scenario.ticks

-- how many decision steps are made in a number of ticks: step j is made in the tick of frame 16 j + 8
abbrev pub steps_in : ℕ → ℕ
steps_in ticks = (ticks + 7) / 16

-- ---- what lands
-- an order lands between decision steps j - 1 and j
abbrev pub lands_at : ℕ → DueCommand → Bool
lands_at j order = nat_lt (16 * j) (order.due + 8) && nat_le order.due (16 * j + 8)

-- the commands that land between decision steps j - 1 and j
abbrev pub orders_at : Scenario → ℕ → List Command
orders_at scenario j = map (λ order. order.command) (filter (lands_at j) scenario.orders)

-- an offer lands when t ticks are made, so before frame t is
abbrev pub comes_at : ℕ → DueFrame → Bool
comes_at t offer = nat_le offer.due t && nat_le t offer.due

-- the frames that land before frame t is made
abbrev pub frames_at : Scenario → ℕ → List (List ℕ)
frames_at scenario t = map (λ offer. offer.frame) (filter (comes_at t) scenario.offers)
