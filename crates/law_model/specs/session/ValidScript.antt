-- What a script meets that can be walked, and each that was read does: ranges, lengths, order, and the tests of the
-- rings. The limits are this
-- project's own.
use Rattle.std.specs.Prelude.{◌≡◌, ◌⊎◌, ℕ, ◌<◌, ◌≤◌, List, [], ◌∷◌, length, All}
use Rattle.std.specs.List.Sorted.{IsNonDecreasing}
use Rattle.law_model.specs.declared.window_types.Window.{Window}
use Rattle.law_model.specs.declared.script_types.Config.{Config}
use Rattle.law_model.specs.declared.script_types.Item.{Item}
use Rattle.law_model.specs.declared.script_types.ItemKind.{ItemKind}
use Rattle.law_model.specs.declared.script_types.ItemKind.TheVariants.{Frame, Add, Remove}
use Rattle.law_model.specs.declared.script_types.EventLine.{EventLine}
use Rattle.law_model.specs.declared.script_types.EventLine.TheVariants.{Client, Operator, Tick, Carry, Back, Take, Round}
use Rattle.law_model.specs.declared.script_types.EventLine.TheVariants.{Drain}
use Rattle.law_model.specs.declared.script_types.Script.{Script}
use Rattle.law_model.specs.session.Options.{IsOptions}
use Rattle.law_model.specs.session.Leg.{Leg, leg_of}
use Rattle.law_model.specs.members.Damage.{AreWindows}
use Rattle.law_model.specs.session.Counts.{dues_of, frame_dues, command_dues}
use Rattle.law_model.specs.session.Plan.{FitsRing, FitsLag}
use Rattle.law_model.specs.Limits.{vc3_size, vc4_size, most_items}
use Rattle.law_model.specs.Limits.{most_count, most_lines, most_ticks}
use Rattle.law_model.specs.Limits.{largest_ring, longest_delay, longest_lag, longest_offer, longest_slip, most_packets, most_windows}

-- a number within two bounds
abbrev pub IsWithin : ℕ → ℕ → ℕ → Type 0
IsWithin least most n = (least ≤ n) × (n ≤ most)

-- ---- the network
-- the windows of a line: in order, apart, with a sign each, and none after the last tick
pub record HasFailures (ticks : ℕ) (windows : List Window) : Type 0 where
  pub few : length windows ≤ most_windows
  pub apart : AreWindows 0 windows
  pub ends : All (λ (window : Window). window.end ≤ ticks) windows
  pub slips : All (λ (window : Window). window.slip ≤ longest_slip) windows

-- the return windows stand in order, apart, and none is empty
unfoldable pub AreApart : ℕ → List (ℕ × ℕ) → Type 0
AreApart from [] = Unit {0}
AreApart from (window ∷ windows) = (from ≤ window.0) × (window.0 < window.1) × AreApart window.1 windows

pub record HasLosses (lost : List (ℕ × ℕ)) : Type 0 where
  pub apart : AreApart 0 lost
  pub ends : All (λ (window : ℕ × ℕ). window.1 ≤ most_packets) lost

-- the payload octets of a container
abbrev pub IsSize : ℕ → Type 0
IsSize size = (size ≡ vc3_size) ⊎ (size ≡ vc4_size)

pub record IsNetwork (config : Config) : Type 0 where
  pub lines : IsWithin 1 most_lines config.lines
  pub delay_each : length config.delays ≡ config.lines
  pub delays : All (λ delay. delay ≤ longest_delay) config.delays
  pub windows_each : length config.windows ≡ config.lines
  pub windows : All (HasFailures config.ticks) config.windows
  pub lost : HasLosses config.lost
  pub ring : IsWithin 1 largest_ring config.ring
  pub lag : IsWithin 1 longest_lag config.lag
  pub ticks : IsWithin 1 most_ticks config.ticks
  pub size : IsSize config.size
  pub options : IsOptions config.options
  pub fits_ring : FitsRing config
  pub fits_lag : FitsLag config

-- ---- the items and the event lines
abbrev pub IsKind : ItemKind → Type 0
IsKind (Frame octets) = IsWithin 1 longest_offer (length octets) × All (λ octet. octet < 256) octets
IsKind (Add line) = line ≤ 255
IsKind (Remove line) = line ≤ 255

abbrev pub IsItem : ℕ → Item → Type 0
IsItem ticks item = (item.due < ticks) × IsKind item.kind

-- items below a tick, where the due ticks of frames never fall, nor those of commands
pub record AreItems (ticks : ℕ) (items : List Item) : Type 0 where
  pub each : All (IsItem ticks) items
  pub frames : IsNonDecreasing (frame_dues (dues_of items))
  pub commands : IsNonDecreasing (command_dues (dues_of items))

abbrev pub IsCount : ℕ → Type 0
IsCount n = IsWithin 1 most_count n

abbrev pub IsEvent : ℕ → EventLine → Type 0
IsEvent lines (Client n) = IsCount n
IsEvent lines (Operator n) = IsCount n
IsEvent lines (Tick n) = IsCount n
IsEvent lines (Carry line n) = (line < lines) × IsCount n
IsEvent lines (Back n) = IsCount n
IsEvent lines (Take n) = IsCount n
IsEvent lines (Round n) = IsCount n
IsEvent lines Drain = Unit {0}

-- ---- the script
-- its leg, and so that of any direction
pub record IsSound (leg : Leg) : Type 0 where
  pub network : IsNetwork leg.config
  pub items : AreItems leg.config.ticks leg.items
  pub few : length leg.items ≤ most_items

pub record IsValid (script : Script) : Type 0 where
  pub sound : IsSound (leg_of script)
  pub events : All (IsEvent script.config.lines) script.events

-- how many return windows the text of a script has at most: a session may have any number of them
abbrev pub HasFewLosses : Script → Type 0
HasFewLosses script = length script.config.lost ≤ most_windows
