-- The journal of what a group has accepted, and the session of that alone.
use Rattle.std.specs.Prelude.{◌≡◌, ℕ, ◌+◌, ◌≤◌, length, ◌&&◌, nat_lt, nat_le, Bool, List, [], map, take, replicate, slice_get, Option}
use Rattle.std.specs.Prelude.{Some, None}
use Rattle.law_model.specs.Common.{Scenario, offers_of, orders_of, Told, default_options}
use Rattle.law_model.specs.declared.script_types.Item.{Item}
use Rattle.law_model.specs.declared.script_types.ItemKind.{ItemKind}
use Rattle.law_walk.specs.Common.{Numbered, kind_refusal}
use Rattle.std.specs.Prelude.{not, filter}
use Rattle.law_walk.specs.LandedOfLeg.{is_client}
use Rattle.terminal_group.specs.Item.{size_of}

-- an accepted item, with the number of ticks made when it landed
abbrev pub entry_of : ℕ → ℕ → ItemKind → Numbered
entry_of number ticks kind = record { number = number; item = record { due = ticks; kind = kind } }

-- the accepted items in the order in which they landed; how many more entries there is room for, and how many octets of
-- frames
pub record Journal : Type 0 where
  pub entries : List Numbered
  pub slots : ℕ
  pub bytes : ℕ

abbrev pub items_in : List Numbered → List Item
items_in entries = map (λ (entry : Numbered). entry.item) entries

-- those of the client, and those of the operator
abbrev pub of_client : List Numbered → List Numbered
of_client entries = filter (λ (entry : Numbered). is_client entry.item.kind) entries

abbrev pub of_operator : List Numbered → List Numbered
of_operator entries = filter (λ (entry : Numbered). not (is_client entry.item.kind)) entries

-- how many of them are frames and how many commands, with so many slots left
pub record AreCounted (entries : List Numbered) (slots frame_count command_count : ℕ) : Type 0 where
  pub frames : frame_count ≡ length (offers_of (items_in entries))
  pub commands : command_count ≡ length (orders_of (items_in entries))
  pub few : frame_count + command_count + slots ≤ 4294967295

-- an item has room
abbrev pub fits : Journal → ItemKind → Bool
fits journal kind = nat_lt 0 journal.slots && nat_le (size_of kind) journal.bytes

-- ---- the session of a journal
-- how many lines there are; the lag in packets; how many ticks there are; the payload octets of a container; how many
-- return packets tell all statuses; the return windows
pub record Setting : Type 0 where
  pub lines : ℕ
  pub lag : ℕ
  pub ticks : ℕ
  pub size : ℕ
  pub statuses : ℕ
  pub lost : List (ℕ × ℕ)

-- what was accepted is all that lands, each after the ticks of its entry, and there is nothing to tell. No line fails,
-- and no timer runs: what a source makes doesn't depend on failures, nor on the timers of its members
abbrev pub journal_scenario : Setting → List Numbered → Scenario
journal_scenario setting entries = record {
  lag = setting.lag;
  ticks = setting.ticks;
  size = setting.size;
  windows = replicate setting.lines [];
  lost = setting.lost;
  orders = orders_of (items_in entries);
  offers = offers_of (items_in entries);
  tells = [];
  options = record default_options { statuses = setting.statuses };
}

-- a journal is legal: each entry is accepted at its place
abbrev pub IsLegal : Scenario → List (Option Told) → List Numbered → Type 0
IsLegal scenario cells entries =
    (i : ℕ) (entry : Numbered) → slice_get entries i ≡ Some entry →
    kind_refusal scenario cells entry.item.due (items_in (take i entries)) entry.item.kind ≡ None
