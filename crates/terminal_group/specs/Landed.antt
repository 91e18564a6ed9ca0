-- What has landed in a group.
use Rattle.std.specs.Prelude.{◌≡◌, ℕ, ◌+◌, ◌*◌, ◌<◌, ◌≤◌, nat_lt, ◌&&◌, not, Bool, true, false, if◌then◌else◌, List, []}
use Rattle.std.specs.Prelude.{length, slice_get, All, Option, Some, None}
use Rattle.std.specs.List.Sorted.{IsNonDecreasing}
use Rattle.law_model.specs.Common.{Due, dues_of, frame_dues, command_dues, most_items}
use Rattle.law_model.specs.declared.script_types.Item.{Item}
use Rattle.law_model.specs.declared.script_types.ItemKind.{ItemKind}
use Rattle.law_model.specs.declared.item_refusals.Refusal.{Refusal}
use Rattle.law_walk.specs.Common.{is_client}
use Rattle.terminal_group.specs.Item.{bare_kind}
use Rattle.terminal_group.specs.RefusalCodes.{IsReason, code_at}
use Rattle.terminal_group.specs.ItemPlaces.{is_frame, is_command, place_of}

-- the items, with zeros for the octets of frames; how many lines the group has; how many frames and commands have
-- landed, and how many of each were refused; the items that were refused, in their order, and why
pub record Landed : Type 0 where
  pub items : List Item
  pub lines : ℕ
  pub frames : ℕ
  pub commands : ℕ
  pub refused_frames : ℕ
  pub refused_commands : ℕ
  pub refusals : List (ℕ × Refusal)

abbrev pub none_landed : ℕ → List Item → Landed
none_landed lines items = record {
  items = items;
  lines = lines;
  frames = 0;
  commands = 0;
  refused_frames = 0;
  refused_commands = 0;
  refusals = [];
}

-- ---- what lands next
-- the place of the next frame, or of the next command; the number of items where there is none
abbrev pub next_place : Landed → Bool → ℕ
next_place landed true = place_of is_frame landed.frames landed.items
next_place landed false = place_of is_command landed.commands landed.items

abbrev pub there_at : ℕ → List Item → Option ℕ
there_at place items = if nat_lt place (length items) then Some place else None

-- the number of the next frame, or of the next command, where there is one
abbrev pub next_number : Landed → Bool → Option ℕ
next_number landed frame = there_at (next_place landed frame) landed.items

abbrev pub due_in : Option Item → ℕ
due_in None = 0
due_in (Some item) = item.due

-- after how many ticks an item lands
abbrev pub due_at : List Item → ℕ → ℕ
due_at items number = due_in (slice_get items number)

-- how many frames, or how many commands, have landed
abbrev pub landed_of : Landed → Bool → ℕ
landed_of landed true = landed.frames
landed_of landed false = landed.commands

-- one more has landed, a frame or a command, refused or not
pub record HasPassed (was now : Landed) (client refused : Bool) : Type 0 where
  pub items : now.items ≡ was.items
  pub lines : now.lines ≡ was.lines
  pub frames : now.frames ≡ was.frames + (if client then 1 else 0)
  pub commands : now.commands ≡ was.commands + (if client then 0 else 1)
  pub refused_frames : now.refused_frames ≡ was.refused_frames + (if refused && client then 1 else 0)
  pub refused_commands : now.refused_commands ≡ was.refused_commands + (if refused && not client then 1 else 0)

-- ---- of items by their due ticks so many frames and commands have landed
-- what hasn't landed isn't due before these ticks
pub record AreAhead (dues : List Due) (ticks frames commands : ℕ) : Type 0 where
  pub of_frames : (k due : ℕ) → frames ≤ k → slice_get (frame_dues dues) k ≡ Some due → ticks ≤ due
  pub of_commands : (k due : ℕ) → commands ≤ k → slice_get (command_dues dues) k ≡ Some due → ticks ≤ due

-- what has landed is due after no more ticks than these
pub record AreBehind (dues : List Due) (ticks frames commands : ℕ) : Type 0 where
  pub of_frames : (k due : ℕ) → k < frames → slice_get (frame_dues dues) k ≡ Some due → due ≤ ticks
  pub of_commands : (k due : ℕ) → k < commands → slice_get (command_dues dues) k ≡ Some due → due ≤ ticks

-- ---- refusals by item
abbrev pub AreBefore : ℕ → List (ℕ × Refusal) → Type 0
AreBefore number refusals = All (λ (refused : ℕ × Refusal). refused.0 < number) refusals

abbrev pub AreAfter : ℕ → List (ℕ × Refusal) → Type 0
AreAfter number refusals = All (λ (refused : ℕ × Refusal). number < refused.0) refusals

-- the item of a number is of a kind
abbrev pub IsKept : Landed → ℕ → ItemKind → Type 0
IsKept landed number kind =
    (item : Item) → slice_get landed.items number ≡ Some item → item.kind ≡ bare_kind kind

-- why the item of a number may be refused
abbrev pub IsReasonAt : Landed → ℕ → Refusal → Type 0
IsReasonAt landed number why =
    (item : Item) → slice_get landed.items number ≡ Some item → IsReason landed.lines item.kind why

-- no item that hasn't landed is refused
abbrev pub AreLanded : Landed → List ℕ → Type 0
AreLanded landed words = (number : ℕ) (item : Item) → slice_get landed.items number ≡ Some item →
    next_place landed (is_client item.kind) ≤ number → code_at words number ≡ 0

-- what is kept of it: the places of the next frame and the next command, and words with a code of each item
pub record IsLanded (landed : Landed) (next_frame next_command : ℕ) (words : List ℕ) : Type 0 where
  pub frame : next_frame ≡ next_place landed true
  pub command : next_command ≡ next_place landed false
  pub few : length landed.items ≤ most_items
  pub frames : IsNonDecreasing (frame_dues (dues_of landed.items))
  pub commands : IsNonDecreasing (command_dues (dues_of landed.items))
  pub most_frames : landed.frames ≤ length (frame_dues (dues_of landed.items))
  pub most_commands : landed.commands ≤ length (command_dues (dues_of landed.items))
  pub of_landed : AreLanded landed words
  pub refused : length landed.refusals ≡ landed.refused_frames + landed.refused_commands
  pub few_frames : landed.refused_frames ≤ landed.frames
  pub few_commands : landed.refused_commands ≤ landed.commands
  pub room : length landed.items ≤ 32 * length words
