-- What is kept of refused items: two bits an item, which tell with the item why it was refused.
use Rattle.std.specs.Prelude.{◌≡◌, ℕ, zero, suc, ◌/◌, ◌%◌, List, [], ◌∷◌, ◌++◌, length, get_or, slice_get, drop}
use Rattle.std.specs.Prelude.{Option, Some, None}
use Rattle.law_model.specs.Common.{most_waiting, most_pending}
use Rattle.law_model.specs.declared.script_types.Item.{Item}
use Rattle.law_model.specs.declared.script_types.ItemKind.{ItemKind}
use Rattle.law_model.specs.declared.script_types.ItemKind.TheVariants.{Frame, Add, Remove}
use Rattle.law_model.specs.declared.item_refusals.Refusal.{Refusal}
use Rattle.law_model.specs.declared.item_refusals.Refusal.TheVariants.{Frame as frame_refused, Command as command_refused}
use Rattle.law_model.specs.declared.item_refusals.AcceptFault.TheVariants.{Length, QueueFull}
use Rattle.law_model.specs.declared.item_refusals.CommandFault.TheVariants.{UnknownLine, AlreadyIn, NotIn, TooManyPending}
use Rattle.law_walk.specs.Common.{refused_by}

-- ---- codes
-- at a place of a word: two bits each, the least first
unfoldable pub code_in : ℕ → ℕ → ℕ
code_in word zero = word % 4
code_in word (suc place) = code_in (word / 4) place

-- of an item, in words of 32 codes each
abbrev pub code_at : List ℕ → ℕ → ℕ
code_at words number = code_in (get_or words (number / 32) 0) (number % 32)

-- ---- what a code says
-- why an item may be refused in a group of so many lines, by the codes from 1 on
abbrev pub reasons : ℕ → ItemKind → List Refusal
reasons lines (Frame octets) =
    frame_refused (Length (length octets)) ∷ frame_refused (QueueFull most_waiting) ∷ []
reasons lines (Add line) =
    command_refused (UnknownLine lines) ∷ command_refused AlreadyIn ∷ command_refused (TooManyPending most_pending) ∷ []
reasons lines (Remove line) =
    command_refused (UnknownLine lines) ∷ command_refused NotIn ∷ command_refused (TooManyPending most_pending) ∷ []

-- one of them
abbrev pub IsReason : ℕ → ItemKind → Refusal → Type 0
IsReason lines kind why = (place : ℕ) × (slice_get (reasons lines kind) place ≡ Some why)

-- an item whose code is 0 isn't refused
abbrev pub reason_by : ℕ → ItemKind → ℕ → Option Refusal
reason_by lines kind zero = None
reason_by lines kind (suc place) = slice_get (reasons lines kind) place

-- the refusals among items of these numbers on, in their order
unfoldable pub refusals_from : ℕ → (ℕ → ℕ) → ℕ → List Item → List (ℕ × Refusal)
refusals_from lines code number [] = []
refusals_from lines code number (item ∷ items) =
    refused_by number (reason_by lines item.kind (code number)) ++ refusals_from lines code (suc number) items

-- by the words of their codes: all, and those from a number on
abbrev pub refusals_in : ℕ → List ℕ → List Item → List (ℕ × Refusal)
refusals_in lines words items = refusals_from lines (code_at words) 0 items

abbrev pub refusals_left : ℕ → List ℕ → ℕ → List Item → List (ℕ × Refusal)
refusals_left lines words number items = refusals_from lines (code_at words) number (drop number items)
