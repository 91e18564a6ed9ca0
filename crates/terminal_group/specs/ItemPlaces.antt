-- Where the items of a kind stand in a script: frames land in their order, and commands in theirs.
use Rattle.std.specs.Prelude.{ℕ, zero, suc, ◌+◌, ◌&&◌, ◌||◌, not, nat_le, nat_lt, Bool, true, false, if◌then◌else◌}
use Rattle.std.specs.Prelude.{List, [], ◌∷◌, Option, Some, None}
use Rattle.law_model.specs.declared.script_types.Item.{Item}
use Rattle.law_model.specs.declared.script_types.ItemKind.{ItemKind}
use Rattle.law_model.specs.declared.script_types.ItemKind.TheVariants.{Frame, Add, Remove}

abbrev pub is_frame : ItemKind → Bool
is_frame (Frame octets) = true
is_frame (Add line) = false
is_frame (Remove line) = false

abbrev pub is_command : ItemKind → Bool
is_command (Frame octets) = false
is_command (Add line) = true
is_command (Remove line) = true

-- the place of the item that is number k, from 0, of those of a kind; the number of items where there is none
unfoldable pub place_of : (ItemKind → Bool) → ℕ → List Item → ℕ
place_of is k [] = 0
place_of is zero (item ∷ items) = if is item.kind then 0 else suc (place_of is zero items)
place_of is (suc k) (item ∷ items) = if is item.kind then suc (place_of is k items) else suc (place_of is (suc k) items)

-- an item is there, and is due
abbrev pub due_by : ℕ → Option Item → Bool
due_by ticks None = false
due_by ticks (Some item) = nat_le item.due ticks

-- of a frame and a command at these places, each due or not, the least place of one that is due, where places are
-- counted from i
abbrev pub least_held : ℕ → ℕ → ℕ → Bool → Bool → Option ℕ
least_held i frame command client operator =
    if client && (nat_lt frame command || not operator) then Some
    (i + frame) else (if operator then Some (i + command) else None)
