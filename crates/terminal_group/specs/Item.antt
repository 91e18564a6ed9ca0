-- An item that is handed in, and what is kept of an item of a script.
use Rattle.std.specs.Prelude.{ℕ, List, [], map, length, replicate}
use Rattle.law_model.specs.session.Items.{head_of, sort_of}
use Rattle.law_model.specs.declared.script_types.Item.{Item}
use Rattle.law_model.specs.declared.script_types.ItemKind.{ItemKind}
use Rattle.law_model.specs.declared.script_types.ItemKind.TheVariants.{Frame, Add, Remove}
use Rattle.law_model.specs.declared.script_items.item_list.ItemHead.{ItemHead}
use Rattle.law_model.specs.declared.script_items.item_list.ItemSort.{ItemSort}
use Rattle.law_model.specs.declared.script_items.item_list.ItemSort.TheVariants.{Frame as frame_sort, Add as add_sort, Remove as remove_sort}
use Rattle.terminal_group.specs.declared.item_ref.ItemRef.{ItemRef}
use Rattle.terminal_group.specs.declared.item_ref.ItemRef.TheVariants.{Frame as frame_ref, Add as add_ref, Remove as remove_ref}

-- what it is
abbrev pub kind_of : ItemRef → ItemKind
kind_of (frame_ref octets) = Frame octets.now
kind_of (add_ref line) = Add line
kind_of (remove_ref line) = Remove line

-- the octets of a frame; a command has none
abbrev pub octets_of : ItemKind → List ℕ
octets_of (Frame octets) = octets
octets_of (Add line) = []
octets_of (Remove line) = []

-- how many they are
abbrev pub size_of : ItemKind → ℕ
size_of (Frame octets) = length octets
size_of (Add line) = 0
size_of (Remove line) = 0

-- an item of which due ticks, sort and length are known, with zeros for the octets of a frame
abbrev pub kind_in : ItemSort → ItemKind
kind_in (frame_sort octets) = Frame (replicate octets 0)
kind_in (add_sort line) = Add line
kind_in (remove_sort line) = Remove line

abbrev pub item_in : ItemHead → Item
item_in head = record { due = head.due; kind = kind_in head.sort }

-- so much of an item
abbrev pub bare_kind : ItemKind → ItemKind
bare_kind kind = kind_in (sort_of kind)

abbrev pub bare : Item → Item
bare item = item_in (head_of item)

abbrev pub bare_items : List Item → List Item
bare_items items = map bare items
