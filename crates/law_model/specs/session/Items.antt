-- The items of a script: what a line of traffic stands for, and an item as it is given out. The limits are this
-- project's own.
use Rattle.std.specs.Prelude.{ℕ, ◌+◌, ◌≤◌, List, length, map, All}
use Rattle.law_rates.specs.Rates.{RateFrame, frames}
use Rattle.law_rates.specs.declared.rate_frames.Rate.{Rate}
use Rattle.law_model.specs.Limits.{most_items, longest_offer}
use Rattle.law_model.specs.declared.script_types.Item.{Item}
use Rattle.law_model.specs.declared.script_types.ItemKind.{ItemKind}
use Rattle.law_model.specs.declared.script_types.ItemKind.TheVariants.{Frame, Add, Remove}
use Rattle.law_model.specs.declared.script_items.streams.Stream.{Stream}
use Rattle.law_model.specs.session.Streams.{AreStreams, FitStreams, streamed_in}
use Rattle.law_model.specs.declared.script_items.item_list.ItemHead.{ItemHead}
use Rattle.law_model.specs.declared.script_items.item_list.ItemSort.{ItemSort}
use Rattle.law_model.specs.declared.script_items.item_list.ItemSort.TheVariants.{Frame as frame_sort, Add as add_sort, Remove as remove_sort}
use Rattle.law_model.specs.declared.script_items.item_list.Lent.{Lent}
use Rattle.law_model.specs.declared.script_items.item_list.Lent.TheVariants.{Kept, Drawn}

-- ---- what a line of traffic stands for: each frame of its rate is an item of the client
abbrev pub stream_item : RateFrame → Item
stream_item frame = record { due = frame.due; kind = Frame frame.octets }

abbrev pub stream_items : Rate → List Item
stream_items rate = map stream_item (frames rate)

-- ---- an item without the octets of its frame
abbrev pub sort_of : ItemKind → ItemSort
sort_of (Frame octets) = frame_sort (length octets)
sort_of (Add line) = add_sort line
sort_of (Remove line) = remove_sort line

abbrev pub head_of : Item → ItemHead
head_of item = record { due = item.due; sort = sort_of item.kind }

-- how many octets it has
abbrev pub octets_in_kind : ItemKind → ℕ
octets_in_kind (Frame octets) = length octets
octets_in_kind (Add line) = 0
octets_in_kind (Remove line) = 0

-- ---- an item that is lent: it is kept, or a frame that was drawn, which are these octets
abbrev pub lent_kind : Lent → List ℕ → ItemKind
lent_kind (Kept kind) octets = kind.now
lent_kind Drawn octets = Frame octets

-- ---- an item whose length is within 16 bits
abbrev pub IsShort : Item → Type 0
IsShort item = octets_in_kind item.kind ≤ longest_offer

-- ---- the single items of a list and the streams among them
pub record AreParts (singles : List Item) (streams : List Stream) : Type 0 where
  pub apart : AreStreams 0 0 streams
  pub fit : FitStreams 0 (length singles) streams
  pub few : length singles + streamed_in streams ≤ most_items
  pub short : All IsShort singles
