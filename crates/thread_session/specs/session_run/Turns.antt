-- Who does what, and what has landed.
use Rattle.std.specs.Prelude.{◌≡◌, ◌⊎◌, ℕ, ◌+◌, ◌≤◌, nat_le, Bool, true, false, if◌then◌else◌, List, Option, Some, None}
use Rattle.law_model.specs.Common.{Container, BackCell, Leg}
use Rattle.law_model.specs.declared.script_types.ItemKind.{ItemKind}
use Rattle.law_model.specs.session.Items.{sort_of}
use Rattle.law_model.specs.declared.script_items.item_list.ItemSort.{ItemSort}
use Rattle.law_model.specs.declared.script_items.item_list.ItemSort.TheVariants.{Frame as frame_sort, Add as add_sort, Remove as remove_sort}
use Rattle.thread_rings.specs.declared.burst_gate.Who.{Who}
use Rattle.thread_rings.specs.declared.burst_gate.Who.TheVariants.{Client, Operator, Source, Line, Sink}
use Rattle.thread_rings.specs.EndsOfRing.{OutEnd, InEnd}
use Rattle.thread_group.specs.declared.group_state.GroupState.{GroupState}
use Rattle.terminal_group.specs.Landed.{due_at}
use Rattle.thread_group.specs.Group.{HasCounted, IsMissing, next_of, items_of, ticks_of}
use Rattle.thread_group.specs.GroupRings.{IsFirstFull}
use Rattle.thread_group.specs.GroupOfLeg.{IsBound}

-- who brings an item of this sort, and of this kind
abbrev pub brings : ItemSort → Who
brings (frame_sort size) = Client
brings (add_sort line) = Operator
brings (remove_sort line) = Operator

abbrev pub bringer : ItemKind → Who
bringer kind = brings (sort_of kind)

-- whether it is the one who brings frames
abbrev pub brings_frames : Who → Bool
brings_frames Client = true
brings_frames Operator = false
brings_frames Source = false
brings_frames (Line line) = false
brings_frames Sink = false

-- what lands next: its number, or the greatest number, where nothing does
abbrev pub next_or_greatest : Option ℕ → ℕ
next_or_greatest None = 4294967295
next_or_greatest (Some number) = number

-- of so many items, below which number it is handed in ahead from a number on: 1,024 numbers behind it, or all
abbrev pub handed_ahead : ℕ → ℕ → ℕ
handed_ahead count from = if nat_le count (from + 1025) then 4294967295 else from + 1025

-- an item may land: it is the next one of its kind, and due
pub record MayLand (group : GroupState) (number : ℕ) (kind : ItemKind) : Type 0 where
  pub next : next_of group kind ≡ Some number
  pub due : due_at (items_of group) number ≤ ticks_of group

-- the item of this number has landed: a group that is bound to the session, and for which it was the next one of its
-- kind, took it and counted it
pub record HasLanded (leg : Leg) (tx : List (OutEnd Container)) (back : List (InEnd BackCell)) (number : ℕ)
    (kind : ItemKind) : Type 0 where
  pub was : GroupState
  pub now : GroupState
  pub bound : IsBound leg tx back was
  pub next : next_of was kind ≡ Some number
  pub counted : HasCounted was now kind true

-- a tick was made, or none can be: a send ring is full, or the next tick lacks a return cell
abbrev pub HasTried : GroupState → GroupState → Type 0
HasTried a b = (ticks_of b ≡ ticks_of a + 1)
    ⊎ (((line : ℕ) × IsFirstFull a.tx.items b.tx.items line) ⊎ ((packet : ℕ) × IsMissing packet a b))
