-- What a sink has received by the rings of its lines, and the return cells that it sends.
use Rattle.std.specs.Prelude.{◌≡◌, ℕ, zero, suc, ◌+◌, List, [], ◌∷◌, ◌++◌, length, map, slice_get, Option, Some, None}
use Rattle.law_model.specs.Common.{one_more, Cell, BackCell, packet_nibbles}
use Rattle.law_model.specs.declared.control_packet.Packet.{Packet}
use Rattle.law_model.specs.declared.script_types.Options.{Options}
use Rattle.member_cells.specs.declared.containers_and_cells.BackCell.TheVariants.{Packet as PacketCell}
use Rattle.thread_rings.specs.EndsOfRing.{InEnd, in_passed, in_items, in_misses, SameIn}
use Rattle.terminal_sink.specs.sink_core.TakenAndGiven.{back_at}

-- the cells of each line that were popped
abbrev pub received : List (InEnd Cell) → List (List Cell)
received ends = map in_passed ends

-- how many they are in all
unfoldable pub popped : List (List Cell) → ℕ
popped [] = 0
popped (own ∷ cells) = length own + popped cells

-- the return cell of a return packet
abbrev pub back_cells : Option Packet → List BackCell
back_cells None = []
back_cells (Some packet) = PacketCell (packet_nibbles packet) ∷ []

-- the return cells of the first rows
unfoldable pub backs : Options → List (List Cell) → ℕ → List BackCell
backs options cells zero = []
backs options cells (suc t) = backs options cells t ++ back_cells (back_at options cells t)

-- the same ends of the same rings, at another moment
pub record AreSameIns (a b : List (InEnd Cell)) : Type 0 where
  pub count : length b ≡ length a
  pub each : (m : ℕ) (old new : InEnd Cell) → slice_get a m ≡ Some old → slice_get b m ≡ Some new → SameIn old new

-- no cell of a line was known to be there, and a look at its ring missed
pub record Missed (a b : List (InEnd Cell)) (line : ℕ) : Type 0 where
  pub before : InEnd Cell
  pub after : InEnd Cell
  pub was : slice_get a line ≡ Some before
  pub is : slice_get b line ≡ Some after
  pub none : in_items before ≡ []
  pub counted : in_misses after ≡ one_more (in_misses before)
