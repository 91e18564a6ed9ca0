-- What is done for one line after the other.
use Rattle.std.specs.Prelude.{◌≡◌, ℕ, ◌+◌, ◌%◌, ◌<◌, ◌≤◌, List, [], length, slice_get, Option, Some}
use Rattle.law_model.specs.Common.{Container, Cell}
use Rattle.law_model.specs.declared.control_packet.Packet.{Packet}
use Rattle.member_path.specs.cell_numbers.Numbers.{IsOpen}
use Rattle.member_rows.specs.realign_rows.BegunNibbles.{packet_at}
use Rattle.member_rows.specs.realign_rows.Line.{Line, LineStands}

-- the first lines have passed a number, which is number j of a packet, and the others are as they were
pub record ArePassed (count j : ℕ) (places : List Container) (old new : List Line) : Type 0 where
  pub size : length new ≡ length old
  pub passed : (m : ℕ) (before after : Line) (place : Container) → m < count → slice_get old m ≡ Some before →
      slice_get new m ≡ Some after →
      slice_get places m ≡ Some place → (own : List Cell) (t : ℕ) → LineStands before place own t → j ≡ (t + 8) % 16 →
      LineStands after place own (t + 1)
  pub others : (m : ℕ) → count ≤ m → slice_get new m ≡ slice_get old m

-- the packets of the first lines were read
pub record AreRead (count : ℕ) (lines : List Line) (packets : List (Option Packet)) : Type 0 where
  pub size : length packets ≡ length lines
  pub read : (m : ℕ) (line : Line) (packet : Option Packet) → m < count → slice_get lines m ≡ Some line →
      slice_get packets m ≡ Some packet →
      (place : Container) (own : List Cell) (t : ℕ) → LineStands line place own t → t % 16 ≡ 8 →
      packet ≡ packet_at own t

-- a count of lines of which no cell has come
pub record AreNew (count : ℕ) (lines : List Line) : Type 0 where
  pub size : length lines ≡ count
  pub fresh : (m : ℕ) (line : Line) (place : Container) → slice_get lines m ≡ Some line → LineStands line place [] 0
  pub open' : (m : ℕ) (line : Line) → slice_get lines m ≡ Some line → IsOpen line.numbers
