-- The nibbles of a packet of a line that has begun.
use Rattle.std.specs.Prelude.{◌≡◌, ℕ, ◌+◌, ◌-◌, ◌*◌, ◌/◌, ◌<◌, ◌≤◌, nat_lt, Bool, false, List, take, Option, Some, None}
use Rattle.std.specs.Prelude.{if◌then◌else◌}
use Rattle.law_model.specs.Common.{Cell, uppers, read_packet}
use Rattle.law_model.specs.declared.control_packet.Packet.{Packet}

-- the nibbles so far, and whether the numbers so far are all whole
pub record Begun : Type 0 where
  pub nibbles : List ℕ
  pub whole : Bool

-- t numbers of these cells were passed: the last j of them are the first j of packet k. No packet has begun before
-- number 8
pub record HasNibbles (begun : Begun) (own : List Cell) (t : ℕ) : Type 0 where
  pub early : t ≤ 8 → begun.whole ≡ false
  pub part : (k j : ℕ) → t ≡ 16 * k + 8 + j → 0 < j → j ≤ 16 →
      uppers own (16 * k + 8) j ≡ (if begun.whole then Some (take j begun.nibbles) else None)

-- the packet of a line that governs row t, where there is one
abbrev pub packet_at : List Cell → ℕ → Option Packet
packet_at own t = if nat_lt t 24 then None else read_packet own ((t - 24) / 16)
