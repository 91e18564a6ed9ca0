-- The control packets among octets as they are worded, by the cells that come while the line is locked.
use Rattle.std.specs.Prelude.{◌≡◌, ℕ, ◌+◌, ◌%◌, ◌<◌, ◌≤◌, List, [], ◌∷◌, ◌++◌, drop, slice_index}
use Rattle.law_model.specs.Common.{IsAt, read_of, good_cells, front_nibbles, Found}
use Rattle.law_model.specs.packets.Decode.{packets_in}

-- a packet stands at a place: its first octet has MFI1 8, and each of its sixteen octets comes while the line is locked
pub record HasPacketAt (octets : List ℕ) (place : ℕ) : Type 0 where
  pub first : slice_index octets place % 16 ≡ 8
  pub locked : (k : ℕ) → k < 16 → IsAt (good_cells octets) (place + k)

-- these are the packets from a place on, in their order, each with what is read of its nibbles
unfoldable pub AreFound : List ℕ → ℕ → List Found → Type 0
AreFound octets from [] = (place : ℕ) → from ≤ place → ¬ HasPacketAt octets place
AreFound octets from (one ∷ found) =
    (from ≤ one.0) × ((place : ℕ) → from ≤ place → place < one.0 → ¬ HasPacketAt octets place) ×
    HasPacketAt octets one.0
    × (one.1 ≡ read_of (front_nibbles (drop one.0 octets))) × AreFound octets (one.0 + 1) found

-- those that are computed are the packets of octets
abbrev pub AreWorded : Type 0
AreWorded = (octets : List ℕ) → AreFound octets 0 (packets_in octets)

-- no others are
abbrev pub AreOnly : Type 0
AreOnly = (octets : List ℕ) (found : List Found) → AreFound octets 0 found → found ≡ packets_in octets

-- more octets have these packets first
abbrev pub PacketsStay : Type 0
PacketsStay = (octets more : List ℕ) → (later : List Found) × (packets_in (octets ++ more) ≡ packets_in octets ++ later)
