-- A capture that is written: its numbers have the least significant octet first, and its times are microseconds.
use Rattle.std.specs.Prelude.{ℕ, ◌-◌, ◌*◌, ◌/◌, ◌%◌, ◌<◌, ◌≤◌, List, [], ◌∷◌, ◌++◌, length, map, flat_map}
use Rattle.std.specs.Int.{w32, to_le_bytes}
use Rattle.law_model.specs.Common.{most_ticks}
use Rattle.text_captures.specs.capture_file.Reading.{DueFrame}

-- a frame, and the row whose taking gave it
pub record RowFrame : Type 0 where
  pub row : ℕ
  pub frame : List ℕ

-- the head of one of Ethernet frames that end with an FCS
abbrev pub ethernet_head : List ℕ
ethernet_head =
    0xd4 ∷ 0xc3 ∷ 0xb2 ∷ 0xa1 ∷ 0x02 ∷ 0x00 ∷ 0x04 ∷ 0x00 ∷ 0x00 ∷ 0x00 ∷ 0x00 ∷ 0x00 ∷ 0x00 ∷ 0x00 ∷ 0x00 ∷ 0x00 ∷ 0xff
    ∷ 0xff ∷ 0x00 ∷ 0x00 ∷ 0x01 ∷ 0x00 ∷ 0x00 ∷ 0x24 ∷ []

-- of a record: a row is 125 microseconds
abbrev pub record_head : ℕ → ℕ → List ℕ
record_head row octets =
    to_le_bytes w32 (125 * row / 1000000) ++ to_le_bytes w32 (125 * row % 1000000) ++ to_le_bytes w32 octets ++
    to_le_bytes w32 octets

abbrev pub record_octets : RowFrame → List ℕ
record_octets given = record_head given.row (length given.frame) ++ given.frame

-- of records one after another, and of a capture of Ethernet frames
abbrev pub records_octets : List RowFrame → List ℕ
records_octets frames = flat_map record_octets frames

abbrev pub ethernet_capture : List RowFrame → List ℕ
ethernet_capture frames = ethernet_head ++ records_octets frames

-- ---- as what such a capture is read
-- the rows don't fall, from a least one on, and none is beyond 99,999,999; no frame has more than 65,535 octets
unfoldable pub AreRising : ℕ → List RowFrame → Type 0
AreRising least [] = Unit {0}
AreRising least (own ∷ frames) = (least ≤ own.row) × (own.row < most_ticks) × (length own.frame ≤ 65535) ×
    AreRising own.row frames

-- each frame is due as many ticks after the first one as its row comes after the row of that
abbrev pub due_after : ℕ → RowFrame → DueFrame
due_after first own = record { due = own.row - first; frame = own.frame }

abbrev pub due_frames : List RowFrame → List DueFrame
due_frames [] = []
due_frames (first ∷ frames) = map (due_after first.row) (first ∷ frames)

-- worked: a capture of nanoseconds, the most significant octet first, of two frames of two octets
abbrev pub two_frames : List ℕ
two_frames =
    0xa1 ∷ 0xb2 ∷ 0x3c ∷ 0x4d ∷ 0x00 ∷ 0x02 ∷ 0x00 ∷ 0x04 ∷ 0x00 ∷ 0x00 ∷ 0x00 ∷ 0x00 ∷ 0x00 ∷ 0x00 ∷ 0x00 ∷ 0x00 ∷ 0x00
    ∷ 0x00 ∷ 0xff ∷ 0xff ∷ 0x24 ∷ 0x00 ∷ 0x00 ∷ 0x01
    ∷ 0x00 ∷ 0x00 ∷ 0x00 ∷ 0x07 ∷ 0x00 ∷ 0x00 ∷ 0x00 ∷ 0x05 ∷ 0x00 ∷ 0x00 ∷ 0x00 ∷ 0x02 ∷ 0x00 ∷ 0x00 ∷ 0x00 ∷ 0x02 ∷
    0xaa ∷ 0xbb
    ∷ 0x00 ∷ 0x00 ∷ 0x00 ∷ 0x07 ∷ 0x00 ∷ 0x03 ∷ 0xd0 ∷ 0x95 ∷ 0x00 ∷ 0x00 ∷ 0x00 ∷ 0x02 ∷ 0x00 ∷ 0x00 ∷ 0x00 ∷ 0x02 ∷
    0xcc ∷ 0xdd ∷ []
