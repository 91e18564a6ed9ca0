-- The form of a capture, the classic one of pcap: a head of 24 octets, which says how the numbers and times behind it
-- are to be read, and
-- then records, each a head of 16 octets and so many octets as that says.
use Rattle.std.specs.Prelude.{ℕ, zero, suc, ◌+◌, ◌*◌, ◌/◌, ◌%◌, ◌==◌, ◌&&◌, Bool, true, false, not, nat_lt, nat_le}
use Rattle.std.specs.Prelude.{List, [], ◌∷◌, length, take, drop, slice_index, Option, Some, None, Result, Ok, Err}
use Rattle.std.specs.Prelude.{if◌then◌else◌}
use Rattle.std.specs.Int.{w16, w32, from_le_bytes, from_be_bytes}
use Rattle.text_captures.specs.declared.capture_file.capture_form.ByteOrder.{ByteOrder}
use Rattle.text_captures.specs.declared.capture_file.capture_form.ByteOrder.TheVariants.{LeastFirst, MostFirst}
use Rattle.text_captures.specs.declared.capture_file.capture_form.TimeUnit.{TimeUnit}
use Rattle.text_captures.specs.declared.capture_file.capture_form.TimeUnit.TheVariants.{Microseconds, Nanoseconds}
use Rattle.text_captures.specs.declared.capture_file.capture_form.Form.{Form}
use Rattle.text_captures.specs.declared.capture_file.capture_form.RecordHead.{RecordHead}
use Rattle.text_captures.specs.declared.capture_file.capture_form.HeadFault.{HeadFault}
use Rattle.text_captures.specs.declared.capture_file.capture_form.HeadFault.TheVariants.{PcapNg, Magic, Version, Link, Fcs}
use Rattle.text_captures.specs.declared.capture_file.capture_form.HeadFault.TheVariants as wrong

-- ---- numbers
-- those of two and of four octets at a place
abbrev pub two_at : ℕ → List ℕ → List ℕ
two_at place octets = slice_index octets place ∷ slice_index octets (place + 1) ∷ []

abbrev pub four_at : ℕ → List ℕ → List ℕ
four_at place octets =
    slice_index octets place ∷ slice_index octets (place + 1) ∷ slice_index octets (place + 2) ∷ slice_index octets
    (place + 3) ∷ []

abbrev pub short_at : ByteOrder → ℕ → List ℕ → ℕ
short_at LeastFirst place octets = from_le_bytes w16 (two_at place octets)
short_at MostFirst place octets = from_be_bytes w16 (two_at place octets)

abbrev pub number_at : ByteOrder → ℕ → List ℕ → ℕ
number_at LeastFirst place octets = from_le_bytes w32 (four_at place octets)
number_at MostFirst place octets = from_be_bytes w32 (four_at place octets)

-- ---- the head: four octets for order and unit, the version, twelve octets that say nothing here, and what the frames
-- are
-- the first four octets, the most significant one first
abbrev pub magic_of : List ℕ → ℕ
magic_of octets = number_at MostFirst 0 octets

abbrev pub kind_of : ℕ → Option (ByteOrder × TimeUnit)
kind_of magic =
    if magic == 0xd4c3b2a1 then Some (LeastFirst, Microseconds)
    else if magic == 0xa1b2c3d4 then Some (MostFirst, Microseconds)
    else if magic == 0x4d3cb2a1 then Some (LeastFirst, Nanoseconds)
    else if magic == 0xa1b23c4d then Some (MostFirst, Nanoseconds)
    else None

-- version 2.4
abbrev pub is_version : ByteOrder → List ℕ → Bool
is_version order octets = short_at order 4 octets == 2 && short_at order 6 octets == 4

-- of the last number its lower 16 bits say what the frames are, 1 for Ethernet; its upper four bits the length of their
-- FCS in units of
-- 16 bits, where bit 26 says that they do
abbrev pub link_of : ℕ → ℕ
link_of field = field % 65536

abbrev pub fcs_length : ℕ → ℕ
fcs_length field = if field / 67108864 % 2 == 1 then 2 * (field / 268435456) else 0

abbrev pub form_with : ByteOrder → TimeUnit → ℕ → Result Form HeadFault
form_with order unit field =
    if not (link_of field == 1) then Err (Link (link_of field))
    else if fcs_length field == 0 then Ok (record { order = order; unit = unit; has_fcs = false })
    else if fcs_length field == 4 then Ok (record { order = order; unit = unit; has_fcs = true })
    else Err (Fcs (fcs_length field))

abbrev pub form_by : Option (ByteOrder × TimeUnit) → List ℕ → Result Form HeadFault
form_by None octets = Err Magic
form_by (Some kind) octets =
    if not (is_version kind.0 octets) then Err Version else form_with kind.0 kind.1 (number_at kind.0 20 octets)

-- what the head of a capture says, or the first that is wrong with it
abbrev pub form_of : List ℕ → Result Form HeadFault
form_of octets =
    if nat_lt (length octets) 24 then Err wrong.Cut
    else if magic_of octets == 0x0a0d0d0a then Err PcapNg
    else form_by (kind_of (magic_of octets)) octets

-- ---- records: seconds, parts of a second, the octets that stand here and those that the frame had
abbrev pub head_of : ByteOrder → List ℕ → RecordHead
head_of order octets = record {
  seconds = number_at order 0 octets;
  fraction = number_at order 4 octets;
  captured = number_at order 8 octets;
  original = number_at order 12 octets;
}

-- a record with its octets
pub record Record : Type 0 where
  pub head : RecordHead
  pub octets : List ℕ

-- the first record of octets, where one stands there whole, and what lies behind it
abbrev pub first_record : ByteOrder → List ℕ → Option (Record × List ℕ)
first_record order octets =
    if nat_le (16 + number_at order 8 octets) (length octets) then
    Some (
      record { head = head_of order octets; octets = take (number_at order 8 octets) (drop 16 octets) },
      drop (16 + number_at order 8 octets) octets,
    )
    else None

-- the whole records that octets begin with, one behind the other, and what lies behind the last one
pub record Cut : Type 0 where
  pub records : List Record
  pub rest : List ℕ

abbrev pub behind_record : Record → Cut → Cut
behind_record r cut = record { records = r ∷ cut.records; rest = cut.rest }

abbrev pub cut_then : List ℕ → Option (Record × List ℕ) → (List ℕ → Cut) → Cut
cut_then octets None following = record { records = []; rest = octets }
cut_then octets (Some found) following = behind_record found.0 (following found.1)

-- of at least so many octets as the number says, of which each record has some
unfoldable pub cut_in : ByteOrder → ℕ → List ℕ → Cut
cut_in order zero octets = record { records = []; rest = octets }
cut_in order (suc k) octets = cut_then octets (first_record order octets) (cut_in order k)

abbrev pub cut_of : ByteOrder → List ℕ → Cut
cut_of order octets = cut_in order (length octets) octets

abbrev pub records_of : ByteOrder → List ℕ → List Record
records_of order octets = (cut_of order octets).records

abbrev pub rest_of : ByteOrder → List ℕ → List ℕ
rest_of order octets = (cut_of order octets).rest
