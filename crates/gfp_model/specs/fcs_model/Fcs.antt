-- A client frame with a frame check sequence (FCS) behind it, and what comes of its area. In G.7041 the payload FCS is
-- a CRC-32 over the payload information field, whose most significant bit is sent first. That a frame has at least
-- four octets is this project's own.
use Rattle.std.specs.Prelude.{ℕ, ◌-◌, ◌/◌, ◌%◌, ◌^◌, ◌==◌, nat_lt, if◌then◌else◌, Bool, true, false, List, [], ◌∷◌}
use Rattle.std.specs.Prelude.{◌++◌, length, take, drop, Option, Some, None, bytes_eq}
use Rattle.law_model.specs.Common.{number, octet_bits, hec_of, type_field, type_check, longest_extended_area}
use Rattle.law_model.specs.declared.frame_faults.TypeFault.{TypeFault}
use Rattle.law_model.specs.declared.frame_faults.TypeFault.TheVariants.{Check as WrongCheck, NotClient, PayloadFcs, Extension, NotEthernet}
use Rattle.check_crc32.specs.Crc32.{fcs_of}
use Rattle.gfp_model.specs.declared.fcs_model.FcsWhy.{FcsWhy}
use Rattle.gfp_model.specs.declared.fcs_model.FcsWhy.TheVariants.{Unsettled, TooLong, Header, Short, Fcs}

-- the type header of a client frame with an FCS
abbrev pub fcs_header : List ℕ
fcs_header = 0x10 ∷ 0x01 ∷ 0x13 ∷ 0x52 ∷ []

-- the area of a frame: a type header, the frame, and its FCS
abbrev pub fcs_area : List ℕ → List ℕ
fcs_area frame = fcs_header ++ (frame ++ fcs_of frame)

-- the first field in which a type field differs from that of an Ethernet frame with FCS. `PayloadFcs` says that PFI
-- is 0
abbrev pub fcs_field_fault : ℕ → Option TypeFault
fcs_field_fault field =
    if field / 2 ^ 13 == 0 then
    (if field / 2 ^ 12 % 2 == 1 then
    (if field / 2 ^ 8 % 2 ^ 4 == 0 then
    (if field % 2 ^ 8 == 1 then None else Some (NotEthernet (field % 2 ^ 8)))
    else Some (Extension (field / 2 ^ 8 % 2 ^ 4)))
    else Some PayloadFcs)
    else Some (NotClient (field / 2 ^ 13))

-- the first fault of a type header: its check, and then its fields
unfoldable pub fcs_type_fault : List ℕ → Option TypeFault
fcs_type_fault octets =
    if type_check octets == hec_of (type_field octets) then fcs_field_fault (type_field octets)
    else Some (WrongCheck (type_check octets) (hec_of (type_field octets)))

-- what comes of an area
pub data FcsOutcome : Type 0 where
  delivery : List ℕ → FcsOutcome
  dropping : FcsWhy → FcsOutcome

-- four octets as a number
abbrev pub word_of : List ℕ → ℕ
word_of octets = number (octet_bits octets)

-- an area with a sound type header, by its size and its check
abbrev pub by_check : List ℕ → List ℕ → FcsOutcome
by_check said info =
    if bytes_eq said (fcs_of info) then delivery info else dropping (Fcs (word_of said) (word_of (fcs_of info)))

abbrev pub by_size : List ℕ → FcsOutcome
by_size area =
    if nat_lt (length area) 12 then dropping (Short (length area))
    else by_check (drop (length area - 4) area) (take (length area - 8) (drop 4 area))

abbrev pub by_type : Option TypeFault → List ℕ → FcsOutcome
by_type None area = by_size area
by_type (Some fault) area = dropping (Header fault)

-- the outcome of a descrambled area: the first cause that holds, or the frame in it
abbrev pub fcs_outcome : Bool → List ℕ → FcsOutcome
fcs_outcome true area =
    if nat_lt longest_extended_area (length area) then dropping (TooLong (length area))
    else by_type (fcs_type_fault (take 4 area)) area
fcs_outcome false area = dropping Unsettled

-- the frame that was delivered
abbrev pub frame_in : FcsOutcome → List (List ℕ)
frame_in (delivery frame) = frame ∷ []
frame_in (dropping why) = []
