-- G.7041, linear extension header: a client frame with the number of its channel, and what comes of its area.
use Rattle.std.specs.Prelude.{ℕ, ◌+◌, ◌*◌, ◌/◌, ◌%◌, ◌^◌, ◌==◌, nat_lt, if◌then◌else◌, Bool, true, false, List, []}
use Rattle.std.specs.Prelude.{◌∷◌, ◌++◌, length, take, drop, slice_index, Option, Some, None}
use Rattle.law_model.specs.Common.{hec_of, type_field, type_check, head, outcomes_with, longest_extended_area}
use Rattle.law_model.specs.declared.frame_faults.TypeFault.{TypeFault}
use Rattle.law_model.specs.declared.frame_faults.TypeFault.TheVariants.{Check as WrongCheck, NotClient, PayloadFcs, Extension as OtherExtension, NotEthernet}
use Rattle.gfp_model.specs.declared.linear_model.CidFault.{CidFault}
use Rattle.gfp_model.specs.declared.linear_model.LinearWhy.{LinearWhy}
use Rattle.gfp_model.specs.declared.linear_model.LinearWhy.TheVariants.{Unsettled, TooLong, Header, Short, Extension}

-- ---- the headers in an area
-- the type header of a client frame with a linear extension header
abbrev pub linear_header : List ℕ
linear_header = 0x01 ∷ 0x01 ∷ 0x23 ∷ 0x10 ∷ []

-- the channel number (CID) with the spare octet behind it, and the check (eHEC), that four octets say
abbrev pub cid_field : List ℕ → ℕ
cid_field octets = 256 * slice_index octets 0 + slice_index octets 1

abbrev pub cid_check : List ℕ → ℕ
cid_check octets = 256 * slice_index octets 2 + slice_index octets 3

-- the extension header of a channel, whose spare octet is 0
abbrev pub extension_header : ℕ → List ℕ
extension_header cid = cid ∷ 0 ∷ hec_of (cid * 256) / 2 ^ 8 ∷ hec_of (cid * 256) % 2 ^ 8 ∷ []

-- the area of a frame of a channel
abbrev pub linear_area : ℕ → List ℕ → List ℕ
linear_area cid frame = linear_header ++ (extension_header cid ++ frame)

-- ---- what is wrong with one
-- the first field in which a type field differs from that of an Ethernet frame with a linear extension header
abbrev pub linear_field_fault : ℕ → Option TypeFault
linear_field_fault field =
    if field / 2 ^ 13 == 0 then
    (if field / 2 ^ 12 % 2 == 0 then
    (if field / 2 ^ 8 % 2 ^ 4 == 1 then
    (if field % 2 ^ 8 == 1 then None else Some (NotEthernet (field % 2 ^ 8)))
    else Some (OtherExtension (field / 2 ^ 8 % 2 ^ 4)))
    else Some PayloadFcs)
    else Some (NotClient (field / 2 ^ 13))

-- the first fault of a type header: its check, and then its fields
unfoldable pub linear_type_fault : List ℕ → Option TypeFault
linear_type_fault octets =
    if type_check octets == hec_of (type_field octets) then linear_field_fault (type_field octets)
    else Some (WrongCheck (type_check octets) (hec_of (type_field octets)))

-- the fault of an extension header. The value of the spare octet is no matter, but the check is over it too
unfoldable pub cid_fault : List ℕ → Option CidFault
cid_fault octets =
    if cid_check octets == hec_of (cid_field octets) then None
    else Some (record { said = cid_check octets; found = hec_of (cid_field octets) })

-- ---- what comes of an area
-- a frame is delivered with the number of its channel, or dropped for a cause
pub data LinearOutcome : Type 0 where
  delivery : ℕ → List ℕ → LinearOutcome
  dropping : LinearWhy → LinearOutcome

-- a frame behind its extension header
abbrev pub by_extension : Option CidFault → List ℕ → List ℕ → LinearOutcome
by_extension None extension frame = delivery (slice_index extension 0) frame
by_extension (Some fault) extension frame = dropping (Extension fault)

-- an area with a sound type header, by its size and its extension header
abbrev pub by_size : List ℕ → LinearOutcome
by_size area =
    if nat_lt (length area) 8 then dropping (Short (length area))
    else by_extension (cid_fault (take 4 (drop 4 area))) (take 4 (drop 4 area)) (drop 8 area)

abbrev pub by_type : Option TypeFault → List ℕ → LinearOutcome
by_type None area = by_size area
by_type (Some fault) area = dropping (Header fault)

-- the outcome of a descrambled area: the first cause that holds, or the frame in it
abbrev pub linear_outcome : Bool → List ℕ → LinearOutcome
linear_outcome true area =
    if nat_lt longest_extended_area (length area) then dropping (TooLong (length area))
    else by_type (linear_type_fault (take 4 area)) area
linear_outcome false area = dropping Unsettled

-- ---- what comes of a segment
-- a frame with the number of its channel
pub record ChannelFrame : Type 0 where
  pub cid : ℕ
  pub frame : List ℕ

-- the frame that was delivered
abbrev pub frame_in : LinearOutcome → List ChannelFrame
frame_in (delivery cid frame) = record { cid = cid; frame = frame } ∷ []
frame_in (dropping why) = []

-- the outcomes of a segment, which is the first of its stream or a later one. No header is corrected
abbrev pub linear_outcomes : Bool → List ℕ → List LinearOutcome
linear_outcomes first octets = outcomes_with head head linear_outcome first octets
