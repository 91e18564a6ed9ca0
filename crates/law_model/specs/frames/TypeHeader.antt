-- G.7041, type header: the type field and its check (tHEC). The type field has PTI (3 bits), PFI (1), EXI (4) and UPI
-- (8).
use Rattle.std.specs.Prelude.{ℕ, ◌+◌, ◌*◌, ◌/◌, ◌%◌, ◌^◌, ◌==◌, List, [], ◌∷◌, slice_index, Option, Some, None}
use Rattle.std.specs.Prelude.{if◌then◌else◌}
use Rattle.check_hec16.specs.Hec.{hec_of}
use Rattle.law_model.specs.declared.frame_faults.TypeFault.{TypeFault}
use Rattle.law_model.specs.declared.frame_faults.TypeFault.TheVariants.{Check, NotClient, PayloadFcs, Extension, NotEthernet}

-- the type header of an Ethernet frame
abbrev pub type_header : List ℕ
type_header = 0x00 ∷ 0x01 ∷ 0x10 ∷ 0x21 ∷ []

-- the type field and the check that four octets say
abbrev pub type_field : List ℕ → ℕ
type_field octets = 256 * slice_index octets 0 + slice_index octets 1

abbrev pub type_check : List ℕ → ℕ
type_check octets = 256 * slice_index octets 2 + slice_index octets 3

-- the first field in which a type field differs from that of an Ethernet frame
abbrev pub field_fault : ℕ → Option TypeFault
field_fault field =
    if field / 2 ^ 13 == 0 then
    (if field / 2 ^ 12 % 2 == 0 then
    (if field / 2 ^ 8 % 2 ^ 4 == 0 then
    (if field % 2 ^ 8 == 1 then None else Some (NotEthernet (field % 2 ^ 8)))
    else Some (Extension (field / 2 ^ 8 % 2 ^ 4)))
    else Some PayloadFcs)
    else Some (NotClient (field / 2 ^ 13))

-- what is wrong with a type header: its check, or else the first field that differs
unfoldable pub type_fault : List ℕ → Option TypeFault
type_fault octets =
    if type_check octets == hec_of (type_field octets) then field_fault (type_field octets)
    else Some (Check (type_check octets) (hec_of (type_field octets)))
