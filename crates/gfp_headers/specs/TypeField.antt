-- Type headers of Ethernet frames with any PFI and EXI: what all kinds of such frames have in common.
use Rattle.std.specs.Prelude.{ℕ, ◌+◌, ◌*◌, ◌/◌, ◌%◌, ◌^◌, ◌==◌, List, [], ◌∷◌, Option, Some, None, if◌then◌else◌}
use Rattle.law_model.specs.Common.{hec_of, type_field, type_check}
use Rattle.law_model.specs.declared.frame_faults.TypeFault.{TypeFault}
use Rattle.law_model.specs.declared.frame_faults.TypeFault.TheVariants.{Check, NotClient, PayloadFcs, Extension, NotEthernet}

-- the type field with a PFI and an EXI: PTI is 0 and UPI 1
abbrev pub field_with : ℕ → ℕ → ℕ
field_with pfi exi = 4096 * pfi + 256 * exi + 1

-- the type header with them
abbrev pub header_with : ℕ → ℕ → List ℕ
header_with pfi exi =
    (16 * pfi + exi) ∷ 1 ∷ (hec_of (field_with pfi exi) / 256) ∷ (hec_of (field_with pfi exi) % 256) ∷ []

-- the first field in which a type field differs from that
abbrev pub field_fault_with : ℕ → ℕ → ℕ → Option TypeFault
field_fault_with pfi exi field =
    if field / 2 ^ 13 == 0 then
    (if field / 2 ^ 12 % 2 == pfi then
    (if field / 2 ^ 8 % 2 ^ 4 == exi then
    (if field % 2 ^ 8 == 1 then None else Some (NotEthernet (field % 2 ^ 8)))
    else Some (Extension (field / 2 ^ 8 % 2 ^ 4)))
    else Some PayloadFcs)
    else Some (NotClient (field / 2 ^ 13))

-- the first fault of a type header: its check, or else a field
abbrev pub type_fault_with : ℕ → ℕ → List ℕ → Option TypeFault
type_fault_with pfi exi octets =
    if type_check octets == hec_of (type_field octets) then field_fault_with pfi exi (type_field octets)
    else Some (Check (type_check octets) (hec_of (type_field octets)))
