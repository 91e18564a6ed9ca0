-- What a word of a line has to be, and the fault of one that isn't.
use Rattle.std.specs.Prelude.{ℕ, ⊤, ◌≡◌, ◌+◌, ◌&&◌, nat_le, not, Bool, List, [], ◌∷◌, length, Option, Some, None}
use Rattle.std.specs.Prelude.{Result, Ok, Err, bytes_eq, codes, if◌then◌else◌}
use Rattle.std.specs.Option.{option_or}
use Rattle.std.specs.List.{list_any}
use Rattle.hex.specs.Hex.{decode_of}
use Rattle.hex.specs.declared.error.FromHexError.{FromHexError}
use Rattle.text_lines.specs.declared.text_faults.LineKind.{LineKind}
use Rattle.text_lines.specs.declared.text_faults.LineKind.TheVariants as kind
use Rattle.text_lines.specs.declared.text_faults.FieldFault.{FieldFault}
use Rattle.text_lines.specs.declared.text_faults.FieldFault.TheVariants.{Number, Hex, Range, Size, Name}
use Rattle.text_lines.specs.declared.text_faults.Names.{Names}
use Rattle.text_lines.specs.declared.text_faults.Names.TheVariants.{Containers, Sinks, Statuses}
use Rattle.text_lines.specs.declared.text_faults.FieldStop.{FieldStop}
use Rattle.text_lines.specs.declared.text_faults.FieldStop.TheVariants as stop
use Rattle.text_lines.specs.WordsOfLine.{is_number, number_of}

-- a fault where a test finds one
abbrev pub where_true : {K : Type 0} → Bool → K → Option K
where_true found fault = if found then Some fault else None

-- a word that wasn't read has this fault, unless memory was short
abbrev pub IsFieldStop : FieldStop → Option FieldFault → Type 0
IsFieldStop (stop.Fault fault) found = found ≡ Some fault
IsFieldStop stop.Memory found = ⊤

-- the kind of a fault
abbrev pub field_kind : FieldFault → LineKind
field_kind (Number word) = kind.Number
field_kind (Hex word) = kind.Hex
field_kind (Range word least most) = kind.Range
field_kind (Size word least most) = kind.Range
field_kind (Name word names) = kind.Word

-- the names that a word has to be one of
abbrev pub names_of : Names → List (List ℕ)
names_of Containers = codes "vc3" ∷ codes "vc4" ∷ []
names_of Sinks = codes "stops" ∷ codes "infers" ∷ []
names_of Statuses = codes "16" ∷ codes "32" ∷ []

-- what a word has to be: a number within two bounds; any number; a number above that of the word before it, up to a
-- bound; the hexadecimal digits of a number of octets within two bounds; one of some names
pub data Field : Type 0 where
  within : ℕ → ℕ → Field
  any : Field
  above : ℕ → Field
  digits : ℕ → ℕ → Field
  one_of : Names → Field

-- each of the word at a place of its line, counted from 1
abbrev pub number_fault : ℕ → ℕ → ℕ → List ℕ → Option FieldFault
number_fault at least most w =
    option_or (where_true (not (is_number w)) (Number at))
    (where_true (not (nat_le least (number_of w) && nat_le (number_of w) most)) (Range at least most))

abbrev pub octets_fault : ℕ → ℕ → ℕ → Result (List ℕ) FromHexError → Option FieldFault
octets_fault at least most (Err e) = Some (Hex at)
octets_fault at least most (Ok octets) =
    where_true (not (nat_le least (length octets) && nat_le (length octets) most)) (Size at least most)

abbrev pub name_fault : ℕ → Names → List ℕ → Option FieldFault
name_fault at names w = where_true (not (list_any (λ name. bytes_eq w name) (names_of names))) (Name at names)

-- the fault of a word, where the number before it is this one
abbrev pub field_fault : Field → ℕ → ℕ → List ℕ → Option FieldFault
field_fault (within least most) at before w = number_fault at least most w
field_fault any at before w = number_fault at 0 9999999999 w
field_fault (above most) at before w = number_fault at (before + 1) most w
field_fault (digits least most) at before w = octets_fault at least most (decode_of w)
field_fault (one_of names) at before w = name_fault at names w

-- word by word from the left, of which the first has this place
abbrev pub fields_fault : List Field → ℕ → ℕ → List (List ℕ) → Option FieldFault
fields_fault [] at before ws = None
fields_fault (f ∷ fs) at before [] = None
fields_fault (f ∷ fs) at before (w ∷ ws) =
    option_or (field_fault f at before w) (fields_fault fs (at + 1) (number_of w) ws)
