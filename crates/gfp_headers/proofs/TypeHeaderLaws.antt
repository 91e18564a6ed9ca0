-- What the octets of a type header say, and which of them is that of an Ethernet frame with a PFI and an EXI.
use Rattle.std.proofs.Common.{◌≡◌, ◌≢◌, ℕ, ◌+◌, ◌*◌, ◌/◌, ◌%◌, ◌^◌, ◌<◌, ◌≤◌, Bool, true, false, List, [], ◌∷◌, length}
use Rattle.std.proofs.Common.{Some, None, get_or, refl, sym, ◌∙◌, ap, ap₂, arith, eq-eqb, if◌then◌else◌, ◌==◌, ne_eqb}
use Rattle.std.proofs.Common.{eqb-true}
use Rattle.law_model.specs.Common.{bits, number_behind, add_front, divide, hec_of, type_header, type_field, type_check}
use Rattle.law_model.specs.Common.{type_fault}
use Rattle.law_model.specs.declared.frame_faults.TypeFault.{TypeFault}
use Rattle.law_model.specs.declared.frame_faults.TypeFault.TheVariants.{Check}
use Rattle.gfp_model.specs.fcs_model.Fcs.{fcs_header, fcs_type_fault}
use Rattle.gfp_model.specs.linear_model.ChannelArea.{linear_header, linear_type_fault}
use Rattle.gfp_headers.specs.TypeField.{field_with, header_with, field_fault_with, type_fault_with}

-- ---- the kinds of Ethernet frames
pub header-plain : header_with 0 0 ≡ type_header
unfolding hec_of bits divide add_front number_behind
header-plain = refl

pub header-fcs : header_with 1 0 ≡ fcs_header
unfolding hec_of bits divide add_front number_behind
header-fcs = refl

pub header-linear : header_with 0 1 ≡ linear_header
unfolding hec_of bits divide add_front number_behind
header-linear = refl

pub type_fault-plain : (octets : List ℕ) → type_fault octets ≡ type_fault_with 0 0 octets
unfolding type_fault
type_fault-plain octets = refl

pub type_fault-fcs : (octets : List ℕ) → fcs_type_fault octets ≡ type_fault_with 1 0 octets
unfolding fcs_type_fault
type_fault-fcs octets = refl

pub type_fault-linear : (octets : List ℕ) → linear_type_fault octets ≡ type_fault_with 0 1 octets
unfolding linear_type_fault
type_fault-linear octets = refl

-- ---- that of an Ethernet frame has no fault
header-sound : type_fault type_header ≡ None
unfolding type_fault hec_of bits divide add_front number_behind
header-sound = refl

header-check : type_check type_header ≡ hec_of (type_field type_header)
unfolding hec_of bits divide add_front number_behind
header-check = refl

pub type_fault-none : (octets : List ℕ) → octets ≡ type_header → type_fault octets ≡ None
type_fault-none octets same = ap type_fault same ∙ header-sound

pub type_check-right : (octets : List ℕ) → octets ≡ type_header → type_check octets ≡ hec_of (type_field octets)
type_check-right octets same =
    ap type_check same ∙ header-check ∙ sym (ap (λ o. hec_of (type_field o)) same)

-- ---- the words that the octets of a type header say
none_tells : (a b c d : Bool) (x y z w : TypeFault) →
    (if a then (if b then (if c then (if d then None else Some x) else Some y) else Some z) else Some w) ≡ None →
    (a ≡ true) × (b ≡ true) × (c ≡ true) × (d ≡ true)
none_tells true true true true x y z w e = (refl, refl, refl, refl)
none_tells true true true false x y z w e = absurd cc
none_tells true true false d x y z w e = absurd cc
none_tells true false c d x y z w e = absurd cc
none_tells false b c d x y z w e = absurd cc

none_where : (a b c d : Bool) (x y z w : TypeFault) → a ≡ true → b ≡ true → c ≡ true → d ≡ true →
    (if a then (if b then (if c then (if d then None else Some x) else Some y) else Some z) else Some w) ≡ None
none_where true true true true x y z w p q r s = refl
none_where true true true false x y z w p q r s = absurd cc
none_where true true false d x y z w p q r s = absurd cc
none_where true false c d x y z w p q r s = absurd cc
none_where false b c d x y z w p q r s = absurd cc

module _ (pfi exi : ℕ) (octets : List ℕ) (field said found : ℕ) (e : field ≡ type_field octets)
    (s : said ≡ type_check octets) (f : found ≡ hec_of field) where
  right : found ≡ hec_of (type_field octets)
  right = f ∙ ap hec_of e

  -- where the check is another one, nothing else counts
  pub type_fault-check : said ≢ found → type_fault_with pfi exi octets ≡ Some (Check said found)
  unfolding right
  type_fault-check other =
      ap (λ b. if b then field_fault_with pfi exi (type_field octets) else Some
      (Check (type_check octets) (hec_of (type_field octets))))
      (ne_eqb (type_check octets) (hec_of (type_field octets)) (λ same. other (s ∙ same ∙ sym right)))
      ∙ ap₂ (λ a b. Some (Check a b)) (sym s) (sym right)

  -- where it is right, the fields do
  pub type_fault-field : said ≡ found → type_fault_with pfi exi octets ≡ field_fault_with pfi exi field
  unfolding right
  type_fault-field same =
      ap (λ b. if b then field_fault_with pfi exi (type_field octets) else Some
      (Check (type_check octets) (hec_of (type_field octets))))
      (eq-eqb (type_check octets) (hec_of (type_field octets)) (sym s ∙ same ∙ right))
      ∙ ap (field_fault_with pfi exi) (sym e)

-- the only type field with no fault
field_one : (pfi exi field : ℕ) → field < 2 ^ 16 → field_fault_with pfi exi field ≡ None → field ≡ field_with pfi exi
field_one pfi exi field h e =
    let t = none_tells (field / 2 ^ 13 == 0) (field / 2 ^ 12 % 2 == pfi) (field / 2 ^ 8 % 2 ^ 4 == exi)
    (field % 2 ^ 8 == 1) _ _ _ _ e in
    let top = eqb-true (field / 2 ^ 13) 0 t.0 in
    let bit = eqb-true (field / 2 ^ 12 % 2) pfi t.1 in
    let four = eqb-true (field / 2 ^ 8 % 2 ^ 4) exi t.2 in
    let upi = eqb-true (field % 2 ^ 8) 1 t.3 in
    omega arith

-- has none
pub field_with-none : (pfi exi : ℕ) → pfi ≤ 1 → exi ≤ 15 → field_fault_with pfi exi (field_with pfi exi) ≡ None
field_with-none pfi exi p x =
    none_where (field_with pfi exi / 2 ^ 13 == 0) (field_with pfi exi / 2 ^ 12 % 2 == pfi)
    (field_with pfi exi / 2 ^ 8 % 2 ^ 4 == exi) (field_with pfi exi % 2 ^ 8 == 1) _ _ _ _
    (eq-eqb (field_with pfi exi / 2 ^ 13) 0 (omega arith)) (eq-eqb (field_with pfi exi / 2 ^ 12 % 2) pfi (omega arith))
    (eq-eqb (field_with pfi exi / 2 ^ 8 % 2 ^ 4) exi (omega arith))
    (eq-eqb (field_with pfi exi % 2 ^ 8) 1 (omega arith))

-- the only octets with no fault
pub header_with-only : (pfi exi : ℕ) (octets : List ℕ) (field said found : ℕ) → length octets ≡ 4 →
    ((i : ℕ) → get_or octets i 0 < 256) → field ≡ type_field octets → said ≡ type_check octets → found ≡ hec_of field →
    said ≡ found → field_fault_with pfi exi field ≡ None → octets ≡ header_with pfi exi
header_with-only pfi exi (a ∷ b ∷ c ∷ d ∷ []) field said found size below e s f same none =
    let p : a < 256 = below 0 in
    let q : b < 256 = below 1 in
    let u : c < 256 = below 2 in
    let v : d < 256 = below 3 in
    let small : field < 2 ^ 16 = omega arith in
    let one : field ≡ field_with pfi exi = field_one pfi exi field small none in
    let check : 256 * c + d ≡ hec_of (field_with pfi exi) = sym s ∙ same ∙ f ∙ ap hec_of one in
    ap₂ (λ x l. x ∷ l) (omega arith)
    (ap₂ (λ x l. x ∷ l) (omega arith) (ap₂ (λ x y. x ∷ y ∷ []) (omega arith) (omega arith)))
header_with-only pfi exi [] field said found size below e s f same none = absurd (omega arith)
header_with-only pfi exi (a ∷ []) field said found size below e s f same none = absurd (omega arith)
header_with-only pfi exi (a ∷ b ∷ []) field said found size below e s f same none = absurd (omega arith)
header_with-only pfi exi (a ∷ b ∷ c ∷ []) field said found size below e s f same none = absurd (omega arith)
header_with-only pfi exi (a ∷ b ∷ c ∷ d ∷ x ∷ more) field said found size below e s f same none = absurd (omega arith)

-- whose field is that
pub header_with-field : (pfi exi : ℕ) (octets : List ℕ) (field : ℕ) → field ≡ type_field octets →
    octets ≡ header_with pfi exi → field ≡ field_with pfi exi
header_with-field pfi exi octets field e h =
    let one : type_field (header_with pfi exi) ≡ field_with pfi exi = omega arith in
    e ∙ ap type_field h ∙ one

-- and whose check is right
pub header_with-checked : (pfi exi : ℕ) (octets : List ℕ) (field said found : ℕ) → field ≡ type_field octets →
    said ≡ type_check octets → found ≡ hec_of field → octets ≡ header_with pfi exi → said ≡ found
header_with-checked pfi exi octets field said found e s f h =
    let one : type_check (header_with pfi exi) ≡ hec_of (field_with pfi exi) = omega arith in
    s ∙ ap type_check h ∙ one ∙ sym (f ∙ ap hec_of (header_with-field pfi exi octets field e h))
