-- The area of a frame with FCS and its type header: delivered without flips, dropped with one or two.
use Rattle.std.proofs.Common.{◌≡◌, ℕ, ◌+◌, ◌*◌, ◌/◌, ◌%◌, ◌^◌, ◌<◌, ◌==◌, Bool, true, false, if◌then◌else◌, List, []}
use Rattle.std.proofs.Common.{◌∷◌, length, All, Option, Some, None, refl, ◌∙◌, ap, ap₂, arith, eqb-true, ◌≢◌, zero}
use Rattle.std.proofs.Common.{suc}
use Rattle.std.proofs.Common.{◌-◌, ◌≤◌, ◌⊎◌, ◌++◌, take, drop, replicate, sym, subst, inl, inr, append_assoc, le_of_eq}
use Rattle.std.proofs.lemmas.List.Elements.{All-head, All-tail, All-nil, All-cons, All-append}
use Rattle.law_model.specs.Common.{bits, number_behind, add_front, divide, hec_of, octet_bits, xors, remainder, count}
use Rattle.law_model.specs.Common.{longest_extended_area, longest_frame}
use Rattle.law_model.specs.declared.frame_faults.TypeFault.{TypeFault}
use Rattle.gfp_model.specs.fcs_model.Fcs.{fcs_header, fcs_field_fault, fcs_type_fault, fcs_area, FcsOutcome, delivery}
use Rattle.gfp_model.specs.fcs_model.Fcs.{dropping, by_check, by_type, fcs_outcome, frame_in}
use Rattle.std.specs.Str.{bytes_eq}
use Rattle.std.proofs.lemmas.List.{length-append, length-replicate, length-take, length-drop, take_at, drop_at}
use Rattle.std.proofs.lemmas.List.{take-append-drop, replicate-append-replicate}
use Rattle.std.proofs.lemmas.Bool.{le-ltb, cases_lt}
use Rattle.std.proofs.lemmas.Slice.Eq.{bytes_eq-Decides}
use Rattle.check_remainder.proofs.XorAndBitCountLaws.{xors-self, xors_twice, count-zeros}
use Rattle.check_remainder.proofs.LongDivisionRemainderLaws.{length-remainder, divide_behind}
use Rattle.check_remainder.proofs.NumberAndOctetBitsLaws.{length-octet_bits, octets_of_below}
use Rattle.gfp_model.specs.fcs_model.Flips.{flipped}
use Rattle.check_crc32.specs.Crc32.{crc32, check_bits, fcs_of}
use Rattle.check_crc32.proofs.CheckBitsAndRemainderLaws.{length-crc32, length-check_bits, check_bits-xors}
use Rattle.check_crc32.proofs.CheckBitsAndRemainderLaws.{octet_bits-fcs_of, length-fcs_of}
use Rattle.gfp_model.specs.declared.fcs_model.FcsWhy.TheVariants.{Header}
use Rattle.gfp_noise.specs.flip_law.SingleFlip.{IsOneOrTwo, one, two}
use Rattle.gfp_noise.specs.flip_law.FlippedStream.{IsFrame}
use Rattle.gfp_noise.proofs.FlipPlaceAndBitLaws.{length-flipped, flipped_below, octet_bits-flipped, flipped-append}
use Rattle.gfp_noise.proofs.FlipRemainderAndDescramblingLaws.{something_left}

-- ---- The type header of a frame with FCS: four octets have no fault exactly where they are it.
pub fcs_header_right : fcs_type_fault fcs_header ≡ None
unfolding fcs_type_fault hec_of bits divide add_front number_behind
fcs_header_right = refl

hec_of-field : hec_of 0x1001 ≡ 0x1352
unfolding hec_of bits divide add_front number_behind
hec_of-field = refl

-- a test that ends in none
passes : (a : Bool) (found : Option TypeFault) (fault : TypeFault) → (if a then found else Some fault) ≡ None
    → (a ≡ true) × (found ≡ None)
passes true found fault e = (refl, e)
passes false found fault e = absurd cc

from_fields : (field : ℕ) → field / 8192 ≡ 0 → field / 4096 % 2 ≡ 1 → field / 256 % 16 ≡ 0 → field % 256 ≡ 1
    → field ≡ 4097
from_fields field a b c d = omega arith

field_right : (field : ℕ) → fcs_field_fault field ≡ None → field ≡ 0x1001
field_right field e =
    let one = passes (field / 2 ^ 13 == 0) _ _ e in
    let two = passes (field / 2 ^ 12 % 2 == 1) _ _ one.1 in
    let three = passes (field / 2 ^ 8 % 2 ^ 4 == 0) _ _ two.1 in
    let four = passes (field % 2 ^ 8 == 1) _ _ three.1 in
    from_fields field (eqb-true (field / 2 ^ 13) 0 one.0) (eqb-true (field / 2 ^ 12 % 2) 1 two.0)
    (eqb-true (field / 2 ^ 8 % 2 ^ 4) 0 three.0) (eqb-true (field % 2 ^ 8) 1 four.0)

upper : (a b m n : ℕ) → b < 256 → n < 256 → 256 * a + b ≡ 256 * m + n → a ≡ m
upper a b m n p q e = omega arith

lower : (a b m n : ℕ) → b < 256 → n < 256 → 256 * a + b ≡ 256 * m + n → b ≡ n
lower a b m n p q e = omega arith

four_right : (a b c d : ℕ) → b < 256 → d < 256 → fcs_type_fault (a ∷ b ∷ c ∷ d ∷ []) ≡ None
    → a ∷ b ∷ c ∷ d ∷ [] ≡ fcs_header
unfolding fcs_type_fault
four_right a b c d p q e =
    let t = passes (256 * c + d == hec_of (256 * a + b)) (fcs_field_fault (256 * a + b)) _ e in
    let field : 256 * a + b ≡ 256 * 16 + 1 = field_right (256 * a + b) t.1 in
    let check : 256 * c + d ≡ 256 * 19 + 82 = eqb-true (256 * c + d) (hec_of (256 * a + b)) t.0 ∙ ap hec_of field
    ∙ hec_of-field in
    ap₂ (λ a b. a ∷ b ∷ c ∷ d ∷ []) (upper a b 16 1 p (omega arith) field) (lower a b 16 1 p (omega arith) field)
    ∙ ap₂ (λ c d. 16 ∷ 1 ∷ c ∷ d ∷ []) (upper c d 19 82 q (omega arith) check) (lower c d 19 82 q (omega arith) check)

pub fcs_type_fault-right : (octets : List ℕ) → length octets ≡ 4 → All (λ o. o < 256) octets
    → fcs_type_fault octets ≡ None → octets ≡ fcs_header
fcs_type_fault-right (a ∷ b ∷ c ∷ d ∷ []) size all e =
    let below : ℕ → Type 0 = λ o. o < 256 in
    let second = All-tail below a (b ∷ c ∷ d ∷ []) all in
    let fourth = All-tail below c (d ∷ []) (All-tail below b (c ∷ d ∷ []) second) in
    four_right a b c d (All-head below b (c ∷ d ∷ []) second) (All-head below d [] fourth) e
fcs_type_fault-right octets size all e = absurd (omega arith)

-- ---- The area of a frame of which flips are left: with none the frame is delivered, and with one bit, or two that are 43
-- places apart, it is dropped.
-- ---- the FCS of flipped octets
none_in_zeros : (bs : List Bool) (n : ℕ) → bs ≡ replicate n false → count bs ≡ 0
none_in_zeros bs n e = ap count e ∙ count-zeros n

-- flips in octets and in their FCS, that leave something
pub fcs_differs : (frame : List ℕ) (first second : List Bool) → length first ≡ 8 * length frame → length second ≡ 32
    → IsOneOrTwo (first ++ second) →
    flipped second (fcs_of frame) ≢ fcs_of (flipped first frame)
fcs_differs frame first second size four single e =
    let check : List Bool = check_bits (octet_bits frame) in
    let rest : List Bool = remainder crc32 first in
    let long : length check ≡ 32 = length-check_bits (octet_bits frame) in
    let rest_long : length rest ≡ 32 = length-remainder crc32 first ∙ length-crc32 in
    let bits_same : xors check second ≡ xors check rest =
    ap (λ l. xors l second) (sym (octet_bits-fcs_of frame))
    ∙ sym (octet_bits-flipped second (fcs_of frame) (four ∙ sym (ap (λ n. 8 * n) (length-fcs_of frame))))
    ∙ ap octet_bits e ∙ octet_bits-fcs_of (flipped first frame)
    ∙ ap check_bits (octet_bits-flipped first frame size)
    ∙ check_bits-xors (octet_bits frame) first (length-octet_bits frame ∙ sym size) in
    let same : second ≡ rest =
    sym (xors_twice check second (le_of_eq (four ∙ sym long))) ∙ ap (xors check) bits_same
    ∙ xors_twice check rest (le_of_eq (rest_long ∙ sym long)) in
    let left : divide (length first) crc32 (first ++ second) ≡ replicate (length rest) false =
    divide_behind crc32 first second (four ∙ sym length-crc32) ∙ ap (xors rest) same ∙ xors-self rest in
    let some : 0 < count (divide (length first) crc32 (first ++ second)) =
    something_left (length first) (first ++ second) (omega (arith, length-append first second, four)) single in
    let none : count (divide (length first) crc32 (first ++ second)) ≡ 0 = none_in_zeros
    (divide (length first) crc32 (first ++ second)) (length rest) left in
    absurd (omega arith)

-- ---- flips in the first 32 bits
header_differs : (flips : List Bool) (octets : List ℕ) → length flips ≡ 8 * length octets → 0 < count flips
    → flipped flips octets ≢ octets
header_differs flips octets size some e =
    let bits_same : xors (octet_bits octets) flips ≡ octet_bits octets = sym (octet_bits-flipped flips octets size)
    ∙ ap octet_bits e in
    let zeros : flips ≡ replicate (length (octet_bits octets)) false =
    sym (xors_twice (octet_bits octets) flips (le_of_eq (size ∙ sym (length-octet_bits octets))))
    ∙ ap (xors (octet_bits octets)) bits_same ∙ xors-self (octet_bits octets) in
    let none : count flips ≡ 0 = none_in_zeros flips (length (octet_bits octets)) zeros in
    absurd (omega arith)

-- ---- the outcome of an area in parts
bytes_eq-true : (a b : List ℕ) → a ≡ b → bytes_eq a b ≡ true
bytes_eq-true a b e = (bytes_eq-Decides a b).1 e

bytes_eq-false : (a b : List ℕ) → a ≢ b → bytes_eq a b ≡ false
bytes_eq-false a b h = test (bytes_eq a b) refl
  where
    test : (t : Bool) → bytes_eq a b ≡ t → bytes_eq a b ≡ false
    test true e = absurd (h ((bytes_eq-Decides a b).0 e))
    test false e = e

abbrev parts_by : Option TypeFault → List ℕ → List ℕ → FcsOutcome
parts_by None info said = by_check said info
parts_by (Some fault) info said = dropping (Header fault)

abbrev parts_outcome : List ℕ → List ℕ → List ℕ → FcsOutcome
parts_outcome header info said = parts_by (fcs_type_fault header) info said

module _ (header info said : List ℕ) (four : length header ≡ 4) (least : 64 ≤ length info) (most : length info ≤ longest_frame)
    (last : length said ≡ 4) where
  all : List ℕ
  all = header ++ (info ++ said)

  length-all : length all ≡ 8 + length info
  unfolding all
  length-all = omega (arith, length-append header (info ++ said), length-append info said, four, last)

  info-all : take (length all - 8) (drop 4 all) ≡ info
  unfolding all
  info-all =
      ap₂ take (let e : length all - 8 ≡ length info = omega (arith, length-all) in e)
      (drop_at header (info ++ said) 4 four)
      ∙ take_at info said (length info) refl

  said-all : drop (length all - 4) all ≡ said
  unfolding all
  said-all =
      ap₂ drop (let e : length all - 4 ≡ 4 + length info = omega (arith, length-all) in e)
      (sym (append_assoc header info said))
      ∙ drop_at (header ++ info) said (4 + length info)
      (let e : length (header ++ info) ≡ 4 + length info = omega (arith, length-append header info, four) in e)

  by_type-parts : (fault : Option TypeFault) → by_type fault all ≡ parts_by fault info said
  by_type-parts None = rw (le-ltb (length all) 12 (omega (arith, length-all, least)), info-all, said-all) refl
  by_type-parts (Some fault) = refl

  outcome-parts : fcs_outcome true (header ++ (info ++ said)) ≡ parts_outcome header info said
  unfolding all
  outcome-parts =
      rw (le-ltb longest_extended_area (length all) (omega (arith, length-all, most)), take_at header (info ++ said) 4 four)
      (by_type-parts (fcs_type_fault header))

-- ---- the area of a frame
fcs_header_below : All (λ o. o < 256) fcs_header
fcs_header_below =
    let below : ℕ → Type 0 = λ o. o < 256 in
    All-cons below 16 (1 ∷ 19 ∷ 82 ∷ []) (omega arith)
    (All-cons below 1 (19 ∷ 82 ∷ []) (omega arith)
    (All-cons below 19 (82 ∷ []) (omega arith) (All-cons below 82 [] (omega arith) (All-nil below))))

pub fcs_area_below : (frame : List ℕ) → IsFrame frame → All (λ o. o < 256) (fcs_area frame)
fcs_area_below frame is =
    All-append (λ o. o < 256) fcs_header (frame ++ fcs_of frame) fcs_header_below
    (All-append (λ o. o < 256) frame (fcs_of frame) is.octets (octets_of_below 4 (check_bits (octet_bits frame))))

pub length-fcs_area : (frame : List ℕ) → length (fcs_area frame) ≡ length frame + 8
length-fcs_area frame =
    omega (
      arith,
      length-append fcs_header (frame ++ fcs_of frame),
      length-append frame (fcs_of frame),
      length-fcs_of frame,
    )

-- it is delivered as it is sent
pub fcs_area-delivered : (frame : List ℕ) → IsFrame frame → fcs_outcome true (fcs_area frame) ≡ delivery frame
fcs_area-delivered frame is =
    outcome-parts fcs_header frame (fcs_of frame) refl is.least is.most (length-fcs_of frame)
    ∙ rw (fcs_header_right, bytes_eq-true (fcs_of frame) (fcs_of frame) refl) refl

-- ---- one bit, or two, in two parts
take_some : (k a : ℕ) (rest : List Bool) → a < k → 0 < count (take k (replicate a false ++ true ∷ rest))
unfolding count
take_some zero a rest h = absurd (omega arith)
take_some (suc k) zero rest h = omega arith
take_some (suc k) (suc a) rest h = take_some k a rest (omega arith)

drop_zeros : (k a : ℕ) (rest : List Bool) → k ≤ a → drop k (replicate a false ++ rest) ≡ replicate (a - k) false ++ rest
drop_zeros k a rest h =
    ap (λ n. drop k (replicate n false ++ rest)) (let e : a ≡ k + (a - k) = omega (arith, h) in e)
    ∙ ap (λ l. drop k (l ++ rest)) (sym (replicate-append-replicate k (a - k) false))
    ∙ ap (drop k) (append_assoc (replicate k false) (replicate (a - k) false) rest)
    ∙ drop_at (replicate k false) (replicate (a - k) false ++ rest) k (length-replicate k false)

pub first_or_behind : (k : ℕ) (flips : List Bool) → IsOneOrTwo flips
    → (0 < count (take k flips)) ⊎ IsOneOrTwo (drop k flips)
first_or_behind k flips (one a b e) = elim (cases_lt a k) [
  | inl first ↦ inl (subst (λ l. 0 < count (take k l)) (sym e) (take_some k a (replicate b false) first))
  | inr past ↦ inr (one (a - k) b (ap (drop k) e ∙ drop_zeros k a (true ∷ replicate b false) past))
]
first_or_behind k flips (two a b e) = elim (cases_lt a k) [
  | inl first ↦ inl (subst (λ l. 0 < count (take k l)) (sym e)
      (take_some k a (replicate 42 false ++ (true ∷ replicate b false)) first))
  | inr past ↦ inr (two (a - k) b
      (ap (drop k) e ∙ drop_zeros k a (true ∷ (replicate 42 false ++ (true ∷ replicate b false))) past))
]

-- ---- it is dropped with one bit, or two, turned over
module _ (frame : List ℕ) (flips : List Bool) (is : IsFrame frame) (size : length flips ≡ 8 * (length frame + 8)) where
  first : List Bool
  first = take 32 flips

  middle : List Bool
  middle = take (8 * length frame) (drop 32 flips)

  last : List Bool
  last = drop (8 * length frame) (drop 32 flips)

  length-first : length first ≡ 32
  unfolding first
  length-first = omega (arith, length-take 32 flips, size)

  length-middle : length middle ≡ 8 * length frame
  unfolding middle
  length-middle = omega (arith, length-take (8 * length frame) (drop 32 flips), length-drop 32 flips, size)

  length-last : length last ≡ 32
  unfolding last
  length-last = omega (arith, length-drop (8 * length frame) (drop 32 flips), length-drop 32 flips, size)

  behind : middle ++ last ≡ drop 32 flips
  unfolding middle last
  behind = take-append-drop (8 * length frame) (drop 32 flips)

  whole : first ++ (middle ++ last) ≡ flips
  unfolding first
  whole = ap (λ l. first ++ l) behind ∙ take-append-drop 32 flips

  parts : flipped flips (fcs_area frame) ≡ flipped first fcs_header ++
      (flipped middle frame ++ flipped last (fcs_of frame))
  parts =
      ap (λ l. flipped l (fcs_area frame)) (sym whole)
      ∙ flipped-append first (middle ++ last) fcs_header (frame ++ fcs_of frame) length-first
      ∙ ap (λ l. flipped first fcs_header ++ l) (flipped-append middle last frame (fcs_of frame) length-middle)

  outcome : fcs_outcome true (flipped flips (fcs_area frame)) ≡ parts_outcome (flipped first fcs_header)
      (flipped middle frame) (flipped last (fcs_of frame))
  outcome =
      ap (fcs_outcome true) parts
      ∙ outcome-parts (flipped first fcs_header) (flipped middle frame) (flipped last (fcs_of frame))
      (length-flipped first fcs_header)
      (omega (arith, length-flipped middle frame, is.least))
      (omega (arith, length-flipped middle frame, is.most))
      (length-flipped last (fcs_of frame) ∙ length-fcs_of frame)

  -- with the type header as it was or not
  by_header : (fault : Option TypeFault) (info said : List ℕ) → bytes_eq said (fcs_of info) ≡ false
      → frame_in (parts_by fault info said) ≡ []
  by_header None info said e = rw e refl
  by_header (Some fault) info said e = refl

  faulty : (fault : Option TypeFault) (info said : List ℕ) → fault ≢ None → frame_in (parts_by fault info said) ≡ []
  faulty None info said h = absurd (h refl)
  faulty (Some fault) info said h = refl

  pub fcs_area-dropped : IsOneOrTwo flips → frame_in (fcs_outcome true (flipped flips (fcs_area frame))) ≡ []
  unfolding first
  fcs_area-dropped single = elim (first_or_behind 32 flips single) [
    | inl some ↦ (
        let header : List ℕ = flipped first fcs_header in
        let differs : header ≢ fcs_header = header_differs first fcs_header length-first some in
        ap frame_in outcome
        ∙ faulty (fcs_type_fault header) (flipped middle frame) (flipped last (fcs_of frame))
        (λ none. differs (fcs_type_fault-right header (length-flipped first fcs_header)
        (flipped_below first fcs_header) none)))
    | inr more ↦ (
        let differs : bytes_eq (flipped last (fcs_of frame)) (fcs_of (flipped middle frame)) ≡ false =
        bytes_eq-false (flipped last (fcs_of frame)) (fcs_of (flipped middle frame))
        (fcs_differs frame middle last length-middle length-last (subst IsOneOrTwo (sym behind) more)) in
        ap frame_in outcome
        ∙ by_header (fcs_type_fault (flipped first fcs_header)) (flipped middle frame)
        (flipped last (fcs_of frame)) differs)
  ]
