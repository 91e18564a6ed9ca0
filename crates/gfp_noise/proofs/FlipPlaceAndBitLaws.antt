-- Octets of which bits are flipped, and flips told by places and as bits.
use Rattle.std.proofs.Common.{◌≡◌, ℕ, ◌*◌, ◌<◌, Bool, false, List, ◌++◌, length, replicate, All, sym, ◌∙◌, ap, ap₂}
use Rattle.std.proofs.Common.{le_of_eq, length-append, ◌≢◌, zero, suc, ◌+◌, ◌-◌, ◌^◌, ◌⊎◌, ◌==◌, true, [], ◌∷◌, get_or}
use Rattle.std.proofs.Common.{bit_xor, refl, inl, inr, arith, append_assoc}
use Rattle.law_model.specs.Common.{octet_bits, octets_of, xors, bits, xor}
use Rattle.check_remainder.proofs.XorAndBitCountLaws.{length_xors, xors_assoc, xors-zeros_right, xors-append}
use Rattle.check_remainder.proofs.NumberAndOctetBitsLaws.{octet_bits-append, length-octet_bits, length-octets_of}
use Rattle.check_remainder.proofs.NumberAndOctetBitsLaws.{octets_of_below, octets_of-octet_bits, octet_bits-octets_of}
use Rattle.check_remainder.proofs.NumberAndOctetBitsLaws.{octets_of-append, bits-xor}
use Rattle.gfp_model.specs.fcs_model.Flips.{flipped}
use Rattle.std.specs.Prelude.{slice_index, slice_set}
use Rattle.std.specs.List.{fold, list_any}
use Rattle.std.proofs.lemmas.Bool.Decides.{nat_tests}
use Rattle.std.proofs.lemmas.List.{append-nil, length-replicate, replicate-append-replicate}
use Rattle.std.proofs.lemmas.List.Elements.{All-nil, All-cons, All-head, All-tail}
use Rattle.std.proofs.lemmas.Nat.{xor_lt}
use Rattle.std.proofs.lemmas.Bool.{eq-eqb, ne_eqb}
use Rattle.law_model.proofs.ListLaws.{replicate-at}
use Rattle.gfp_model.specs.declared.fcs_model.Flip.{Flip}
use Rattle.gfp_noise.specs.flip_law.FlipPlaces.{at, LiesIn, IsRising, turned, one_of, flips_of}

-- ---- Octets of which bits are turned over.
pub length-flipped : (flips : List Bool) (octets : List ℕ) → length (flipped flips octets) ≡ length octets
length-flipped flips octets = length-octets_of (length octets) (xors (octet_bits octets) flips)

pub flipped_below : (flips : List Bool) (octets : List ℕ) → All (λ o. o < 256) (flipped flips octets)
flipped_below flips octets = octets_of_below (length octets) (xors (octet_bits octets) flips)

size_of_both : (flips : List Bool) (octets : List ℕ) → length flips ≡ 8 * length octets
    → length (xors (octet_bits octets) flips) ≡ 8 * length octets
size_of_both flips octets e = length_xors (octet_bits octets) flips (length-octet_bits octets ∙ sym e) ∙ e

pub octet_bits-flipped : (flips : List Bool) (octets : List ℕ) → length flips ≡ 8 * length octets
    → octet_bits (flipped flips octets) ≡ xors (octet_bits octets) flips
octet_bits-flipped flips octets e =
    octet_bits-octets_of (length octets) (xors (octet_bits octets) flips) (size_of_both flips octets e)

-- none is turned over
pub flipped-none : (n : ℕ) (octets : List ℕ) → n ≡ 8 * length octets → All (λ o. o < 256) octets
    → flipped (replicate n false) octets ≡ octets
flipped-none n octets e h =
    ap (octets_of (length octets)) (xors-zeros_right n (octet_bits octets)
    (le_of_eq (length-octet_bits octets ∙ sym e)))
    ∙ octets_of-octet_bits octets h

pub flipped-append : (first second : List Bool) (xs ys : List ℕ) → length first ≡ 8 * length xs
    → flipped (first ++ second) (xs ++ ys) ≡ flipped first xs ++ flipped second ys
flipped-append first second xs ys e =
    ap₂ octets_of (length-append xs ys)
    (ap (λ l. xors l (first ++ second)) (octet_bits-append xs ys) ∙ xors-append (octet_bits xs) first
    (octet_bits ys) second (length-octet_bits xs ∙ sym e))
    ∙ octets_of-append (length xs) (length ys) (xors (octet_bits xs) first) (xors (octet_bits ys) second)
    (size_of_both first xs e)

pub flipped_twice : (first second : List Bool) (octets : List ℕ) → length first ≡ 8 * length octets
    → flipped second (flipped first octets) ≡ flipped (xors first second) octets
flipped_twice first second octets e =
    ap₂ octets_of (length-flipped first octets)
    (ap (λ l. xors l second) (octet_bits-flipped first octets e) ∙ xors_assoc (octet_bits octets) first second)

-- ---- Flips told by places, and as bits.
-- ---- one octet
octet_flips : ℕ → List Bool
octet_flips bit = replicate bit false ++ true ∷ replicate (7 - bit) false

bits_of_one : (bit : ℕ) → bit < 8 → bits 8 (2 ^ (7 - bit)) ≡ octet_flips bit
unfolding bits octet_flips
bits_of_one (suc (suc (suc (suc (suc (suc (suc (suc bit)))))))) h = absurd (omega arith)
bits_of_one bit h = refl

small : (bit : ℕ) → bit < 8 → 2 ^ (7 - bit) < 256
small (suc (suc (suc (suc (suc (suc (suc (suc bit)))))))) h = absurd (omega arith)
small bit h = omega arith

length-octet_flips : (bit : ℕ) → bit < 8 → length (octet_flips bit) ≡ 8
unfolding octet_flips
length-octet_flips bit h =
    omega (
      arith,
      length-append (replicate bit false) (true ∷ replicate (7 - bit) false),
      length-replicate bit false,
      length-replicate (7 - bit) false,
    )

one_octet : (o bit : ℕ) → o < 256 → bit < 8 → flipped (octet_flips bit) (o ∷ []) ≡ bit_xor o (2 ^ (7 - bit)) ∷ []
one_octet o bit below h =
    let mask : ℕ = 2 ^ (7 - bit) in
    let result : bit_xor o mask < 256 = xor_lt 8 o mask below (small bit h) in
    ap₂ (λ front flips. octets_of 1 (xors front flips)) (append-nil (bits 8 o)) (sym (bits_of_one bit h))
    ∙ ap (octets_of 1) (sym (bits-xor 8 o mask) ∙ sym (append-nil (bits 8 (bit_xor o mask))))
    ∙ octets_of-octet_bits (bit_xor o mask ∷ [])
    (All-cons (λ o. o < 256) (bit_xor o mask) [] result (All-nil (λ o. o < 256)))

pub zeros_in_parts : (m n all : ℕ) → all ≡ m + n → replicate all false ≡ replicate m false ++ replicate n false
zeros_in_parts m n all e = ap (λ k. replicate k false) e ∙ sym (replicate-append-replicate m n false)

-- ---- one flip of octets
flip_bits : ℕ → ℕ → ℕ → List Bool
flip_bits octets place bit =
    replicate (8 * place + bit) false ++ true ∷ replicate (8 * octets - (8 * place + bit + 1)) false

turned_at : (octets : List ℕ) (place bit : ℕ) → place < length octets → bit < 8 → All (λ o. o < 256) octets →
    slice_set octets place (bit_xor (slice_index octets place) (2 ^ (7 - bit))) ≡ flipped
    (flip_bits (length octets) place bit) octets
unfolding flip_bits octet_flips
turned_at [] place bit h b all = absurd (omega arith)
turned_at (o ∷ octets) zero bit h b all =
    let n : ℕ = 8 * length octets in
    let flips : flip_bits (suc (length octets)) 0 bit ≡ octet_flips bit ++ replicate n false =
    ap₂ (λ k l. replicate k false ++ true ∷ l) (let e : 8 * 0 + bit ≡ bit = omega arith in e)
    (zeros_in_parts (7 - bit) n (8 * suc (length octets) - (8 * 0 + bit + 1)) (omega (arith, b)))
    ∙ sym (append_assoc (replicate bit false) (true ∷ replicate (7 - bit) false) (replicate n false)) in
    sym (ap (λ l. flipped l (o ∷ octets)) flips
    ∙ flipped-append (octet_flips bit) (replicate n false) (o ∷ []) octets (length-octet_flips bit b)
    ∙ ap₂ ◌++◌ (one_octet o bit (All-head (λ o. o < 256) o octets all) b)
    (flipped-none n octets refl (All-tail (λ o. o < 256) o octets all)))
turned_at (o ∷ octets) (suc place) bit h b all =
    let below : ℕ → Type 0 = λ o. o < 256 in
    let more : List Bool = flip_bits (length octets) place bit in
    let flips : flip_bits (suc (length octets)) (suc place) bit ≡ replicate 8 false ++ more =
    ap₂ (λ l k. l ++ true ∷ replicate k false) (zeros_in_parts 8 (8 * place + bit) (8 * suc place + bit) (omega arith))
    (let e : 8 * suc (length octets) - (8 * suc place + bit + 1) ≡ 8 * length octets -
    (8 * place + bit + 1) = omega arith in e)
    ∙ append_assoc (replicate 8 false) (replicate (8 * place + bit) false)
    (true ∷ replicate (8 * length octets - (8 * place + bit + 1)) false) in
    ap (λ l. o ∷ l) (turned_at octets place bit (omega arith) b (All-tail below o octets all))
    ∙ sym (ap (λ l. flipped l (o ∷ octets)) flips
    ∙ flipped-append (replicate 8 false) more (o ∷ []) octets (length-replicate 8 false)
    ∙ ap (λ l. l ++ flipped more octets)
    (flipped-none 8 (o ∷ []) refl (All-cons below o [] (All-head below o octets all) (All-nil below))))

length-one_of : (octets : ℕ) (flip : Flip) → LiesIn octets flip → length (one_of octets flip) ≡ 8 * octets
length-one_of octets flip lies =
    omega (
      arith,
      length-append (replicate (at flip) false) (true ∷ replicate (8 * octets - (at flip + 1)) false),
      length-replicate (at flip) false,
      length-replicate (8 * octets - (at flip + 1)) false,
      lies.place,
      lies.bit,
    )

pub length-flips_of : (octets : ℕ) (flips : List Flip) → All (LiesIn octets) flips
    → length (flips_of octets flips) ≡ 8 * octets
unfolding flips_of
length-flips_of octets [] lie = length-replicate (8 * octets) false
length-flips_of octets (flip ∷ flips) lie =
    let more = length-flips_of octets flips (All-tail (LiesIn octets) flip flips lie) in
    length_xors (one_of octets flip) (flips_of octets flips)
    (length-one_of octets flip (All-head (LiesIn octets) flip flips lie) ∙ sym more) ∙ more

-- ---- all flips
pub turned-flipped : (flips : List Flip) (n : ℕ) (octets : List ℕ) → length octets ≡ n → All (LiesIn n) flips
    → All (λ o. o < 256) octets →
    fold turned octets flips ≡ flipped (flips_of n flips) octets
unfolding flips_of flip_bits
turned-flipped [] n octets size lie all = sym (flipped-none (8 * n) octets (ap (λ n. 8 * n) (sym size)) all)
turned-flipped (flip ∷ flips) n octets size lie all =
    let mine : LiesIn n flip = All-head (LiesIn n) flip flips lie in
    let one : List Bool = one_of n flip in
    let same : turned octets flip ≡ flipped one octets =
    turned_at octets flip.place flip.bit (omega (arith, mine.place, size)) mine.bit all
    ∙ ap (λ n. flipped (one_of n flip) octets) size in
    ap (λ l. fold turned l flips) same
    ∙ turned-flipped flips n (flipped one octets) (length-flipped one octets ∙ size)
    (All-tail (LiesIn n) flip flips lie) (flipped_below one octets)
    ∙ flipped_twice one (flips_of n flips) octets (length-one_of n flip mine ∙ ap (λ n. 8 * n) (sym size))

-- ---- a bit is turned over exactly where there is a flip at its place
get_or-xors : (a b : List Bool) (i : ℕ) → length a ≡ length b
    → get_or (xors a b) i false ≡ xor (get_or a i false) (get_or b i false)
unfolding xors
get_or-xors [] [] i e = refl
get_or-xors (x ∷ a) (y ∷ b) zero e = refl
get_or-xors (x ∷ a) (y ∷ b) (suc i) e = get_or-xors a b i (omega arith)
get_or-xors a b i e = absurd (omega arith)

get_or-here : (k m : ℕ) → get_or (replicate k false ++ true ∷ replicate m false) k false ≡ true
get_or-here zero m = refl
get_or-here (suc k) m = get_or-here k m

get_or-elsewhere : (k m i : ℕ) → k ≢ i → get_or (replicate k false ++ true ∷ replicate m false) i false ≡ false
get_or-elsewhere zero m zero h = absurd (h refl)
get_or-elsewhere zero m (suc i) h = replicate-at m false i
get_or-elsewhere (suc k) m zero h = refl
get_or-elsewhere (suc k) m (suc i) h = get_or-elsewhere k m i (λ e. h (ap suc e))

none_below : (least i : ℕ) (flips : List Flip) → IsRising least flips → i < least
    → list_any (λ flip. at flip == i) flips ≡ false
unfolding IsRising
none_below least i [] rising h = refl
none_below least i (flip ∷ flips) rising h =
    let other : (at flip == i) ≡ false = differ (at flip) i (omega (arith, rising.0)) in
    rw other (none_below (at flip + 1) i flips rising.1 (omega (arith, rising.0)))
  where
    differ : (a b : ℕ) → b < a → (a == b) ≡ false
    differ a b h = grind (arith, nat_tests)

same_or_not : (a b : ℕ) → (a ≡ b) ⊎ (a ≢ b)
same_or_not a b = grind (arith, nat_tests)

pub get_or-flips_of : (n i least : ℕ) (flips : List Flip) → All (LiesIn n) flips → IsRising least flips
    → get_or (flips_of n flips) i false ≡ list_any (λ flip. at flip == i) flips
unfolding flips_of IsRising
get_or-flips_of n i least [] lie rising = replicate-at (8 * n) false i
get_or-flips_of n i least (flip ∷ flips) lie rising =
    let after : All (LiesIn n) flips = All-tail (LiesIn n) flip flips lie in
    let more = get_or-flips_of n i (at flip + 1) flips after rising.1 in
    let left : ℕ = 8 * n - (at flip + 1) in
    get_or-xors (one_of n flip) (flips_of n flips) i
    (length-one_of n flip (All-head (LiesIn n) flip flips lie) ∙ sym (length-flips_of n flips after))
    ∙ elim (same_or_not (at flip) i) [
      | inl same ↦ (
          let none : list_any (λ flip. at flip == i) flips ≡ false = none_below (at flip + 1) i flips rising.1
          (omega (arith, same)) in
          ap₂ xor (ap (λ i. get_or (one_of n flip) i false) (sym same) ∙ get_or-here (at flip) left) (more ∙ none)
          ∙ rw (eq-eqb (at flip) i same) refl)
      | inr other ↦ ap₂ xor (get_or-elsewhere (at flip) left i other) more ∙ rw (ne_eqb (at flip) i other) refl
    ]
