-- The HEC of a word as bits and octet by octet; a word with at most one wrong bit is known by it.
use Rattle.std.proofs.Common.{◌≡◌, ℕ, ◌^◌, ◌<◌, length, sym, ◌∙◌, ap, mod-eq_of_lt, ◌*◌, ◌/◌, ◌%◌, List, [], ◌∷◌, ◌++◌}
use Rattle.std.proofs.Common.{map, bit_xor, get_or, slice_index, w16, refl, arith, append-nil, ◌≢◌, zero, suc, ◌-◌}
use Rattle.std.proofs.Common.{◌≤◌, ◌⊎◌, ◌==◌, ◌&&◌, Bool, true, false, if◌then◌else◌, replicate, take, ap₂, subst, inl}
use Rattle.std.proofs.Common.{inr, le_of_eq}
use Rattle.check_remainder.specs.Bits.{bits, number, octet_bits, number_behind, xors}
use Rattle.check_remainder.proofs.NumberAndOctetBitsLaws.{length-bits, bits-number, number-bits}
use Rattle.check_remainder.proofs.NumberAndOctetBitsLaws.{octet_bits-bytes_high_first, same_from_bits}
use Rattle.check_remainder.proofs.LongDivisionRemainderLaws.{length-remainder, divide-xors, divide-zeros}
use Rattle.check_remainder.proofs.LongDivisionRemainderLaws.{length-divide, divide_behind}
use Rattle.check_hec16.specs.Hec.{crc16, hec_bits, hec_of}
use Rattle.std.specs.List.{range_with_len}
use Rattle.std.proofs.lemmas.List.FromFn.{get_or-map-range_with_len}
use Rattle.std.specs.Int.{to_be_bytes}
use Rattle.check_remainder.specs.Remainder.{remainder, add_front, divide}
use Rattle.std.proofs.lemmas.List.{length-append, length-replicate, take_at}
use Rattle.std.proofs.lemmas.Bool.{and_parts, eqb-true}
use Rattle.check_remainder.specs.BitCount.{count}
use Rattle.check_remainder.proofs.XorAndBitCountLaws.{length_xors, xors-self, xors-zeros, xors-zeros_right, xors_twice}
use Rattle.check_remainder.proofs.XorAndBitCountLaws.{xors_zero, xors_medial, OneAt, count-append, count-zeros}
use Rattle.check_remainder.proofs.XorAndBitCountLaws.{count-true, count_none, count_one, none_or_one}
use Rattle.check_hec16.specs.OneWrongBit.{bit_at, IsFixed}

-- ---- The check as bits and as a number.
pub length-hec_bits : (word : ℕ) → length (hec_bits word) ≡ 16
length-hec_bits word = length-remainder crc16 (bits 16 word) ∙ length-bits 16 0x1021

pub bits-hec_of : (word : ℕ) → bits 16 (hec_of word) ≡ hec_bits word
unfolding hec_of
bits-hec_of word = ap (λ n. bits n (number (hec_bits word))) (sym (length-hec_bits word)) ∙ bits-number (hec_bits word)

-- a word that has the bits of the check is the check
pub hec_of-from_bits : (word check : ℕ) → check < 2 ^ 16 → bits 16 check ≡ hec_bits word → check ≡ hec_of word
unfolding hec_of
hec_of-from_bits word check h e = sym (ap number (sym e) ∙ number-bits 16 check ∙ mod-eq_of_lt h)

-- ---- The check octet by octet, with no table: what an octet leaves is made by shifts.
-- what an octet leaves
abbrev pub folded : ℕ → ℕ
folded o = bit_xor o (o / 16)

abbrev pub left_of : ℕ → ℕ
left_of o = bit_xor (bit_xor (folded o % 16 * 4096) (folded o * 32)) (folded o)

all_octets : map (λ o. bits 16 (left_of o)) (range_with_len 0 256) ≡ map (λ o. remainder crc16 (bits 8 o))
    (range_with_len 0 256)
unfolding bits divide add_front
all_octets = refl

pub left_is : (o : ℕ) → o < 256 → bits 16 (left_of o) ≡ remainder crc16 (bits 8 o)
left_is o h =
    sym (get_or-map-range_with_len (λ n. bits 16 (left_of n)) 0 256 o o [] h (omega arith))
    ∙ ap (λ l. get_or l o []) all_octets
    ∙ get_or-map-range_with_len (λ n. remainder crc16 (bits 8 n)) 0 256 o o [] h (omega arith)

-- the octets of a word have its bits
pub octets_of_word : (octets : List ℕ) (word : ℕ) → octets ≡ to_be_bytes w16 word →
    bits 8 (slice_index octets 0) ++ bits 8 (slice_index octets 1) ≡ bits 16 word
octets_of_word octets word e =
    ap (λ l. bits 8 (slice_index octets 0) ++ l) (sym (append-nil (bits 8 (slice_index octets 1))))
    ∙ ap (λ l. octet_bits (slice_index l 0 ∷ slice_index l 1 ∷ [])) e ∙ octet_bits-bytes_high_first 2 word

pub remainder_of_none : bits 16 0 ≡ remainder crc16 []
unfolding bits divide add_front
remainder_of_none = refl

-- ---- A word with its check behind it: the 32 single errors leave remainders that differ from each other and from 0, so
-- a word with at most one wrong bit among both is that of one word alone.
-- ---- what a list of 32 bits leaves of the generator
left : List Bool → List Bool
left bs = divide 16 crc16 bs

left-xors : (p q : List Bool) → left (xors p q) ≡ xors (left p) (left q)
unfolding left
left-xors p q = divide-xors 16 crc16 p q

-- a table of what each bit leaves
lefts : List ℕ
lefts =
    7064 ∷ 3532 ∷ 1766 ∷ 883 ∷ 35241 ∷ 52420 ∷ 26210 ∷ 13105 ∷ 37256 ∷ 18628 ∷ 9314 ∷ 4657 ∷ 33032 ∷ 16516 ∷ 8258 ∷
    4129 ∷ 32768 ∷ 16384 ∷ 8192 ∷ 4096 ∷ 2048 ∷ 1024 ∷ 512 ∷ 256 ∷ 128 ∷ 64 ∷ 32 ∷ 16 ∷ 8 ∷ 4 ∷ 2 ∷ 1 ∷ []

place_in : List ℕ → ℕ → ℕ
place_in [] n = 0
place_in (m ∷ ms) n = if m == n then 0 else suc (place_in ms n)

unfoldable pub all_below : ℕ → (ℕ → Bool) → Bool
all_below zero f = true
all_below (suc n) f = f n && all_below n f

pub all_below_at : (n : ℕ) (f : ℕ → Bool) (k : ℕ) → all_below n f ≡ true → k < n → f k ≡ true
unfolding all_below
all_below_at zero f k e h = absurd (omega arith)
all_below_at (suc n) f k e h =
    let t = and_parts (f n) (all_below n f) e in
    elim (last_or_before n k h) [
      | inl same ↦ subst (λ m. f m ≡ true)
          (sym same) t.0
      | inr before ↦ all_below_at n f k t.1 before
    ]
  where
    last_or_before : (n k : ℕ) → k < suc n → (k ≡ n) ⊎ (k < n)
    last_or_before n k h = grind arith

place_of : List Bool → ℕ
place_of bs = place_in lefts (number (left bs))

computed : all_below 32 (λ k. place_of (bit_at k) == k) ≡ true
unfolding all_below place_of place_in lefts left bits divide add_front number_behind
computed = refl

past : place_of (replicate 32 false) ≡ 32
unfolding place_of place_in lefts left bits divide add_front number_behind
past = refl

-- two bits that leave the same are the same
same_place : (j k : ℕ) → j < 32 → k < 32 → left (bit_at j) ≡ left (bit_at k) → j ≡ k
unfolding place_of
same_place j k p q e =
    let one : place_of (bit_at j) ≡ j = eqb-true (place_of (bit_at j)) j
    (all_below_at 32 (λ k. place_of (bit_at k) == k) j computed p) in
    let two : place_of (bit_at k) ≡ k = eqb-true (place_of (bit_at k)) k
    (all_below_at 32 (λ k. place_of (bit_at k) == k) k computed q) in
    sym one ∙ ap (λ l. place_in lefts (number l)) e ∙ two

-- one bit leaves something
something_left : (k : ℕ) → k < 32 → left (bit_at k) ≢ left (replicate 32 false)
unfolding place_of
something_left k h e =
    let one : place_of (bit_at k) ≡ k = eqb-true (place_of (bit_at k)) k
    (all_below_at 32 (λ k. place_of (bit_at k) == k) k computed h) in
    let other : k ≡ 32 = sym one ∙ ap (λ l. place_in lefts (number l)) e ∙ past in
    omega arith

-- ---- at most one bit of 32
-- none, or one
pub at_most_one : (flips : List Bool) → length flips ≡ 32 → count flips ≤ 1
    → (flips ≡ replicate 32 false) ⊎ ((k : ℕ) × (k < 32) × (flips ≡ bit_at k))
at_most_one flips size few = elim (none_or_one flips few) [
  | inl none ↦ inl (count_none flips none ∙ ap (λ n. replicate n false) size)
  | inr one ↦ (
      let at : OneAt flips = count_one flips one in
      let behind : at.after ≡ 31 - at.before = omega (arith, at.size, size) in
      inr (
        at.before,
        omega (arith, at.size, size),
        at.bits ∙ ap
            (λ n. replicate at.before false ++ true ∷ replicate n false) behind,
      ))
]

pub length-bit_at : (k : ℕ) → k < 32 → length (bit_at k) ≡ 32
length-bit_at k h =
    omega (
      arith,
      length-append (replicate k false) (true ∷ replicate (31 - k) false),
      length-replicate k false,
      length-replicate (31 - k) false,
    )

pub count-bit_at : (k : ℕ) → count (bit_at k) ≡ 1
count-bit_at k =
    omega (
      arith,
      count-append (replicate k false) (true ∷ replicate (31 - k) false),
      count-true
          (replicate (31 - k) false),
      count-zeros k,
      count-zeros (31 - k),
    )

-- ---- a word with its check leaves nothing
unfoldable pub with_check : ℕ → List Bool
with_check pli = bits 16 pli ++ hec_bits pli

pub length-with_check : (pli : ℕ) → length (with_check pli) ≡ 32
unfolding with_check
length-with_check pli = omega (
  arith,
  length-append (bits 16 pli) (hec_bits pli),
  length-bits 16 pli,
  length-hec_bits pli,
)

left-with_check : (pli : ℕ) → left (with_check pli) ≡ left (replicate 32 false)
unfolding with_check left
left-with_check pli =
    let size : length (hec_bits pli) ≡ length crc16 = length-hec_bits pli ∙ sym (length-bits 16 0x1021) in
    ap (λ n. divide n crc16 (bits 16 pli ++ hec_bits pli)) (sym (length-bits 16 pli))
    ∙ divide_behind crc16 (bits 16 pli) (hec_bits pli) size
    ∙ xors-self (hec_bits pli)
    ∙ ap (λ n. replicate n false) (length-hec_bits pli)
    ∙ sym (divide-zeros 16 crc16 (replicate 16 false))

nothing_twice : xors (left (replicate 32 false)) (left (replicate 32 false)) ≡ left (replicate 32 false)
unfolding left divide xors
nothing_twice = refl

-- so the flips leave nothing
flips_leave : (p q : ℕ) (flips : List Bool) → length flips ≡ 32 → with_check q ≡ xors (with_check p) flips
    → left flips ≡ left (replicate 32 false)
flips_leave p q flips size e =
    let difference : flips ≡ xors (with_check p) (with_check q) =
    sym (xors_twice (with_check p) flips (le_of_eq (size ∙ sym (length-with_check p))))
    ∙ ap (xors (with_check p)) (sym e) in
    ap left difference ∙ left-xors (with_check p) (with_check q) ∙ ap₂ xors (left-with_check p) (left-with_check q)
    ∙ nothing_twice

same_word : (p q : ℕ) → p < 2 ^ 16 → q < 2 ^ 16 → with_check q ≡ with_check p → q ≡ p
unfolding with_check
same_word p q hp hq e =
    same_from_bits 16 q p hq hp
    (sym (take_at (bits 16 q) (hec_bits q) 16 (length-bits 16 q)) ∙ ap (take 16) e ∙ take_at (bits 16 p)
    (hec_bits p) 16 (length-bits 16 p))

-- with no flip
pub none_differ : (p q : ℕ) (flips : List Bool) → p < 2 ^ 16 → q < 2 ^ 16 → flips ≡ replicate 32 false
    → with_check q ≡ xors (with_check p) flips → q ≡ p
none_differ p q flips hp hq none e =
    same_word p q hp hq (e ∙ ap (xors (with_check p)) none
    ∙ xors-zeros_right 32 (with_check p) (le_of_eq (length-with_check p)))

-- one flip makes no header
pub one_differs : (p q k : ℕ) → k < 32 → with_check q ≢ xors (with_check p) (bit_at k)
one_differs p q k h e = something_left k h (flips_leave p q (bit_at k) (length-bit_at k h) e)

zeros_left : left (replicate 32 false) ≡ replicate 16 false
unfolding left divide
zeros_left = refl

length-left : (k : ℕ) → k < 32 → length (left (bit_at k)) ≡ 16
unfolding left
length-left k h = omega (arith, length-divide 16 crc16 (bit_at k), length-bit_at k h)

-- two flips make a header only where they are the same
pub two_differ : (p q j k : ℕ) → p < 2 ^ 16 → q < 2 ^ 16 → j < 32 → k < 32
    → with_check q ≡ xors (with_check p) (xors (bit_at j) (bit_at k)) → q ≡ p
two_differ p q j k hp hq hj hk e =
    let size : length (xors (bit_at j) (bit_at k)) ≡ 32 = length_xors (bit_at j) (bit_at k)
    (length-bit_at j hj ∙ sym (length-bit_at k hk)) ∙ length-bit_at k hk in
    let leave : xors (left (bit_at j)) (left (bit_at k)) ≡ left (replicate 32 false) =
    sym (left-xors (bit_at j) (bit_at k)) ∙ flips_leave p q (xors (bit_at j) (bit_at k)) size e in
    let same : left (bit_at j) ≡ left (bit_at k) =
    xors_zero (left (bit_at j)) (left (bit_at k)) (length-left j hj ∙ sym (length-left k hk))
    (leave ∙ zeros_left ∙ ap (λ n. replicate n false) (sym (length-left k hk))) in
    let at : j ≡ k = same_place j k hj hk same in
    none_differ p q (xors (bit_at j) (bit_at k)) hp hq
    (ap (λ m. xors (bit_at m) (bit_at k)) at ∙ xors-self (bit_at k) ∙ ap (λ n. replicate n false)
    (length-bit_at k hk)) e

-- ---- a word is fixed in one way
pub length-both : (word check : ℕ) → length (bits 16 word ++ bits 16 check) ≡ 32
length-both w check = omega (arith, length-append (bits 16 w) (bits 16 check), length-bits 16 w, length-bits 16 check)

-- two words differ by both their differences from a third
through : (p q : ℕ) (third : List Bool) → length third ≡ 32
    → with_check q ≡ xors (with_check p) (xors (xors (with_check p) third) (xors (with_check q) third))
through p q third size =
    let same : xors (xors (with_check p) third) (xors (with_check q) third) ≡ xors (with_check p) (with_check q) =
    xors_medial (with_check p) third (with_check q) third
    ∙ ap (xors (xors (with_check p) (with_check q))) (xors-self third ∙ ap (λ n. replicate n false) size)
    ∙ xors-zeros_right 32 (xors (with_check p) (with_check q))
    (le_of_eq (length_xors (with_check p) (with_check q) (length-with_check p ∙ sym (length-with_check q))
    ∙ length-with_check q)) in
    sym (ap (xors (with_check p)) same
    ∙ xors_twice (with_check p) (with_check q) (le_of_eq (length-with_check q ∙ sym (length-with_check p))))

within_two : (p q : ℕ) (first second : List Bool) → p < 2 ^ 16 → q < 2 ^ 16 → length first ≡ 32 → length second ≡ 32
    → count first ≤ 1 → count second ≤ 1 →
    with_check q ≡ xors (with_check p) (xors first second) → q ≡ p
within_two p q first second hp hq a b few also e = elim (at_most_one first a few) [
  | inl none ↦ (
      let alone : xors first second ≡ second = ap (λ l. xors l second) none ∙ xors-zeros 32 second (le_of_eq b) in
      elim (at_most_one second b also) [
        | inl other ↦ none_differ p q (xors first second) hp hq (alone ∙ other) e
        | inr one ↦ absurd (one_differs p q one.0 one.1 (e ∙ ap (xors (with_check p)) (alone ∙ one.2)))
      ])
  | inr one ↦ elim (at_most_one second b also) [
    | inl none ↦ absurd (one_differs p q one.0 one.1
        (e ∙ ap (xors (with_check p)) (ap (xors first) none ∙ xors-zeros_right 32 first (le_of_eq a) ∙ one.2)))
    | inr other ↦ two_differ p q one.0 other.0 hp hq one.1 other.1
        (e ∙ ap (xors (with_check p)) (ap₂ xors one.2 other.2))
  ]
]

pub fixed_once : (w check p q : ℕ) → IsFixed w check p → IsFixed w check q → q ≡ p
unfolding with_check
fixed_once w check p q one two =
    let third : List Bool = bits 16 w ++ bits 16 check in
    let size : length third ≡ 32 = length-both w check in
    within_two p q (xors (with_check p) third) (xors (with_check q) third) one.fits two.fits
    (length_xors (with_check p) third (length-with_check p ∙ sym size) ∙ size)
    (length_xors (with_check q) third (length-with_check q ∙ sym size) ∙ size)
    one.few two.few (through p q third size)
