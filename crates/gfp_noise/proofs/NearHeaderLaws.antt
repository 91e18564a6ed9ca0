-- Four octets that differ from a core header in at most one bit give that header.
use Rattle.std.proofs.Common.{◌≡◌, ℕ, zero, suc, ◌*◌, ◌^◌, ◌<◌, ◌≤◌, ◌⊎◌, Bool, false, List, ◌++◌, length, replicate}
use Rattle.std.proofs.Common.{take, drop, All, Option, Some, None, refl, sym, ◌∙◌, ap, ap₂, subst, inl, inr, arith}
use Rattle.std.proofs.Common.{le_of_eq}
use Rattle.std.proofs.lemmas.List.{length-replicate, length-take, length-drop, take-append-drop}
use Rattle.std.specs.Prelude.{◌↔◌}
use Rattle.law_model.specs.Common.{bits, number, octet_bits, octets_of, xors, core_header, IsPli, pli_of, head, count}
use Rattle.law_model.specs.Common.{IsFixed}
use Rattle.check_remainder.proofs.XorAndBitCountLaws.{length_xors, xors_assoc, xors-self, xors-zeros, xors_twice}
use Rattle.check_remainder.proofs.XorAndBitCountLaws.{xors-append, count-zeros}
use Rattle.check_remainder.proofs.NumberAndOctetBitsLaws.{length-bits, bits-add, bits_low, bits-number}
use Rattle.check_remainder.proofs.NumberAndOctetBitsLaws.{octet_bits-append, length-octet_bits, octets_of-octet_bits}
use Rattle.check_remainder.proofs.NumberAndOctetBitsLaws.{octet_bits-octets_of}
use Rattle.law_model.proofs.CoreHeaderLaws.{length-core_header, core_header_below, head-core_header, core_header-head}
use Rattle.law_model.proofs.CoreHeaderLaws.{IsPli-head}
use Rattle.gfp_model.specs.fcs_model.Flips.{flipped}
use Rattle.gfp_model.specs.fcs_model.NearHeader.{or_else, turned_below, near, IsNear, check_of}
use Rattle.check_hec16.specs.OneWrongBit.{bit_at}
use Rattle.check_hec16.proofs.HecWithOneWrongBitLaws.{at_most_one, length-bit_at, count-bit_at, with_check}
use Rattle.check_hec16.proofs.HecWithOneWrongBitLaws.{length-with_check, none_differ, one_differs, two_differ}
use Rattle.check_hec16.proofs.HecWithOneWrongBitLaws.{length-both}
use Rattle.gfp_noise.proofs.FlipPlaceAndBitLaws.{octet_bits-flipped, flipped-none, flipped_twice}

-- Four octets that differ from a core header in at most one bit give that header: the 32 single errors leave
-- remainders that differ from each other and from 0.
octet_bits-core_header : (pli : ℕ) → octet_bits (core_header pli) ≡ xors (bits 32 0xb6ab31e0) (with_check pli)
unfolding core_header with_check
octet_bits-core_header pli =
    octet_bits-octets_of 4 (xors (bits 32 0xb6ab31e0) (with_check pli))
    (length_xors (bits 32 0xb6ab31e0) (with_check pli) (length-bits 32 0xb6ab31e0 ∙ sym (length-with_check pli))
    ∙ length-with_check pli)

-- ---- two headers that differ by flips
-- their words differ by them
words_differ : (p q : ℕ) (flips : List Bool) → length flips ≡ 32 → core_header q ≡ flipped flips (core_header p)
    → with_check q ≡ xors (with_check p) flips
words_differ p q flips size e =
    let mask = bits 32 0xb6ab31e0 in
    let four : length flips ≡ 8 * length (core_header p) = size ∙ sym (ap (λ n. 8 * n) (length-core_header p)) in
    let same : xors mask (with_check q) ≡ xors mask (xors (with_check p) flips) =
    sym (octet_bits-core_header q) ∙ ap octet_bits e ∙ octet_bits-flipped flips (core_header p) four
    ∙ ap (λ l. xors l flips) (octet_bits-core_header p) ∙ xors_assoc mask (with_check p) flips in
    let long : length (xors (with_check p) flips) ≡ 32 =
    length_xors (with_check p) flips (length-with_check p ∙ sym size) ∙ size in
    sym (xors_twice mask (with_check q) (le_of_eq (length-with_check q ∙ sym (length-bits 32 0xb6ab31e0))))
    ∙ ap (xors mask) same
    ∙ xors_twice mask (xors (with_check p) flips) (le_of_eq (long ∙ sym (length-bits 32 0xb6ab31e0)))

-- ---- what is read
module _ (pli : ℕ) (flips : List Bool) (fits : IsPli pli) (size : length flips ≡ 32) (few : count flips ≤ 1) where
  octets : List ℕ
  octets = flipped flips (core_header pli)

  four : length flips ≡ 8 * length (core_header pli)
  four = size ∙ sym (ap (λ n. 8 * n) (length-core_header pli))

  -- a header that these octets are is that header
  head_right : (q : ℕ) → head octets ≡ Some q → q ≡ pli
  unfolding octets
  head_right q found =
      let differ : with_check q ≡ xors (with_check pli) flips = words_differ pli q flips size
      (core_header-head (flipped flips (core_header pli)) q found) in
      let below : q < 2 ^ 16 = (IsPli-head (flipped flips (core_header pli)) q found).0 in
      elim (at_most_one flips size few) [
        | inl none ↦ none_differ pli q flips fits.0 below none differ
        | inr one ↦ absurd (one_differs pli q one.0 one.1 (differ ∙ ap (xors (with_check pli)) one.2))
      ]

  turned : (k : ℕ) → flipped (bit_at k) octets ≡ flipped (xors flips (bit_at k)) (core_header pli)
  unfolding octets
  turned k = flipped_twice flips (bit_at k) (core_header pli) four

  -- nor do they give another with one bit turned over
  turned_right : (k q : ℕ) → k < 32 → head (flipped (bit_at k) octets) ≡ Some q → q ≡ pli
  turned_right k q h found =
      let e : core_header q ≡ flipped (xors flips (bit_at k)) (core_header pli) = core_header-head
      (flipped (bit_at k) octets) q found ∙ turned k in
      let both : length (xors flips (bit_at k)) ≡ 32 = length_xors flips (bit_at k) (size ∙ sym (length-bit_at k h))
      ∙ length-bit_at k h in
      let differ : with_check q ≡ xors (with_check pli) (xors flips (bit_at k)) = words_differ pli q
      (xors flips (bit_at k)) both e in
      let below : q < 2 ^ 16 = (IsPli-head (flipped (bit_at k) octets) q found).0 in
      elim (at_most_one flips size few) [
        | inl none ↦ absurd (one_differs pli q k h
            (differ ∙ ap (xors (with_check pli)) (ap (λ l. xors l (bit_at k)) none ∙ xors-zeros 32 (bit_at k)
            (le_of_eq (length-bit_at k h)))))
        | inr one ↦ two_differ pli q one.0 k fits.0 below one.1 h
            (differ ∙ ap (λ l. xors (with_check pli) (xors l (bit_at k))) one.2)
      ]

  -- a reading is right
  Right : Option ℕ → Type 0
  Right None = Unit {0}
  Right (Some q) = q ≡ pli

  right_if : (found : Option ℕ) → ((q : ℕ) → found ≡ Some q → q ≡ pli) → Right found
  unfolding Right
  right_if None h = tt
  right_if (Some q) h = h q refl

  -- what is read first is right, and one of the two is found
  or_else_is : (first second : Option ℕ) → Right first → (first ≡ Some pli) ⊎ (second ≡ Some pli) →
      or_else first second ≡ Some pli
  unfolding Right
  or_else_is None second right (inl found) = absurd cc
  or_else_is None second right (inr found) = found
  or_else_is (Some q) second right found = ap (λ q. Some q) right

  below_is : (n k : ℕ) → n ≤ 32 → k < n → head (flipped (bit_at k) octets) ≡ Some pli →
      turned_below n octets ≡ Some pli
  unfolding turned_below
  below_is zero k few h e = absurd (omega arith)
  below_is (suc n) k few h e =
      or_else_is (head (flipped (bit_at n) octets)) (turned_below n octets)
      (right_if (head (flipped (bit_at n) octets)) (λ q found. turned_right n q (omega arith) found))
      (elim (last_or_before n k h) [
        | inl same ↦ inl (ap (λ m. head (flipped (bit_at m) octets)) (sym same) ∙ e)
        | inr before ↦ inr (below_is n k (omega arith) before e)
      ])
    where
      last_or_before : (n k : ℕ) → k < suc n → (k ≡ n) ⊎ (k < n)
      last_or_before n k h = grind arith

  restored : (back : List Bool) → back ≡ replicate 32 false → head (flipped back (core_header pli)) ≡ Some pli
  restored back none =
      ap head (ap (λ l. flipped l (core_header pli)) none ∙ flipped-none 32 (core_header pli) (sym size ∙ four)
      (core_header_below pli))
      ∙ head-core_header pli fits

  pub near-flipped : near (flipped flips (core_header pli)) ≡ Some pli
  unfolding near octets
  near-flipped =
      or_else_is (head octets) (turned_below 32 octets) (right_if (head octets) head_right)
      (elim (at_most_one flips size few) [
        | inl none ↦ inl (restored flips none)
        | inr one ↦ inr (below_is 32 one.0 (omega arith) one.1
            (ap head (turned one.0)
            ∙ restored (xors flips (bit_at one.0))
            (ap (λ l. xors l (bit_at one.0)) one.2 ∙ xors-self (bit_at one.0) ∙ ap (λ n. replicate n false)
            (length-bit_at one.0 one.1))))
      ])

-- ---- what is read is near
either : (first second : Option ℕ) (pli : ℕ) → or_else first second ≡ Some pli
    → (first ≡ Some pli) ⊎ (second ≡ Some pli)
either None second pli e = inr e
either (Some q) second pli e = inl e

module _ (octets : List ℕ) (pli : ℕ) (four : length octets ≡ 4) (below : All (λ o. o < 256) octets) where
  size_of_flips : 32 ≡ 8 * length octets
  size_of_flips = omega (arith, four)

  near_head : head octets ≡ Some pli → IsNear octets pli
  near_head e = record {
    fits = IsPli-head octets pli e;
    flips = replicate 32 false;
    size = length-replicate 32 false;
    few = omega (arith, count-zeros 32);
    is =
        sym (flipped-none 32 (core_header pli) (sym (ap (λ n. 8 * n) (length-core_header pli)))
        (core_header_below pli) ∙ core_header-head octets pli e);
  }

  near_turned : (k : ℕ) → k < 32 → head (flipped (bit_at k) octets) ≡ Some pli → IsNear octets pli
  near_turned k h e =
      let size : length (bit_at k) ≡ 32 = length-bit_at k h in
      let twice : flipped (bit_at k) (flipped (bit_at k) octets) ≡ octets =
      flipped_twice (bit_at k) (bit_at k) octets (size ∙ size_of_flips)
      ∙ ap (λ l. flipped l octets) (xors-self (bit_at k) ∙ ap (λ n. replicate n false) size)
      ∙ flipped-none 32 octets size_of_flips below in
      record {
        fits = IsPli-head (flipped (bit_at k) octets) pli e;
        flips = bit_at k;
        size = size;
        few = omega (arith, count-bit_at k);
        is = sym (ap (flipped (bit_at k)) (core_header-head (flipped (bit_at k) octets) pli e) ∙ twice);
      }

  near_below : (k : ℕ) → k ≤ 32 → turned_below k octets ≡ Some pli → IsNear octets pli
  unfolding turned_below
  near_below zero h e = absurd cc
  near_below (suc k) h e = elim (either (head (flipped (bit_at k) octets)) (turned_below k octets) pli e) [
    | inl found ↦ near_turned k h found
    | inr found ↦ near_below k (omega arith) found
  ]

  near_only : near octets ≡ Some pli → IsNear octets pli
  unfolding near
  near_only e = elim (either (head octets) (turned_below 32 octets) pli e) [
    | inl found ↦ near_head found
    | inr found ↦ near_below 32 (omega arith) found
  ]

  pub near-IsNear : (near octets ≡ Some pli) ↔ IsNear octets pli
  near-IsNear = (near_only, λ (n : IsNear octets pli). ap near n.is ∙ near-flipped pli n.flips n.fits n.size n.few)

-- ---- a header is near exactly where its word is fixed so
module _ (octets : List ℕ) (four : length octets ≡ 4) (below : All (λ o. o < 256) octets) where
  mask : List Bool
  mask = bits 32 0xb6ab31e0

  plain : List Bool
  plain = bits 16 (pli_of octets) ++ bits 16 (check_of octets)

  size_of_all : length (octet_bits octets) ≡ 32
  size_of_all = omega (arith, length-octet_bits octets, four)

  half : (m n : ℕ) (part : List ℕ) → length part ≡ 2 → n ≡ number (xors (bits 16 m) (octet_bits part))
      → bits 16 n ≡ xors (bits 16 m) (octet_bits part)
  half m n part two e =
      let bs : List Bool = xors (bits 16 m) (octet_bits part) in
      let long : length (octet_bits part) ≡ 16 = omega (arith, length-octet_bits part, two) in
      let size : length bs ≡ 16 = length_xors (bits 16 m) (octet_bits part) (length-bits 16 m ∙ sym long) ∙ long in
      ap (bits 16) e ∙ ap (λ k. bits k (number bs)) (sym size) ∙ bits-number bs

  plain_is : plain ≡ xors mask (octet_bits octets)
  unfolding plain mask pli_of check_of
  plain_is =
      let front : List ℕ = take 2 octets in
      let back : List ℕ = drop 2 octets in
      let two : length front ≡ 2 = omega (arith, length-take 2 octets, four) in
      let more : length back ≡ 2 = omega (arith, length-drop 2 octets, four) in
      let halves : bits 32 0xb6ab31e0 ≡ bits 16 0xb6ab ++ bits 16 0x31e0 = bits-add 16 16 0xb6ab31e0
      ∙ ap (λ l. bits 16 0xb6ab ++ l) (bits_low 16 0xb6ab 0x31e0) in
      ap₂ ◌++◌ (half 0xb6ab (pli_of octets) front two refl) (half 0x31e0 (check_of octets) back more refl)
      ∙ sym (xors-append (bits 16 0xb6ab) (octet_bits front) (bits 16 0x31e0) (octet_bits back)
      (length-bits 16 0xb6ab ∙ sym (let e : length (octet_bits front) ≡ 16 = omega
      (arith, length-octet_bits front, two) in e)))
      ∙ ap₂ xors (sym halves) (sym (octet_bits-append front back) ∙ ap octet_bits (take-append-drop 2 octets))

  length-plain : length plain ≡ 32
  unfolding plain
  length-plain = length-both (pli_of octets) (check_of octets)

  length-mask : length mask ≡ 32
  unfolding mask
  length-mask = length-bits 32 0xb6ab31e0

  module _ (pli : ℕ) where
    fixed_near : IsNear octets pli → IsFixed (pli_of octets) (check_of octets) pli
    unfolding plain with_check mask
    fixed_near n =
        let flips : List Bool = n.flips in
        let sent : octet_bits octets ≡ xors (xors mask (with_check pli)) flips =
        ap octet_bits n.is
        ∙ octet_bits-flipped flips (core_header pli) (n.size ∙ sym (ap (λ n. 8 * n) (length-core_header pli)))
        ∙ ap (λ l. xors l flips) (octet_bits-core_header pli) in
        let both : length (xors (with_check pli) flips) ≡ 32 =
        length_xors (with_check pli) flips (length-with_check pli ∙ sym n.size)
        ∙ n.size in
        let same : plain ≡ xors (with_check pli) flips =
        plain_is ∙ ap (xors mask) (sent ∙ xors_assoc mask (with_check pli) flips)
        ∙ xors_twice mask (xors (with_check pli) flips) (le_of_eq (both ∙ sym length-mask)) in
        let difference : xors (with_check pli) plain ≡ flips = ap (xors (with_check pli)) same
        ∙ xors_twice (with_check pli) flips (le_of_eq (n.size ∙ sym (length-with_check pli))) in
        record { fits = n.fits.0; few = subst (λ l. count l ≤ 1) (sym difference) n.few }

    near_fixed : IsPli pli → IsFixed (pli_of octets) (check_of octets) pli → IsNear octets pli
    unfolding plain with_check mask
    near_fixed fits fixed =
        let flips : List Bool = xors (with_check pli) plain in
        let size : length flips ≡ 32 = length_xors (with_check pli) plain (length-with_check pli ∙ sym length-plain)
        ∙ length-plain in
        let all : xors (octet_bits (core_header pli)) flips ≡ octet_bits octets =
        ap (λ l. xors l flips) (octet_bits-core_header pli)
        ∙ xors_assoc mask (with_check pli) flips
        ∙ ap (xors mask) (xors_twice (with_check pli) plain (le_of_eq (length-plain ∙ sym (length-with_check pli)))
        ∙ plain_is)
        ∙ xors_twice mask (octet_bits octets) (le_of_eq (size_of_all ∙ sym length-mask)) in
        record {
          fits = fits;
          flips = flips;
          size = size;
          few = fixed.few;
          is = sym (ap₂ octets_of (length-core_header pli ∙ sym four) all ∙ octets_of-octet_bits octets below);
        }

    pub near-IsFixed : (near octets ≡ Some pli) ↔ (IsPli pli × IsFixed (pli_of octets) (check_of octets) pli)
    near-IsFixed = (
      λ found. (let n = (near-IsNear octets pli four below).0 found in (n.fits, fixed_near n)),
      λ fixed. (near-IsNear octets pli four below).1 (near_fixed fixed.0 fixed.1),
    )
