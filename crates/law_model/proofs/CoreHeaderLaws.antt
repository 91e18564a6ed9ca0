-- A core header: it and its PLI determine each other, as one word of 32 bits, and those of idle frames.
use Rattle.std.proofs.Common.{◌≡◌, ℕ, ◌^◌, ◌<◌, ◌≤◌, ◌⊎◌, ◌&&◌, Bool, true, false, List, ◌++◌, length, take, All, Some}
use Rattle.std.proofs.Common.{None, if◌then◌else◌, refl, sym, ◌∙◌, ap, ap₂, subst, arith, mod-eq_of_lt, lt_of_lt_of_le}
use Rattle.std.proofs.Common.{le_of_eq, pow_mono, bytes_eq, take_at, ◌≢◌, ◌+◌, ◌*◌, ◌/◌, ◌%◌, drop, Option, bit_xor}
use Rattle.std.proofs.Common.{w32, zero, suc, [], ◌∷◌, replicate, append_assoc, flat_map, append-nil}
use Rattle.std.proofs.lemmas.Bool.Decides.{nat_tests}
use Rattle.std.proofs.lemmas.Slice.Eq.{bytes_eq-Decides}
use Rattle.law_model.specs.Common.{bits, number, octet_bits, octets_of, xors, hec_bits, core_header, IsPli, is_pli}
use Rattle.law_model.specs.Common.{pli_of, head, hec_of, number_behind, add_front, divide, with_header}
use Rattle.check_remainder.proofs.XorAndBitCountLaws.{length-xors, length_xors, xors-append, xors_twice, xors_comm}
use Rattle.check_remainder.proofs.NumberAndOctetBitsLaws.{length-bits, bits-add, bits_low, number-bits, number_below}
use Rattle.check_remainder.proofs.NumberAndOctetBitsLaws.{bits-xor, same_from_bits, length-octets_of, octets_of_below}
use Rattle.check_remainder.proofs.NumberAndOctetBitsLaws.{octet_bits-octets_of, octets_of-append, octets_of-octet_bits}
use Rattle.check_remainder.proofs.NumberAndOctetBitsLaws.{octet_bits-bytes_high_first, bytes_high_first_below}
use Rattle.std.specs.Int.{to_be_bytes}
use Rattle.std.specs.Int.Bits.{xor_assoc, xor_self, xor_zero_r}
use Rattle.std.proofs.lemmas.List.{length-append, drop_at}
use Rattle.std.proofs.lemmas.Nat.{shr_high, shr_split, xor_lt}
use Rattle.check_hec16.proofs.HecWithOneWrongBitLaws.{length-hec_bits, bits-hec_of, hec_of-from_bits}

-- ---- A core header and its PLI determine each other.
pub length-core_header : (pli : ℕ) → length (core_header pli) ≡ 4
unfolding core_header
length-core_header pli = length-octets_of 4 _

-- each is an octet
pub core_header_below : (pli : ℕ) → All (λ o. o < 256) (core_header pli)
unfolding core_header
core_header_below pli = octets_of_below 4 _

-- the first two octets have the PLI, and the other two its check
pub core_header_parts : (pli : ℕ) →
    core_header pli ≡ octets_of 2 (xors (bits 16 0xb6ab) (bits 16 pli)) ++ octets_of 2
    (xors (bits 16 0x31e0) (hec_bits pli))
unfolding core_header
core_header_parts pli =
    let mask : bits 32 0xb6ab31e0 ≡ bits 16 0xb6ab ++ bits 16 0x31e0 =
    bits-add 16 16 0xb6ab31e0 ∙ ap (λ l. bits 16 0xb6ab ++ l) (bits_low 16 0xb6ab 0x31e0) in
    let same : length (bits 16 0xb6ab) ≡ length (bits 16 pli) = length-bits 16 0xb6ab ∙ sym (length-bits 16 pli) in
    let size : length (xors (bits 16 0xb6ab) (bits 16 pli)) ≡ 16 = length_xors (bits 16 0xb6ab) (bits 16 pli) same
    ∙ length-bits 16 pli in
    ap (octets_of 4)
    (ap (λ l. xors l (bits 16 pli ++ hec_bits pli)) mask
    ∙ xors-append (bits 16 0xb6ab) (bits 16 pli) (bits 16 0x31e0) (hec_bits pli) same)
    ∙ octets_of-append 2 2 (xors (bits 16 0xb6ab) (bits 16 pli)) (xors (bits 16 0x31e0) (hec_bits pli)) size

pub pli_of-core_header : (pli : ℕ) → pli < 2 ^ 16 → pli_of (core_header pli) ≡ pli
unfolding pli_of
pli_of-core_header pli h =
    let front = xors (bits 16 0xb6ab) (bits 16 pli) in
    let same : length (bits 16 0xb6ab) ≡ length (bits 16 pli) = length-bits 16 0xb6ab ∙ sym (length-bits 16 pli) in
    let size : length front ≡ 16 = length_xors (bits 16 0xb6ab) (bits 16 pli) same ∙ length-bits 16 pli in
    let two : take 2 (core_header pli) ≡ octets_of 2 front =
    ap (take 2) (core_header_parts pli)
    ∙ take_at (octets_of 2 front) (octets_of 2 (xors (bits 16 0x31e0) (hec_bits pli))) 2
    (length-octets_of 2 front) in
    ap number
    (ap (xors (bits 16 0xb6ab)) (ap octet_bits two ∙ octet_bits-octets_of 2 front size)
    ∙ xors_twice (bits 16 0xb6ab) (bits 16 pli) (le_of_eq (sym same)))
    ∙ number-bits 16 pli ∙ mod-eq_of_lt h

pub pli_of_below : (octets : List ℕ) → pli_of octets < 2 ^ 16
unfolding pli_of
pli_of_below octets =
    let bs = xors (bits 16 0xb6ab) (octet_bits (take 2 octets)) in
    let short : length bs ≤ 16 = omega
    (arith, length-xors (bits 16 0xb6ab) (octet_bits (take 2 octets)), length-bits 16 0xb6ab) in
    lt_of_lt_of_le (number_below bs) (pow_mono short)

-- what a PLI may be, as a test
is_pli-true : (pli : ℕ) → (pli ≡ 0) ⊎ (4 ≤ pli) → is_pli pli ≡ true
is_pli-true pli h = grind (arith, nat_tests)

is_pli_tells : (pli : ℕ) → is_pli pli ≡ true → (pli ≡ 0) ⊎ (4 ≤ pli)
is_pli_tells pli h = grind (arith, nat_tests)

some_if : (a b : Bool) (n pli : ℕ) → (if a && b then Some n else None) ≡ Some pli → (a ≡ true) × (b ≡ true) × (n ≡ pli)
some_if true true n pli e = (refl, refl, cc)
some_if true false n pli e = absurd cc
some_if false b n pli e = absurd cc

bytes_eq-self : (octets : List ℕ) → bytes_eq octets octets ≡ true
bytes_eq-self octets = (bytes_eq-Decides octets octets).1 refl

-- what is known of octets that have a PLI
headed : (octets : List ℕ) (pli : ℕ) → head octets ≡ Some pli → (bytes_eq (core_header (pli_of octets)) octets ≡ true) ×
    (is_pli (pli_of octets) ≡ true) × (pli_of octets ≡ pli)
unfolding head
headed octets pli h = some_if (bytes_eq (core_header (pli_of octets)) octets) (is_pli (pli_of octets))
    (pli_of octets) pli h

pub head-core_header : (pli : ℕ) → IsPli pli → head (core_header pli) ≡ Some pli
unfolding head
head-core_header pli h =
    ap (λ n. if bytes_eq (core_header n) (core_header pli) && is_pli n then Some n else None)
    (pli_of-core_header pli h.0)
    ∙ ap₂ (λ a b. if a && b then Some pli else None) (bytes_eq-self (core_header pli)) (is_pli-true pli h.1)

pub core_header-head : (octets : List ℕ) (pli : ℕ) → head octets ≡ Some pli → core_header pli ≡ octets
core_header-head octets pli h =
    let t = headed octets pli h in
    ap core_header (sym t.2) ∙ (bytes_eq-Decides (core_header (pli_of octets)) octets).0 t.0

pub IsPli-head : (octets : List ℕ) (pli : ℕ) → head octets ≡ Some pli → IsPli pli
IsPli-head octets pli h =
    let t = headed octets pli h in
    subst IsPli t.2 (pli_of_below octets, is_pli_tells (pli_of octets) t.1)

-- ---- A core header as one word of 32 bits, as it is written and read: its PLI above its check, under the mask.
-- the octets of a word of two halves, under a mask
masked : (mask upper lower : ℕ) → lower < 2 ^ 16 →
    to_be_bytes w32 (bit_xor (upper * 2 ^ 16 + lower) mask) ≡ octets_of 4
    (xors (bits 32 mask) (bits 16 upper ++ bits 16 lower))
masked mask upper lower h =
    let word = bit_xor (upper * 2 ^ 16 + lower) mask in
    sym (octets_of-octet_bits (to_be_bytes w32 word) (bytes_high_first_below 4 word))
    ∙ ap (octets_of 4)
    (octet_bits-bytes_high_first 4 word
    ∙ bits-xor 32 (upper * 2 ^ 16 + lower) mask
    ∙ xors_comm (bits 32 (upper * 2 ^ 16 + lower)) (bits 32 mask)
    ∙ ap (xors (bits 32 mask))
    (bits-add 16 16 (upper * 2 ^ 16 + lower)
    ∙ ap₂ ◌++◌ (ap (bits 16) (shr_high upper 16 lower h)) (bits_low 16 upper lower)))

-- what is written
pub written : (pli check : ℕ) → check < 2 ^ 16 → check ≡ hec_of pli →
    to_be_bytes w32 (bit_xor (pli * 2 ^ 16 + check) 0xb6ab31e0) ≡ core_header pli
unfolding core_header
written pli check small right =
    masked 0xb6ab31e0 pli check small
    ∙ ap (λ l. octets_of 4 (xors (bits 32 0xb6ab31e0) (bits 16 pli ++ l))) (ap (bits 16) right ∙ bits-hec_of pli)

length_of_halves : (front back : List Bool) → length front ≡ 16 → length back ≡ 16 → length (front ++ back) ≡ 32
length_of_halves front back f b = omega (arith, length-append front back)

-- two halves under a mask are those of their octets
halves_only : (mask : ℕ) (a b c d : List Bool) → length a ≡ 16 → length b ≡ 16 → length c ≡ 16 → length d ≡ 16 →
    octets_of 4 (xors (bits 32 mask) (a ++ b)) ≡ octets_of 4 (xors (bits 32 mask) (c ++ d)) → (a ≡ c) × (b ≡ d)
halves_only mask a b c d la lb lc ld e =
    let l : length (bits 32 mask) ≡ 32 = length-bits 32 mask in
    let one = length_of_halves a b la lb in
    let two = length_of_halves c d lc ld in
    let front : length (xors (bits 32 mask) (a ++ b)) ≡ 8 * 4 = length_xors (bits 32 mask) (a ++ b) (l ∙ sym one)
    ∙ one in
    let back : length (xors (bits 32 mask) (c ++ d)) ≡ 8 * 4 = length_xors (bits 32 mask) (c ++ d) (l ∙ sym two)
    ∙ two in
    let same : xors (bits 32 mask) (a ++ b) ≡ xors (bits 32 mask) (c ++ d) =
    sym (octet_bits-octets_of 4 (xors (bits 32 mask) (a ++ b)) front) ∙ ap octet_bits e
    ∙ octet_bits-octets_of 4 (xors (bits 32 mask) (c ++ d)) back in
    let all : a ++ b ≡ c ++ d =
    sym (xors_twice (bits 32 mask) (a ++ b) (omega arith)) ∙ ap (xors (bits 32 mask)) same
    ∙ xors_twice (bits 32 mask) (c ++ d) (omega arith) in (
      sym (take_at a b 16 la) ∙ ap (take 16) all ∙ take_at c d 16 lc,
      sym (drop_at a b 16 la) ∙ ap (drop 16) all ∙ drop_at c d 16 lc,
    )

-- what is read, where the octets are those of this word
module _ (octets : List ℕ) (word : ℕ) (is : to_be_bytes w32 word ≡ octets) (below : word < 2 ^ 32) where
  abbrev pub plain : ℕ
  plain = bit_xor word 0xb6ab31e0

  pub halves : octets ≡ octets_of 4 (xors (bits 32 0xb6ab31e0) (bits 16 (plain / 2 ^ 16) ++ bits 16 (plain % 2 ^ 16)))
  halves =
      sym is
      ∙ ap (to_be_bytes w32)
      (sym (xor_zero_r word) ∙ ap (bit_xor word) (sym (xor_self 0xb6ab31e0))
      ∙ sym (xor_assoc word 0xb6ab31e0 0xb6ab31e0)
      ∙ ap (λ n. bit_xor n 0xb6ab31e0) (sym (shr_split plain 16)))
      ∙ masked 0xb6ab31e0 (plain / 2 ^ 16) (plain % 2 ^ 16) (omega arith)

  -- with the right check they are a header
  pub header_read : plain % 2 ^ 16 ≡ hec_of (plain / 2 ^ 16) → core_header (plain / 2 ^ 16) ≡ octets
  unfolding core_header
  header_read right =
      ap (λ l. octets_of 4 (xors (bits 32 0xb6ab31e0) (bits 16 (plain / 2 ^ 16) ++ l)))
      (sym (ap (bits 16) right ∙ bits-hec_of (plain / 2 ^ 16)))
      ∙ sym halves

  -- and they are no other one
  pub no_other : (IsPli (plain / 2 ^ 16) → plain % 2 ^ 16 ≢ hec_of (plain / 2 ^ 16)) → (pli : ℕ) → IsPli pli →
      core_header pli ≢ octets
  unfolding core_header
  no_other wrong pli within e =
      let all : plain < 2 ^ 32 = xor_lt 32 word 0xb6ab31e0 below (omega arith) in
      let small : plain / 2 ^ 16 < 2 ^ 16 = omega arith in
      let both = halves_only 0xb6ab31e0 (bits 16 pli) (hec_bits pli) (bits 16 (plain / 2 ^ 16))
      (bits 16 (plain % 2 ^ 16))
      (length-bits 16 pli) (length-hec_bits pli) (length-bits 16 (plain / 2 ^ 16)) (length-bits 16 (plain % 2 ^ 16))
      (e ∙ halves) in
      let same : pli ≡ plain / 2 ^ 16 = same_from_bits 16 pli (plain / 2 ^ 16) within.0 small both.0 in
      wrong (subst IsPli same within)
      (hec_of-from_bits (plain / 2 ^ 16) (plain % 2 ^ 16) (omega arith) (sym both.1 ∙ ap hec_bits same))

no_head_at : (octets : List ℕ) → ((pli : ℕ) → IsPli pli → core_header pli ≢ octets) → (found : Option ℕ) →
    head octets ≡ found → found ≡ None
no_head_at octets h None e = refl
no_head_at octets h (Some pli) e = absurd (h pli (IsPli-head octets pli e) (core_header-head octets pli e))

-- where no header is these octets, they have no PLI
pub no_head : (octets : List ℕ) → ((pli : ℕ) → IsPli pli → core_header pli ≢ octets) → head octets ≡ None
no_head octets h = no_head_at octets h (head octets) refl

-- ---- Headers of idle frames, one after another.
-- the core header of an idle frame, as it is sent
abbrev pub idle_header : List ℕ
idle_header = 0xb6 ∷ 0xab ∷ 0x31 ∷ 0xe0 ∷ []

pub core_header-idle : core_header 0 ≡ idle_header
unfolding core_header octets_of xors bits divide add_front number_behind
core_header-idle = refl

with_header-idle : with_header [] ≡ idle_header
with_header-idle = append-nil (core_header 0) ∙ core_header-idle

-- a number of idle frames
abbrev pub idles : ℕ → List ℕ
idles n = flat_map with_header (replicate n [])

-- one more in front, and one more at the end
pub idles-suc : (n : ℕ) → idles (suc n) ≡ idle_header ++ idles n
idles-suc n = ap (λ l. l ++ idles n) with_header-idle

pub idles-more : (n : ℕ) → idles (n + 1) ≡ idles n ++ idle_header
idles-more zero = idles-suc 0 ∙ append-nil idle_header
idles-more (suc n) =
    let e : suc n + 1 ≡ suc (n + 1) = omega arith in
    ap idles e ∙ idles-suc (n + 1) ∙ ap (λ l. idle_header ++ l) (idles-more n)
    ∙ sym (append_assoc idle_header (idles n) idle_header) ∙ ap (λ l. l ++ idle_header) (sym (idles-suc n))
