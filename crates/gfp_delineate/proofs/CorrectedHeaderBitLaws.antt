-- Four octets with one bit turned over, and the header that a reader which corrects finds in them.
use Rattle.std.proofs.Common.{◌≡◌, ℕ, suc, ◌+◌, ◌-◌, ◌*◌, ◌/◌, ◌^◌, ◌<◌, Bool, true, false, List, ◌∷◌, ◌++◌, replicate}
use Rattle.std.proofs.Common.{Some, None, bit_xor, refl, sym, ◌∙◌, ap, ap₂, arith, w32, pow-suc, pow_pos}
use Rattle.std.specs.Int.{to_be_bytes}
use Rattle.std.proofs.Math.Nat.{div-eq_of_lt, div_self}
use Rattle.law_model.specs.Common.{bits, octets_of, xors, head}
use Rattle.check_remainder.proofs.NumberAndOctetBitsLaws.{bits-add, bits_low, bits-xor, bits-zero}
use Rattle.check_remainder.proofs.NumberAndOctetBitsLaws.{octets_of-octet_bits}
use Rattle.check_remainder.proofs.NumberAndOctetBitsLaws.{octet_bits-bytes_high_first, bytes_high_first_below}
use Rattle.gfp_model.specs.fcs_model.Flips.{flipped}
use Rattle.gfp_model.specs.fcs_model.NearHeader.{or_else, turned_below, near}
use Rattle.gfp_delineate.specs.ReceivedAreas.{reader}

-- ---- Four octets with one bit turned over, and the header that such a turn gives.
-- one bit among others, from the first one
abbrev pub one_bit : ℕ → ℕ → List Bool
one_bit before after = replicate before false ++ true ∷ replicate after false

-- a power of two has one
half : (n : ℕ) → 2 ^ n < 2 ^ suc n
half n = omega (arith, pow-suc 2 n, pow_pos n)

last_bits : (after : ℕ) → bits (suc after) (2 ^ after) ≡ true ∷ replicate after false
unfolding bits
last_bits after =
    let one : 2 ^ after / 2 ^ after ≡ 1 = div_self (pow_pos after) in
    let whole : 2 ^ after ≡ 1 * 2 ^ after + 0 = omega arith in
    ap (λ n. bits n (2 ^ after)) (let e : suc after ≡ 1 + after = omega arith in e)
    ∙ bits-add 1 after (2 ^ after)
    ∙ ap₂ ◌++◌ (ap (bits 1) one) (ap (bits after) whole ∙ bits_low after 1 0 ∙ bits-zero after)

bits-power : (before after : ℕ) → bits (before + suc after) (2 ^ after) ≡ one_bit before after
bits-power before after =
    bits-add before (suc after) (2 ^ after)
    ∙ ap₂ ◌++◌ (ap (bits before) (div-eq_of_lt (half after)) ∙ bits-zero before) (last_bits after)

-- the octets of a word with a bit turned over
pub turned-word : (octets : List ℕ) (word place : ℕ) → to_be_bytes w32 word ≡ octets → place < 32 →
    to_be_bytes w32 (bit_xor word (2 ^ place)) ≡ flipped (one_bit (31 - place) place) octets
turned-word octets word place is h =
    let turned : ℕ = bit_xor word (2 ^ place) in
    let bit : bits 32 (2 ^ place) ≡ one_bit (31 - place) place =
    ap (λ n. bits n (2 ^ place)) (let e : 32 ≡ (31 - place) + suc place = omega (arith, h) in e)
    ∙ bits-power (31 - place) place in
    sym (octets_of-octet_bits (to_be_bytes w32 turned) (bytes_high_first_below 4 turned))
    ∙ ap (octets_of 4)
    (octet_bits-bytes_high_first 4 turned ∙ bits-xor 32 word (2 ^ place)
    ∙ ap₂ xors (sym (octet_bits-bytes_high_first 4 word)) bit)
    ∙ ap (flipped (one_bit (31 - place) place)) is

-- ---- the search for a turn that gives a header
module _ (octets turned : List ℕ) (place : ℕ) (h : place < 32)
    (is : turned ≡ flipped (one_bit (31 - place) place) octets) where
  turn : head (flipped (one_bit (31 - place) (31 - (31 - place))) octets) ≡ head turned
  turn = ap (λ n. head (flipped (one_bit (31 - place) n) octets))
      (let e : 31 - (31 - place) ≡ place = omega (arith, h) in e)
      ∙ ap head (sym is)

  next : turned_below (32 - place) octets ≡ or_else (head turned) (turned_below (31 - place) octets)
  unfolding turned_below
  next = ap (λ n. turned_below n octets) (let e : 32 - place ≡ suc (31 - place) = omega (arith, h) in e)
      ∙ ap (λ found. or_else found (turned_below (31 - place) octets)) turn

  -- it gives none
  pub turned-none : head turned ≡ None → turned_below (32 - place) octets ≡ turned_below (32 - (place + 1)) octets
  turned-none none = next ∙ ap (λ found. or_else found (turned_below (31 - place) octets)) none
      ∙ ap (λ n. turned_below n octets) (let e : 31 - place ≡ 32 - (place + 1) = omega (arith, h) in e)

  -- it gives one
  pub turned-some : (pli : ℕ) → head turned ≡ Some pli → turned_below (32 - place) octets ≡ Some pli
  turned-some pli found = next ∙ ap (λ found. or_else found (turned_below (31 - place) octets)) found

-- no turn is needed
pub near-head : (octets : List ℕ) (pli : ℕ) → head octets ≡ Some pli → near octets ≡ Some pli
unfolding near
near-head octets pli found = ap (λ front. or_else front (turned_below 32 octets)) found

-- one is
pub near-turned : (octets : List ℕ) → head octets ≡ None → near octets ≡ turned_below 32 octets
unfolding near
near-turned octets none = ap (λ front. or_else front (turned_below 32 octets)) none

pub turned-end : (octets : List ℕ) → turned_below 0 octets ≡ None
unfolding turned_below
turned-end octets = refl

-- ---- The readers of headers.
-- one that corrects reads what is a header as it is
pub reader-head : (corrects : Bool) (octets : List ℕ) (pli : ℕ) → head octets ≡ Some pli →
    reader corrects octets ≡ Some pli
reader-head false octets pli found = found
reader-head true octets pli found = near-head octets pli found
