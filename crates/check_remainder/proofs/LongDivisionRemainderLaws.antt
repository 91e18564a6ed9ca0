-- Long division of bits, its remainder, and a step of it by a table of nibbles.
use Rattle.std.proofs.Common.{◌≡◌, ℕ, zero, suc, ◌+◌, ◌-◌, ◌≤◌, Bool, true, false, List, [], ◌∷◌, ◌++◌, length}
use Rattle.std.proofs.Common.{replicate, refl, sym, ◌∙◌, ap, ap₂, arith, zero-add, suc-add, take, drop, subst}
use Rattle.std.proofs.Common.{append_assoc, ◌*◌, ◌/◌, ◌%◌, ◌^◌, ◌<◌, map, bit_xor, slice_index, get_or, nat_lt}
use Rattle.std.proofs.Common.{ltb-true, add_comm, add-zero}
use Rattle.std.proofs.lemmas.List.{length-replicate, length-append, length-take, length-drop, take-append-drop}
use Rattle.std.proofs.lemmas.List.{replicate-append-replicate, take_at, drop_at, length-map, get_or-map}
use Rattle.check_remainder.specs.Bits.{xor, xors, bits}
use Rattle.check_remainder.specs.Remainder.{add_front, times, divide, IsRemainder, remainder}
use Rattle.check_remainder.proofs.XorAndBitCountLaws.{xor_assoc, xor-self, xors-nil, xors_comm, xors-zeros_right}
use Rattle.check_remainder.proofs.XorAndBitCountLaws.{length_xors, xors_twice, xors-append, xors-zeros, xors_zero}
use Rattle.std.specs.List.{list_all, range_with_len}
use Rattle.std.proofs.lemmas.List.FromFn.{length-map-range_with_len, get_or-map-range_with_len}
use Rattle.std.proofs.lemmas.Nat.{pow_pos, shl-shr, shr_below, xor_lt, mod_below, one_shl, shl_whole, shl_below}
use Rattle.std.proofs.lemmas.List.Sums.{AllPass-from_list_all}
use Rattle.check_remainder.specs.DivisionTable.{IsTable}
use Rattle.check_remainder.proofs.NumberAndOctetBitsLaws.{length-bits, bits-add, bits_low, bits-mod, bits-xor}
use Rattle.check_remainder.proofs.NumberAndOctetBitsLaws.{bits-zero}

-- ---- Long division, step by step: it is linear, and it takes a product to nothing.
-- ---- bits added at the front of a list
pub length-add_front : (front p : List Bool) → length (add_front front p) ≡ length p
unfolding add_front
length-add_front [] p = refl
length-add_front (a ∷ front) [] = refl
length-add_front (a ∷ front) (b ∷ p) = ap suc (length-add_front front p)

pub add_front_twice : (front p : List Bool) → add_front front (add_front front p) ≡ p
unfolding add_front
add_front_twice [] p = refl
add_front_twice (a ∷ front) [] = refl
add_front_twice (a ∷ front) (b ∷ p) =
    ap₂ ◌∷◌ (sym (xor_assoc a a b) ∙ ap (λ z. xor z b) (xor-self a)) (add_front_twice front p)

pub add_front-xors : (front p q : List Bool) → add_front front (xors p q) ≡ xors (add_front front p) q
unfolding add_front xors
add_front-xors [] p q = refl
add_front-xors (a ∷ front) [] q = refl
add_front-xors (a ∷ front) (b ∷ p) [] = refl
add_front-xors (a ∷ front) (b ∷ p) (c ∷ q) = ap₂ ◌∷◌ (sym (xor_assoc a b c)) (add_front-xors front p q)

pub add_front-xors_right : (front p q : List Bool) → add_front front (xors p q) ≡ xors p (add_front front q)
add_front-xors_right front p q =
    ap (add_front front) (xors_comm p q) ∙ add_front-xors front q p ∙ xors_comm (add_front front q) p

-- what is added on both sides is gone
pub add_front_both : (front p q : List Bool) → xors (add_front front p) (add_front front q) ≡ xors p q
add_front_both front p q =
    sym (add_front-xors front p (add_front front q)) ∙ ap (add_front front) (sym (add_front-xors_right front p q))
    ∙ add_front_twice front (xors p q)

pub add_front-append : (front p q : List Bool) → length front ≤ length p →
    add_front front (p ++ q) ≡ add_front front p ++ q
unfolding add_front
add_front-append [] p q h = refl
add_front-append (a ∷ front) [] q h = absurd (omega arith)
add_front-append (a ∷ front) (b ∷ p) q h = ap (λ z. xor a b ∷ z) (add_front-append front p q (omega arith))

-- ---- long division
pub divide-nil : (k : ℕ) (lower : List Bool) → divide k lower [] ≡ []
unfolding divide
divide-nil zero lower = refl
divide-nil (suc k) lower = refl

pub divide-xors : (k : ℕ) (lower p q : List Bool) →
    divide k lower (xors p q) ≡ xors (divide k lower p) (divide k lower q)
unfolding divide xors
divide-xors zero lower p q = refl
divide-xors (suc k) lower [] q = refl
divide-xors (suc k) lower (b ∷ p) [] = sym (xors-nil _)
divide-xors (suc k) lower (true ∷ p) (true ∷ q) =
    ap (divide k lower) (sym (add_front_both lower p q)) ∙ divide-xors k lower (add_front lower p) (add_front lower q)
divide-xors (suc k) lower (true ∷ p) (false ∷ q) =
    ap (divide k lower) (add_front-xors lower p q) ∙ divide-xors k lower (add_front lower p) q
divide-xors (suc k) lower (false ∷ p) (true ∷ q) =
    ap (divide k lower) (add_front-xors_right lower p q) ∙ divide-xors k lower p (add_front lower q)
divide-xors (suc k) lower (false ∷ p) (false ∷ q) = divide-xors k lower p q

pub divide-zeros : (k : ℕ) (lower p : List Bool) → divide k lower (replicate k false ++ p) ≡ p
unfolding divide
divide-zeros zero lower p = refl
divide-zeros (suc k) lower p = divide-zeros k lower p

pub divide-add : (j k : ℕ) (lower p : List Bool) → divide (j + k) lower p ≡ divide k lower (divide j lower p)
unfolding divide
divide-add zero k lower p = rw zero-add refl
divide-add (suc j) k lower [] = divide-nil (suc j + k) lower ∙ sym (divide-nil k lower)
divide-add (suc j) k lower (true ∷ p) = rw suc-add (divide-add j k lower (add_front lower p))
divide-add (suc j) k lower (false ∷ p) = rw suc-add (divide-add j k lower p)

pub length-divide : (k : ℕ) (lower p : List Bool) → length (divide k lower p) ≡ length p - k
unfolding divide
length-divide zero lower p = omega arith
length-divide (suc k) lower [] = omega arith
length-divide (suc k) lower (true ∷ p) = let e = length-divide k lower (add_front lower p) in
    omega (arith, length-add_front lower p)
length-divide (suc k) lower (false ∷ p) = let e = length-divide k lower p in omega arith

-- what stands behind the part that is divided stays
pub divide-append : (k : ℕ) (lower p q : List Bool) → k + length lower ≤ length p →
    divide k lower (p ++ q) ≡ divide k lower p ++ q
unfolding divide
divide-append zero lower p q h = refl
divide-append (suc k) lower [] q h = absurd (omega arith)
divide-append (suc k) lower (true ∷ p) q h =
    let within : k + length lower ≤ length (add_front lower p) = omega (arith, length-add_front lower p) in
    ap (divide k lower) (add_front-append lower p q (omega arith)) ∙ divide-append k lower (add_front lower p) q within
divide-append (suc k) lower (false ∷ p) q h = divide-append k lower p q (omega arith)

-- ---- products
pub length-times : (lower q : List Bool) → length (times lower q) ≡ length q + length lower
unfolding times
length-times lower [] = omega (arith, length-replicate (length lower) false)
length-times lower (true ∷ q) = let e = length-times lower q in
    omega (arith, length-add_front (true ∷ lower) (false ∷ times lower q))
length-times lower (false ∷ q) = let e = length-times lower q in
    omega (arith, length-add_front [] (false ∷ times lower q))

pub divide-times : (lower q : List Bool) → divide (length q) lower (times lower q) ≡ replicate (length lower) false
unfolding divide times add_front
divide-times lower [] = refl
divide-times lower (true ∷ q) = ap (divide (length q) lower) (add_front_twice lower (times lower q))
    ∙ divide-times lower q
divide-times lower (false ∷ q) = divide-times lower q

-- a list is what is left of it, and a product
pub record Divided (k : ℕ) (lower p : List Bool) : Type 0 where
  pub quotient : List Bool
  pub size : length quotient ≡ k
  pub sum : p ≡ xors (replicate k false ++ divide k lower p) (times lower quotient)

pub divided : (k : ℕ) (lower p : List Bool) → length p ≡ k + length lower → Divided k lower p
unfolding divide times add_front xors
divided zero lower p h = record {
  quotient = [];
  size = refl;
  sum =
      sym (xors-zeros_right (length lower) p (omega arith));
}
divided (suc k) lower [] h = absurd (omega arith)
divided (suc k) lower (true ∷ p) h =
    let e : length (add_front lower p) ≡ k + length lower = omega (arith, length-add_front lower p) in
    let d = divided k lower (add_front lower p) e in
    record {
      quotient = true ∷ d.quotient;
      size = ap suc d.size;
      sum = ap (λ z. true ∷ z) (sym (add_front_twice lower p) ∙ ap (add_front lower) d.sum
          ∙ add_front-xors_right lower _ (times lower d.quotient));
    }
divided (suc k) lower (false ∷ p) h =
    let d = divided k lower p (omega arith) in
    record { quotient = false ∷ d.quotient; size = ap suc d.size; sum = ap (λ z. false ∷ z) d.sum }

-- ---- The remainder exists, it is the only one, and it goes on from a part of the word to the next.
pub length-remainder : (lower word : List Bool) → length (remainder lower word) ≡ length lower
length-remainder lower word =
    omega (
      arith,
      length-divide (length word) lower (word ++ replicate (length lower) false),
      length-append word (replicate (length lower) false),
      length-replicate (length lower) false,
    )

pub remainder-nil : (lower : List Bool) → remainder lower [] ≡ replicate (length lower) false
unfolding divide
remainder-nil lower = refl

-- a word with a list of the generator's length behind it is the word with zeros behind it, and that list
pub behind_zeros : (word zeros rest : List Bool) → length zeros ≡ length rest → zeros ≡ replicate (length rest) false →
    word ++ rest ≡ xors (word ++ zeros) (replicate (length word) false ++ rest)
behind_zeros word zeros rest e z =
    sym (xors-append word (replicate (length word) false) zeros rest (sym (length-replicate (length word) false))
    ∙ ap₂ ◌++◌ (xors-zeros_right (length word) word (omega arith))
    (ap (λ l. xors l rest) z ∙ xors-zeros (length rest) rest (omega arith)))

pub IsRemainder-remainder : (lower word : List Bool) → IsRemainder lower word (remainder lower word)
IsRemainder-remainder lower word =
    let zeros = replicate (length lower) false in
    let rest = remainder lower word in
    let size : length rest ≡ length lower = length-remainder lower word in
    let whole : length (word ++ zeros) ≡ length word + length lower =
    omega (arith, length-append word zeros, length-replicate (length lower) false) in
    let d = divided (length word) lower (word ++ zeros) whole in
    let front = replicate (length word) false ++ rest in
    let front_size : length front ≡ length word + length lower =
    omega (arith, length-append (replicate (length word) false) rest, length-replicate (length word) false) in
    let product : length (times lower d.quotient) ≤ length front =
    omega (arith, length-times lower d.quotient, d.size) in
    record {
      size = size;
      quotient = d.quotient;
      product =
          behind_zeros word zeros rest (length-replicate (length lower) false ∙ sym size)
          (ap (λ n. replicate n false) (sym size))
          ∙ xors_comm (word ++ zeros) front ∙ ap (xors front) d.sum ∙ xors_twice front (times lower d.quotient) product;
    }

-- division of a word with any list of the generator's length behind it
pub divide_behind : (lower word rest : List Bool) → length rest ≡ length lower →
    divide (length word) lower (word ++ rest) ≡ xors (remainder lower word) rest
divide_behind lower word rest e =
    ap (divide (length word) lower)
    (behind_zeros word (replicate (length lower) false) rest (length-replicate (length lower) false ∙ sym e)
    (ap (λ n. replicate n false) (sym e)))
    ∙ divide-xors (length word) lower (word ++ replicate (length lower) false) (replicate (length word) false ++ rest)
    ∙ ap (xors (remainder lower word)) (divide-zeros (length word) lower rest)

pub only_remainder : (lower word rest : List Bool) → IsRemainder lower word rest → rest ≡ remainder lower word
only_remainder lower word rest r =
    let same : length r.quotient ≡ length word =
    omega (arith, length-times lower r.quotient, ap length r.product, length-append word rest, r.size) in
    let nothing : divide (length word) lower (word ++ rest) ≡ replicate (length lower) false =
    ap (divide (length word) lower) r.product ∙ ap (λ n. divide n lower (times lower r.quotient)) (sym same)
    ∙ divide-times lower r.quotient in
    sym (xors_zero (remainder lower word) rest (length-remainder lower word ∙ sym r.size)
    (sym (divide_behind lower word rest r.size) ∙ nothing ∙ ap (λ n. replicate n false) (sym r.size)))

-- division over the first part of a word
divide_first : (lower word more : List Bool) →
    divide (length word) lower (word ++ more ++ replicate (length lower) false) ≡ xors
    (remainder lower word ++ replicate (length more) false) (more ++ replicate (length lower) false)
divide_first lower word more =
    let g = length lower in
    let m = length more in
    let zeros : length (replicate (g + m) false) ≡ length (more ++ replicate g false) =
    omega (arith, length-replicate (g + m) false, length-append more (replicate g false), length-replicate g false) in
    let same : replicate (g + m) false ≡ replicate (length (more ++ replicate g false)) false =
    ap (λ n. replicate n false) (sym (length-replicate (g + m) false) ∙ zeros) in
    let long : length word + g ≤ length (word ++ replicate g false) =
    omega (arith, length-append word (replicate g false), length-replicate g false) in
    ap (divide (length word) lower)
    (append_assoc word more (replicate g false)
    ∙ behind_zeros word (replicate (g + m) false) (more ++ replicate g false) zeros same)
    ∙ divide-xors (length word) lower (word ++ replicate (g + m) false)
    (replicate (length word) false ++ (more ++ replicate g false))
    ∙ ap₂ xors
    (ap (divide (length word) lower)
    (ap (λ l. word ++ l) (sym (replicate-append-replicate g m false))
    ∙ sym (append_assoc word (replicate g false) (replicate m false)))
    ∙ divide-append (length word) lower (word ++ replicate g false) (replicate m false) long)
    (divide-zeros (length word) lower (more ++ replicate g false))

-- the remainder of a word with more bits behind it, from that of the word
pub remainder-append : (lower word more : List Bool) → length more ≤ length lower →
    remainder lower (word ++ more) ≡ xors (remainder lower (xors (take (length more) (remainder lower word)) more))
    (drop (length more) (remainder lower word) ++ replicate (length more) false)
remainder-append lower word more h =
    let g = length lower in
    let m = length more in
    let rest = remainder lower word in
    let size : length rest ≡ g = length-remainder lower word in
    let front : length (take m rest) ≡ m = omega (arith, length-take m rest) in
    let top = xors (take m rest) more in
    let top_size : length top ≡ m = length_xors (take m rest) more front in
    let behind = drop m rest ++ replicate m false in
    let behind_size : length behind ≡ g =
    omega (arith, length-append (drop m rest) (replicate m false), length-drop m rest, length-replicate m false)
    in
    let parts : xors (rest ++ replicate m false) (more ++ replicate g false) ≡ top ++ behind =
    ap (λ l. xors l (more ++ replicate g false))
    (ap (λ l. l ++ replicate m false) (sym (take-append-drop m rest))
    ∙ append_assoc (take m rest) (drop m rest) (replicate m false))
    ∙ xors-append (take m rest) more behind (replicate g false) front
    ∙ ap (λ l. top ++ l) (xors-zeros_right g behind (omega arith)) in
    ap (λ n. divide n lower (word ++ more ++ replicate g false)) (length-append word more)
    ∙ divide-add (length word) m lower (word ++ more ++ replicate g false)
    ∙ ap (divide m lower) (divide_first lower word more ∙ parts)
    ∙ ap (λ n. divide n lower (top ++ behind)) (sym top_size)
    ∙ divide_behind lower top behind behind_size

-- the same where the number of bits behind the word is known by another name
pub remainder-append_at : (m : ℕ) (lower word more : List Bool) → length more ≡ m → m ≤ length lower →
    remainder lower (word ++ more) ≡ xors (remainder lower (xors (take m (remainder lower word)) more))
    (drop m (remainder lower word) ++ replicate m false)
remainder-append_at m lower word more e h =
    subst (λ n. n ≤ length lower → remainder lower (word ++ more) ≡ xors
    (remainder lower (xors (take n (remainder lower word)) more))
    (drop n (remainder lower word) ++ replicate n false))
    e (remainder-append lower word more) h

-- ---- One step of division with a table, and a table by its entries.
-- a number's lower bits, with zeros behind them
shifted : (m k n : ℕ) → bits k n ++ replicate m false ≡ bits (m + k) (n % 2 ^ k * 2 ^ m)
shifted m k n =
    sym (ap (λ j. bits j (n % 2 ^ k * 2 ^ m)) (add_comm m k)
    ∙ bits-add k m (n % 2 ^ k * 2 ^ m)
    ∙ ap₂ ◌++◌
    (ap (bits k) (shl-shr (n % 2 ^ k) m) ∙ bits-mod k n)
    (ap (bits m) (sym (add-zero (n % 2 ^ k * 2 ^ m))) ∙ bits_low m (n % 2 ^ k) 0 ∙ bits-zero m))

-- m more bits behind a word: what the register's upper bits and they leave, and its lower bits
pub step : (m k : ℕ) (lower word : List Bool) (register more entry : ℕ) → length lower ≡ m + k →
    bits (m + k) register ≡ remainder lower word →
    bits (m + k) entry ≡ remainder lower (bits m (bit_xor (register / 2 ^ k) more)) →
    bits (m + k) (bit_xor (register % 2 ^ k * 2 ^ m) entry) ≡ remainder lower (word ++ bits m more)
step m k lower word register more entry size stands left =
    let rest = remainder lower word in
    let split : rest ≡ bits m (register / 2 ^ k) ++ bits k register = sym stands ∙ bits-add m k register in
    let front : take m rest ≡ bits m (register / 2 ^ k) =
    ap (take m) split ∙ take_at (bits m (register / 2 ^ k)) (bits k register) m (length-bits m (register / 2 ^ k)) in
    let back : drop m rest ≡ bits k register =
    ap (drop m) split ∙ drop_at (bits m (register / 2 ^ k)) (bits k register) m (length-bits m (register / 2 ^ k)) in
    bits-xor (m + k) (register % 2 ^ k * 2 ^ m) entry
    ∙ xors_comm (bits (m + k) (register % 2 ^ k * 2 ^ m)) (bits (m + k) entry)
    ∙ sym (remainder-append_at m lower word (bits m more) (length-bits m more) (omega arith)
    ∙ ap₂ xors
    (ap (remainder lower) (ap (λ l. xors l (bits m more)) front ∙ sym (bits-xor m (register / 2 ^ k) more)) ∙ sym left)
    (ap (λ l. l ++ replicate m false) back ∙ shifted m k register))

-- a table is right if its entries are, one by one: for a table that is written out, both sides compute
pub IsTable-from_entries : (lower : List Bool) (table : List ℕ) →
    map (bits (length lower)) table ≡ map (λ nibble. remainder lower (bits 4 nibble)) (range_with_len 0 16) →
    IsTable lower table
IsTable-from_entries lower table same =
    let whole : length table ≡ 16 =
    sym (length-map table (bits (length lower))) ∙ ap length same
    ∙ length-map-range_with_len (λ nibble. remainder lower (bits 4 nibble)) 0 16 in
    record {
      entry = λ nibble h.
          let inside : nibble < length table = omega arith in
          sym (get_or-map (bits (length lower)) table nibble 0 [] inside)
          ∙ ap (λ l. get_or l nibble []) same
          ∙ get_or-map-range_with_len (λ n. remainder lower (bits 4 n)) 0 16 nibble nibble [] h (omega arith);
    }

-- ---- what the code computes, for a register of `degree` bits
upper_below : (degree register : ℕ) → 4 ≤ degree → register < 2 ^ degree → register / 2 ^ (degree - 4) < 2 ^ 4
upper_below degree register least h =
    let e : degree ≡ 4 + (degree - 4) = omega arith in
    shr_below register 4 (degree - 4) (subst (λ n. register < 2 ^ n) e h)

pub index_below : (degree register nibble : ℕ) → 4 ≤ degree → register < 2 ^ degree → nibble < 2 ^ 4 →
    bit_xor (register / 2 ^ (degree - 4)) nibble < 16
index_below degree register nibble least h small =
    xor_lt 4 (register / 2 ^ (degree - 4)) nibble (upper_below degree register least h) small

shifted_register : (degree register : ℕ) → 4 ≤ degree → degree ≤ 32 →
    register % (1 * 2 ^ (degree - 4) % 2 ^ 32) * 16 % 2 ^ 32 ≡ register % 2 ^ (degree - 4) * 2 ^ 4
shifted_register degree register least most =
    let below : register % 2 ^ (degree - 4) < 2 ^ (degree - 4) =
    mod_below register (2 ^ (degree - 4)) (pow_pos (degree - 4)) in
    let narrow : degree - 4 < 32 = omega arith in
    ap (λ n. register % n * 16 % 2 ^ 32) (one_shl (degree - 4) 32 narrow)
    ∙ shl_whole (register % 2 ^ (degree - 4)) (degree - 4) 4 32 below (omega arith)

-- what the code computes, with no shift that loses bits
pub computed : (degree register nibble given : ℕ) (table : List ℕ) → 4 ≤ degree → degree ≤ 32 → given ≡ nibble →
    bit_xor (register % (1 * 2 ^ (degree - 4) % 2 ^ 32) * 16 % 2 ^ 32)
    (slice_index table (bit_xor (register / 2 ^ (degree - 4)) given))
    ≡ bit_xor (register % 2 ^ (degree - 4) * 2 ^ 4) (slice_index table (bit_xor (register / 2 ^ (degree - 4)) nibble))
computed degree register nibble given table least most same =
    ap₂ (λ a b. bit_xor a (slice_index table (bit_xor (register / 2 ^ (degree - 4)) b)))
    (shifted_register degree register least most) same

pub result_below : (degree register nibble : ℕ) (table : List ℕ) → 4 ≤ degree → register < 2 ^ degree → nibble < 2 ^ 4 →
    length table ≡ 16 →
    list_all (λ entry. nat_lt entry (2 ^ degree)) table ≡ true →
    bit_xor (register % 2 ^ (degree - 4) * 2 ^ 4) (slice_index table (bit_xor (register / 2 ^ (degree - 4)) nibble)) < 2
    ^ degree
result_below degree register nibble table least h small whole all =
    let index = bit_xor (register / 2 ^ (degree - 4)) nibble in
    let inside : index < length table = omega (arith, index_below degree register nibble least h small, whole) in
    let below : register % 2 ^ (degree - 4) < 2 ^ (degree - 4) =
    mod_below register (2 ^ (degree - 4)) (pow_pos (degree - 4)) in
    let e : degree - 4 + 4 ≡ degree = omega arith in
    xor_lt degree (register % 2 ^ (degree - 4) * 2 ^ 4) (slice_index table index)
    (subst (λ n. register % 2 ^ (degree - 4) * 2 ^ 4 < 2 ^ n) e
    (shl_below (register % 2 ^ (degree - 4)) (degree - 4) 4 below))
    (ltb-true _ _ (AllPass-from_list_all (λ entry. nat_lt entry (2 ^ degree)) table all index 0 inside))

pub nibble_step : (degree : ℕ) (lower word : List Bool) (table : List ℕ) (register nibble : ℕ) → 4 ≤ degree →
    register < 2 ^ degree → nibble < 2 ^ 4 →
    length lower ≡ degree → IsTable lower table → bits degree register ≡ remainder lower word →
    bits degree (bit_xor (register % 2 ^ (degree - 4) * 2 ^ 4)
    (slice_index table (bit_xor (register / 2 ^ (degree - 4)) nibble))) ≡ remainder lower (word ++ bits 4 nibble)
nibble_step degree lower word table register nibble least h small size is_table stands =
    let e : degree ≡ 4 + (degree - 4) = omega arith in
    let index = bit_xor (register / 2 ^ (degree - 4)) nibble in
    let entry = slice_index table index in
    let left : bits degree entry ≡ remainder lower (bits 4 index) =
    ap (λ n. bits n entry) (sym size) ∙ is_table.entry index (index_below degree register nibble least h small) in
    ap (λ n. bits n (bit_xor (register % 2 ^ (degree - 4) * 2 ^ 4) entry)) e
    ∙ step 4 (degree - 4) lower word register nibble entry (size ∙ e) (ap (λ n. bits n register) (sym e) ∙ stands)
    (ap (λ n. bits n entry) (sym e) ∙ left)
