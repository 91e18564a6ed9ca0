-- The group bits of a register of fifteen bits, and the statuses of a return packet that are kept for a group.
use Rattle.std.proofs.Common.{◌≡◌, ℕ, zero, suc, ◌+◌, ◌-◌, ◌*◌, ◌/◌, ◌%◌, ◌^◌, ◌<◌, ◌≤◌, ◌==◌, nat_lt, Bool, true}
use Rattle.std.proofs.Common.{false, List, [], ◌∷◌, ◌++◌, length, map, drop, slice_index_or, bit_xor, refl, sym, ◌∙◌}
use Rattle.std.proofs.Common.{ap, ap₂, arith, not, if◌then◌else◌, take, Option, Some, slice_get, length-take}
use Rattle.std.proofs.Common.{length-drop, take-append-drop, eq-eqb, ne_eqb}
use Rattle.std.specs.List.{range_with_len}
use Rattle.std.proofs.lemmas.Bool.Decides.{nat_tests}
use Rattle.std.proofs.Math.Seq.{get_or-append_seam}
use Rattle.std.proofs.lemmas.List.{length-append, get_or_append_left, length-map, drop_all}
use Rattle.std.proofs.lemmas.List.FromFn.{map-range_with_len_more}
use Rattle.law_model.specs.Common.{bits, xor, next_bit, group_bits, group_bit, bits_from, keep, oks_in}
use Rattle.check_remainder.proofs.NumberAndOctetBitsLaws.{bits-add, bits-mod, length-bits}

-- ---- The bits of a group as a register of fifteen bits gives them.
-- ---- the register
bits-first : (k n : ℕ) → bits (1 + k) n ≡ (n / 2 ^ k % 2 == 1) ∷ bits k n
unfolding bits
bits-first k n = bits-add 1 k n

bits-last : (k n b : ℕ) → b < 2 → bits (suc k) (n * 2 + b) ≡ bits k n ++ (b == 1) ∷ []
unfolding bits
bits-last k n b small =
    let half : (n * 2 + b) / 2 ≡ n = omega arith in
    let odd : (n * 2 + b) % 2 ≡ b = omega arith in
    rw (half, odd) refl

-- shifted by one place, with a new last bit
bits-shifted : (register b : ℕ) → b < 2 →
    bits 15 (register % 2 ^ 14 * 2 + b) ≡ drop 1 (bits 15 register) ++ (b == 1) ∷ []
bits-shifted register b small =
    bits-last 14 (register % 2 ^ 14) b small
    ∙ ap (λ front. front ++ (b == 1) ∷ []) (bits-mod 14 register ∙ ap (drop 1) (sym (bits-first 14 register)))

pub bit_0 : (register : ℕ) → slice_index_or (bits 15 register) 0 false ≡ (register / 16384 % 2 == 1)
bit_0 register = ap (λ l. slice_index_or l 0 false) (bits-first 14 register)

bit_1 : (register : ℕ) → slice_index_or (bits 15 register) 1 false ≡ (register / 8192 % 2 == 1)
bit_1 register = ap (λ l. slice_index_or l 1 false)
    (bits-first 14 register ∙ ap (λ rest. (register / 2 ^ 14 % 2 == 1) ∷ rest) (bits-first 13 register))

xor_bits : (a b : ℕ) → a < 2 → b < 2 → (bit_xor a b < 2) × ((bit_xor a b == 1) ≡ xor (a == 1) (b == 1))
xor_bits zero zero p q = (omega arith, refl)
xor_bits zero (suc zero) p q = (omega arith, refl)
xor_bits (suc zero) zero p q = (omega arith, refl)
xor_bits (suc zero) (suc zero) p q = (omega arith, refl)
xor_bits (suc (suc a)) b p q = absurd (omega arith)
xor_bits a (suc (suc b)) p q = absurd (omega arith)

pub bits-advanced : (register : ℕ) → register < 2 ^ 15 →
    bits 15 (register % 2 ^ 14 * 2 + bit_xor (register / 16384) (register / 8192 % 2))
    ≡ drop 1 (bits 15 register) ++ xor (slice_index_or (bits 15 register) 0 false)
    (slice_index_or (bits 15 register) 1 false) ∷ []
bits-advanced register below =
    let both = xor_bits (register / 16384) (register / 8192 % 2) (omega arith) (omega arith) in
    let whole : register / 16384 ≡ register / 16384 % 2 = omega arith in
    bits-shifted register _ both.0
    ∙ ap (λ last. drop 1 (bits 15 register) ++ last ∷ [])
    (both.1 ∙ ap₂ xor (ap (λ bit. bit == 1) whole ∙ sym (bit_0 register)) (sym (bit_1 register)))

-- ---- the sequence
bits-size : (n : ℕ) → length (group_bits n) ≡ n
unfolding group_bits
bits-size zero = refl
bits-size (suc n) =
    let rest = bits-size n in
    let size = length-append (group_bits n) (next_bit (group_bits n) ∷ []) in
    omega arith

bits-step : (n : ℕ) → group_bits (suc n) ≡ group_bits n ++ group_bit n ∷ []
unfolding group_bits group_bit
bits-step n = refl

-- a bit stands at its place among those of more packets
bits-at : (more n : ℕ) → slice_index_or (group_bits (more + suc n)) n false ≡ group_bit n
bits-at zero n =
    let e : 0 + suc n ≡ suc n = omega arith in
    let size = bits-size n in
    rw e (ap (λ l. slice_index_or l n false) (bits-step n)
    ∙ ap (λ i. slice_index_or (group_bits n ++ group_bit n ∷ []) i false) (sym size)
    ∙ get_or-append_seam (group_bits n) (group_bit n) [] false)
bits-at (suc more) n =
    let e : suc more + suc n ≡ suc (more + suc n) = omega arith in
    let size = bits-size (more + suc n) in
    rw e (ap (λ l. slice_index_or l n false) (bits-step (more + suc n))
    ∙ get_or_append_left (group_bits (more + suc n)) (group_bit (more + suc n) ∷ []) false n (omega arith)
    ∙ bits-at more n)

pub bits-early : (n : ℕ) → n < 15 → group_bit n ≡ true
unfolding group_bit
bits-early n h =
    let size = bits-size n in
    let test : nat_lt (length (group_bits n)) 15 ≡ true = grind (arith, nat_tests) in
    rw test refl

group_bit-next : (n : ℕ) → group_bit n ≡ next_bit (group_bits n)
unfolding group_bit
group_bit-next n = refl

next_bit-later : (before : List Bool) → 15 ≤ length before →
    next_bit before ≡ xor (slice_index_or before (length before - 15) false)
    (slice_index_or before (length before - 14) false)
next_bit-later before h = let test : nat_lt (length before) 15 ≡ false = grind (arith, nat_tests) in rw test refl

pub bits-later : (n : ℕ) → group_bit (n + 15) ≡ xor (group_bit n) (group_bit (n + 1))
bits-later n =
    let size = bits-size (n + 15) in
    let first : length (group_bits (n + 15)) - 15 ≡ n = omega arith in
    let second : length (group_bits (n + 15)) - 14 ≡ n + 1 = omega arith in
    let as_first : n + 15 ≡ 14 + suc n = omega arith in
    let as_second : n + 15 ≡ 13 + suc (n + 1) = omega arith in
    group_bit-next (n + 15) ∙ next_bit-later (group_bits (n + 15)) (omega arith)
    ∙ ap₂ (λ i j. xor (slice_index_or (group_bits (n + 15)) i false) (slice_index_or (group_bits (n + 15)) j false))
    first second
    ∙ ap₂ xor (ap (λ m. slice_index_or (group_bits m) n false) as_first ∙ bits-at 14 n)
    (ap (λ m. slice_index_or (group_bits m) (n + 1) false) as_second ∙ bits-at 13 (n + 1))

-- ---- fifteen bits from a packet on
pub bits_from-first : (n : ℕ) → slice_index_or (bits_from n) 0 false ≡ group_bit n
unfolding bits_from
bits_from-first n = refl

bits_from-second : (n : ℕ) → slice_index_or (bits_from n) 1 false ≡ group_bit (n + 1)
unfolding bits_from
bits_from-second n = refl

bits_from-rest : (n : ℕ) → drop 1 (bits_from n) ≡ map group_bit (range_with_len (n + 1) 14)
unfolding bits_from
bits_from-rest n = refl

bits_from-more : (n : ℕ) → bits_from (n + 1) ≡ map group_bit (range_with_len (n + 1) 14) ++ group_bit (n + 15) ∷ []
unfolding bits_from
bits_from-more n = map-range_with_len_more group_bit (n + 1) 14 (n + 15) (omega arith)

pub bits_from-next : (n : ℕ) → bits_from (n + 1) ≡ drop 1 (bits_from n) ++ xor (slice_index_or (bits_from n) 0 false)
    (slice_index_or (bits_from n) 1 false) ∷ []
bits_from-next n =
    bits_from-more n
    ∙ ap₂ (λ front last. front ++ last ∷ []) (sym (bits_from-rest n))
    (bits-later n ∙ ap₂ xor (sym (bits_from-first n)) (sym (bits_from-second n)))

pub bits_from-zero : bits_from 0 ≡ bits 15 32767
unfolding bits_from group_bit group_bits bits
bits_from-zero = refl

-- ---- The statuses that a return packet says, as an array is written: eight entries are replaced.
-- entries of other groups stay
pub keep-below : (group : ℕ) (oks : List Bool) (base : ℕ) (xs : List (Option Bool)) → base + length xs ≤ 8 * group →
    keep group oks base xs ≡ xs
unfolding keep
keep-below group oks base [] h = refl
keep-below group oks base (x ∷ xs) h =
    let no_test = ne_eqb (base / 8) group (λ e. omega arith) in
    rw no_test (ap (λ rest. x ∷ rest) (keep-below group oks (base + 1) xs (omega arith)))

keep-above : (group : ℕ) (oks : List Bool) (base : ℕ) (xs : List (Option Bool)) → 8 * group + 8 ≤ base →
    keep group oks base xs ≡ xs
unfolding keep
keep-above group oks base [] h = refl
keep-above group oks base (x ∷ xs) h =
    let no_test = ne_eqb (base / 8) group (λ e. omega arith) in
    rw no_test (ap (λ rest. x ∷ rest) (keep-above group oks (base + 1) xs (omega arith)))

keep-append : (group : ℕ) (oks : List Bool) (base : ℕ) (xs ys : List (Option Bool)) →
    keep group oks base (xs ++ ys) ≡ keep group oks base xs ++ keep group oks (base + length xs) ys
unfolding keep
keep-append group oks base [] ys = let e : base + 0 ≡ base = omega arith in rw e refl
keep-append group oks base (x ∷ xs) ys =
    let e : base + 1 + length xs ≡ base + suc (length xs) = omega arith in
    ap (λ rest. (if base / 8 == group then slice_get oks (base % 8) else x) ∷ rest)
    (keep-append group oks (base + 1) xs ys ∙ ap (λ n. keep group oks (base + 1) xs ++ keep group oks n ys) e)

-- the rest of a list from a place on
drop-step : (oks : List Bool) (i : ℕ) → i < length oks → (o : Bool) × (slice_get oks i ≡ Some o) ×
    (drop i oks ≡ o ∷ drop (i + 1) oks)
drop-step [] i h = absurd (omega arith)
drop-step (o ∷ oks) zero h = (o, refl, refl)
drop-step (o ∷ oks) (suc i) h =
    let rest = drop-step oks i (omega arith) in
    let e : suc i + 1 ≡ suc (i + 1) = omega arith in
    (rest.0, rest.1, rw e rest.2)

-- those of the group are replaced
keep-run : (group : ℕ) (oks : List Bool) (i base : ℕ) (xs : List (Option Bool)) → length oks ≡ 8 → i + length xs ≡ 8 →
    base ≡ 8 * group + i → keep group oks base xs ≡ map Some (drop i oks)
unfolding keep
keep-run group oks i base [] eight all at = rw (drop_all i oks (omega arith)) refl
keep-run group oks i base (x ∷ xs) eight all at =
    let test = eq-eqb (base / 8) group (omega arith) in
    let place : base % 8 ≡ i = omega arith in
    let step = drop-step oks i (omega arith) in
    let rest = keep-run group oks (i + 1) (base + 1) xs eight (omega arith) (omega arith) in
    rw (test, place) (ap (λ o. o ∷ keep group oks (base + 1) xs) step.1 ∙ ap (λ tail. Some step.0 ∷ tail) rest
    ∙ ap (map Some) (sym step.2))

pub keep-parts : (group : ℕ) (oks : List Bool) (before old after : List (Option Bool)) → length oks ≡ 8 →
    length before ≡ 8 * group → length old ≡ 8 →
    keep group oks 0 (before ++ (old ++ after)) ≡ before ++ (map Some oks ++ after)
keep-parts group oks before old after eight first middle =
    keep-append group oks 0 before (old ++ after)
    ∙ ap (λ front. front ++ keep group oks (0 + length before) (old ++ after))
    (keep-below group oks 0 before (omega arith))
    ∙ ap (λ back. before ++ back)
    (keep-append group oks (0 + length before) old after
    ∙ ap (λ front. front ++ keep group oks (0 + length before + length old) after)
    (keep-run group oks 0 (0 + length before) old eight (omega arith) (omega arith))
    ∙ ap (λ back. map Some oks ++ back) (keep-above group oks (0 + length before + length old) after (omega arith)))

-- the eight statuses of an octet, bit by bit
pub oks_in-bits : (mst : ℕ) → oks_in mst ≡ not (mst / 128 % 2 == 1) ∷ not (mst / 64 % 2 == 1) ∷ not
    (mst / 32 % 2 == 1) ∷ not (mst / 16 % 2 == 1)
    ∷ not (mst / 8 % 2 == 1) ∷ not (mst / 4 % 2 == 1) ∷ not (mst / 2 % 2 == 1) ∷ not (mst / 1 % 2 == 1) ∷ []
unfolding bits
oks_in-bits mst =
    let seven : mst / 2 / 2 / 2 / 2 / 2 / 2 / 2 ≡ mst / 128 = omega arith in
    let six : mst / 2 / 2 / 2 / 2 / 2 / 2 ≡ mst / 64 = omega arith in
    let five : mst / 2 / 2 / 2 / 2 / 2 ≡ mst / 32 = omega arith in
    let four : mst / 2 / 2 / 2 / 2 ≡ mst / 16 = omega arith in
    let three : mst / 2 / 2 / 2 ≡ mst / 8 = omega arith in
    let two : mst / 2 / 2 ≡ mst / 4 = omega arith in
    let whole : mst / 1 ≡ mst = omega arith in
    rw (seven, six, five, four, three, two, whole) refl

pub keep-in_place : (group : ℕ) (oks : List Bool) (xs : List (Option Bool)) → length oks ≡ 8 →
    8 * group + 8 ≤ length xs →
    take (8 * group) xs ++ (map Some oks ++ drop 8 (drop (8 * group) xs)) ≡ keep group oks 0 xs
keep-in_place group oks xs eight inside =
    let first = length-take (8 * group) xs in
    let rest = length-drop (8 * group) xs in
    let middle = length-take 8 (drop (8 * group) xs) in
    sym (keep-parts group oks (take (8 * group) xs) (take 8 (drop (8 * group) xs)) (drop 8 (drop (8 * group) xs)) eight
    (omega arith) (omega arith))
    ∙ ap (keep group oks 0) (ap (λ back. take (8 * group) xs ++ back) (take-append-drop 8 (drop (8 * group) xs))
    ∙ take-append-drop (8 * group) xs)

pub oks_in-size : (mst : ℕ) → length (oks_in mst) ≡ 8
oks_in-size mst = length-map (bits 8 mst) not ∙ length-bits 8 mst
