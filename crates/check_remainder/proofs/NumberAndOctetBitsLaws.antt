-- Numbers and octets, and their bits.
use Rattle.std.proofs.Common.{◌≡◌, ℕ, zero, suc, ◌+◌, ◌*◌, ◌/◌, ◌%◌, ◌^◌, ◌<◌, ◌==◌, Bool, true, false, if◌then◌else◌}
use Rattle.std.proofs.Common.{List, [], ◌∷◌, ◌++◌, length, replicate, bit_xor, refl, sym, ◌∙◌, ap, ap₂, arith}
use Rattle.std.proofs.Common.{append_assoc, append-nil, add-suc, add-zero, add-one, div-one, pow-suc, mod-eq_of_lt}
use Rattle.std.proofs.Common.{◌≤◌, take, drop, All, suc-add, zero-add, pow_mono, lt_of_lt_of_le, length-take}
use Rattle.std.proofs.Common.{length-drop, take_at, drop_at, take-append-drop, pow-add}
use Rattle.std.proofs.lemmas.List.{length-append, replicate_more, take-append-le, drop-append-le}
use Rattle.std.proofs.lemmas.Nat.{shr-shr, shr_split, mod-pow-add, xor_shr, xor_mod, shr_high}
use Rattle.check_remainder.specs.Bits.{bits, number_behind, number, xor, xors, octet_bits, octets_of}
use Rattle.check_remainder.proofs.XorAndBitCountLaws.{xors-append}
use Rattle.std.specs.Int.{byte_at, bytes_high_first}
use Rattle.std.proofs.lemmas.List.Elements.{All-nil, All-cons, All-head, All-tail}
use Rattle.std.proofs.lemmas.List.Concat.{flat_map-append}

-- ---- Numbers and their bits.
pub length-bits : (k n : ℕ) → length (bits k n) ≡ k
unfolding bits
length-bits zero n = refl
length-bits (suc k) n = omega (arith, length-append (bits k (n / 2)) ((n % 2 == 1) ∷ []), length-bits k (n / 2))

-- the bits of a sum of widths
pub bits-add : (a b n : ℕ) → bits (a + b) n ≡ bits a (n / 2 ^ b) ++ bits b n
unfolding bits
bits-add a zero n = rw (add-zero, div-one) (sym (append-nil (bits a n)))
bits-add a (suc b) n =
    let e : 1 + b ≡ suc b = omega arith in
    rw add-suc (ap (λ l. l ++ (n % 2 == 1) ∷ []) (bits-add a b (n / 2))
    ∙ append_assoc (bits a (n / 2 / 2 ^ b)) (bits b (n / 2)) ((n % 2 == 1) ∷ [])
    ∙ ap (λ m. bits a m ++ (bits b (n / 2) ++ (n % 2 == 1) ∷ [])) (shr-shr n 1 b ∙ ap (λ k. n / 2 ^ k) e))

half_sum : (a b : ℕ) → (a * 2 + b) / 2 ≡ a + b / 2
half_sum a b = omega arith

parity_sum : (a b : ℕ) → (a * 2 + b) % 2 ≡ b % 2
parity_sum a b = omega arith

double_pow : (a k : ℕ) → a * 2 ^ suc k ≡ a * 2 ^ k * 2
double_pow a k = rw pow-suc (omega arith)

-- the lower bits don't depend on what stands above them
pub bits_low : (k a b : ℕ) → bits k (a * 2 ^ k + b) ≡ bits k b
unfolding bits
bits_low zero a b = refl
bits_low (suc k) a b =
    ap₂ (λ m p. bits k m ++ (p == 1) ∷ [])
    (ap (λ m. (m + b) / 2) (double_pow a k) ∙ half_sum (a * 2 ^ k) b)
    (ap (λ m. (m + b) % 2) (double_pow a k) ∙ parity_sum (a * 2 ^ k) b)
    ∙ ap (λ l. l ++ (b % 2 == 1) ∷ []) (bits_low k a (b / 2))

pub bits-mod : (k n : ℕ) → bits k (n % 2 ^ k) ≡ bits k n
bits-mod k n = sym (bits_low k (n / 2 ^ k) (n % 2 ^ k)) ∙ ap (bits k) (shr_split n k)

xor_of_bits : (a b : ℕ) → a < 2 → b < 2 → (bit_xor a b == 1) ≡ xor (a == 1) (b == 1)
xor_of_bits zero zero p q = refl
xor_of_bits zero (suc zero) p q = refl
xor_of_bits (suc zero) zero p q = refl
xor_of_bits (suc zero) (suc zero) p q = refl
xor_of_bits (suc (suc a)) b p q = absurd (omega arith)
xor_of_bits a (suc (suc b)) p q = absurd (omega arith)

pub bits-xor : (k a b : ℕ) → bits k (bit_xor a b) ≡ xors (bits k a) (bits k b)
unfolding bits xors
bits-xor zero a b = refl
bits-xor (suc k) a b =
    ap₂ (λ m p. bits k m ++ p ∷ []) (xor_shr a b 1)
    (ap (λ m. m == 1) (xor_mod a b 1) ∙ xor_of_bits (a % 2) (b % 2) (omega arith) (omega arith))
    ∙ ap (λ l. l ++ xor (a % 2 == 1) (b % 2 == 1) ∷ []) (bits-xor k (a / 2) (b / 2))
    ∙ sym (xors-append (bits k (a / 2)) (bits k (b / 2)) ((a % 2 == 1) ∷ []) ((b % 2 == 1) ∷ [])
    (length-bits k (a / 2) ∙ sym (length-bits k (b / 2))))

pub bits-zero : (k : ℕ) → bits k 0 ≡ replicate k false
unfolding bits
bits-zero zero = refl
bits-zero (suc k) = ap (λ l. l ++ false ∷ []) (bits-zero k) ∙ replicate_more k false ∙ rw add-one refl

-- ---- numbers back from bits
-- one more bit, the lowest
pub number_behind-append : (n : ℕ) (front back : List Bool) →
    number_behind n (front ++ back) ≡ number_behind (number_behind n front) back
unfolding number_behind
number_behind-append n [] back = refl
number_behind-append n (b ∷ front) back = number_behind-append (2 * n + (if b then 1 else 0)) front back

bit_of : (m : ℕ) → m < 2 → (if m == 1 then 1 else 0) ≡ m
bit_of zero h = refl
bit_of (suc zero) h = refl
bit_of (suc (suc m)) h = absurd (omega arith)

pub number-bits : (k n : ℕ) → number (bits k n) ≡ n % 2 ^ k
unfolding bits number_behind
number-bits zero n = omega arith
number-bits (suc k) n =
    let e : suc k ≡ k + 1 = omega arith in
    number_behind-append 0 (bits k (n / 2)) ((n % 2 == 1) ∷ [])
    ∙ ap₂ (λ a b. 2 * a + b) (number-bits k (n / 2)) (bit_of (n % 2) (omega arith))
    ∙ (let f : 2 * (n / 2 % 2 ^ k) + n % 2 ≡ n % 2 ^ (k + 1) = omega (arith, mod-pow-add n k 1) in f)
    ∙ ap (λ j. n % 2 ^ j) (sym e)

-- two numbers of k bits with the same bits are equal
pub same_from_bits : (k a b : ℕ) → a < 2 ^ k → b < 2 ^ k → bits k a ≡ bits k b → a ≡ b
same_from_bits k a b p q e =
    sym (mod-eq_of_lt p) ∙ sym (number-bits k a) ∙ ap number e ∙ number-bits k b ∙ mod-eq_of_lt q

regroup : (n b p x : ℕ) → (2 * n + b) * p + x ≡ n * (p * 2) + ((2 * 0 + b) * p + x)
regroup n b p x = omega arith

number_behind_is : (n : ℕ) (bs : List Bool) → number_behind n bs ≡ n * 2 ^ length bs + number bs
unfolding number_behind
number_behind_is n [] = omega arith
number_behind_is n (b ∷ bs) =
    number_behind_is (2 * n + (if b then 1 else 0)) bs
    ∙ regroup n (if b then 1 else 0) (2 ^ length bs) (number bs)
    ∙ ap₂ (λ p x. n * p + x) (sym (pow-suc 2 (length bs))) (sym (number_behind_is (2 * 0 + (if b then 1 else 0)) bs))

pub number_below : (bs : List Bool) → number bs < 2 ^ length bs
unfolding number_behind
number_below [] = omega arith
number_below (true ∷ bs) = omega (arith, number_below bs, number_behind_is 1 bs, pow-suc 2 (length bs))
number_below (false ∷ bs) = omega (arith, number_below bs, pow-suc 2 (length bs))

one_bit : (b : Bool) → bits 1 (2 * 0 + (if b then 1 else 0)) ≡ b ∷ []
unfolding bits
one_bit true = refl
one_bit false = refl

pub bits-number : (bs : List Bool) → bits (length bs) (number bs) ≡ bs
unfolding bits number_behind
bits-number [] = refl
bits-number (b ∷ bs) =
    let k = length bs in
    let top = 2 * 0 + (if b then 1 else 0) in
    let e : suc k ≡ 1 + k = omega arith in
    ap₂ bits e (number_behind_is top bs)
    ∙ bits-add 1 k (top * 2 ^ k + number bs)
    ∙ ap₂ ◌++◌
    (ap (bits 1) (shr_high top k (number bs) (number_below bs)) ∙ one_bit b)
    (bits_low k top (number bs) ∙ bits-number bs)

-- ---- Octets and their bits.
pub octet_bits-append : (front back : List ℕ) → octet_bits (front ++ back) ≡ octet_bits front ++ octet_bits back
octet_bits-append front back = flat_map-append (bits 8) front back

pub length-octet_bits : (octets : List ℕ) → length (octet_bits octets) ≡ 8 * length octets
length-octet_bits [] = omega arith
length-octet_bits (o ∷ octets) = let e = length-octet_bits octets in
    omega (arith, length-append (bits 8 o) (octet_bits octets), length-bits 8 o)

pub length-octets_of : (count : ℕ) (bs : List Bool) → length (octets_of count bs) ≡ count
unfolding octets_of
length-octets_of zero bs = refl
length-octets_of (suc count) bs = ap suc (length-octets_of count (drop 8 bs))

pub octets_of_below : (count : ℕ) (bs : List Bool) → All (λ o. o < 256) (octets_of count bs)
unfolding octets_of
octets_of_below zero bs = All-nil (λ o. o < 256)
octets_of_below (suc count) bs =
    let short : length (take 8 bs) ≤ 8 = omega (arith, length-take 8 bs) in
    All-cons (λ o. o < 256) (number (take 8 bs)) (octets_of count (drop 8 bs))
    (lt_of_lt_of_le (number_below (take 8 bs)) (pow_mono short)) (octets_of_below count (drop 8 bs))

pub octets_of-octet_bits : (octets : List ℕ) → All (λ o. o < 256) octets →
    octets_of (length octets) (octet_bits octets) ≡ octets
unfolding octets_of
octets_of-octet_bits [] h = refl
octets_of-octet_bits (o ∷ octets) h =
    ap₂ ◌∷◌
    (ap number (take_at (bits 8 o) (octet_bits octets) 8 (length-bits 8 o)) ∙ number-bits 8 o
    ∙ mod-eq_of_lt (All-head (λ y. y < 256) o octets h))
    (ap (octets_of (length octets)) (drop_at (bits 8 o) (octet_bits octets) 8 (length-bits 8 o))
    ∙ octets_of-octet_bits octets (All-tail (λ y. y < 256) o octets h))

pub octet_bits-octets_of : (count : ℕ) (bs : List Bool) → length bs ≡ 8 * count → octet_bits (octets_of count bs) ≡ bs
unfolding octets_of
octet_bits-octets_of zero [] h = refl
octet_bits-octets_of zero (b ∷ bs) h = absurd (omega arith)
octet_bits-octets_of (suc count) bs h =
    let front : 8 ≡ length (take 8 bs) = omega (arith, length-take 8 bs) in
    ap₂ ◌++◌
    (ap (λ k. bits k (number (take 8 bs))) front ∙ bits-number (take 8 bs))
    (octet_bits-octets_of count (drop 8 bs) (omega (arith, length-drop 8 bs)))
    ∙ take-append-drop 8 bs

pub octets_of-append : (a b : ℕ) (front back : List Bool) → length front ≡ 8 * a →
    octets_of (a + b) (front ++ back) ≡ octets_of a front ++ octets_of b back
unfolding octets_of
octets_of-append zero b [] back h = rw zero-add refl
octets_of-append zero b (x ∷ front) back h = absurd (omega arith)
octets_of-append (suc a) b front back h =
    let long : 8 ≤ length front = omega arith in
    rw suc-add (ap₂ (λ l m. number l ∷ m)
    (take-append-le 8 front back long)
    (ap (octets_of (a + b)) (drop-append-le 8 front back long)
    ∙ octets_of-append a b (drop 8 front) back (omega (arith, length-drop 8 front))))

pow_of_octets : (k : ℕ) → 256 ^ k ≡ 2 ^ (8 * k)
pow_of_octets zero = refl
pow_of_octets (suc k) =
    let e : 8 * k + 8 ≡ 8 * suc k = omega arith in
    pow-suc 256 k ∙ ap (λ m. m * 256) (pow_of_octets k) ∙ sym (pow-add 2 (8 * k) 8) ∙ ap (λ j. 2 ^ j) e

byte_at_is : (k n : ℕ) → byte_at k n ≡ n / 2 ^ (8 * k) % 2 ^ 8
byte_at_is zero n = ap (λ m. m % 2 ^ 8) (sym (div-one n))
byte_at_is (suc k) n = ap (λ m. n / m % 256) (pow_of_octets (suc k))

-- the octets of a number, as `to_be_bytes` gives them
pub bytes_high_first_below : (count n : ℕ) → All (λ o. o < 256) (bytes_high_first count n)
bytes_high_first_below zero n = All-nil (λ o. o < 256)
bytes_high_first_below (suc zero) n = All-cons (λ o. o < 256) (n % 256) [] (omega arith) (bytes_high_first_below zero n)
bytes_high_first_below (suc (suc count)) n =
    All-cons (λ o. o < 256) (n / 256 ^ suc count % 256) (bytes_high_first (suc count) n) (omega arith)
    (bytes_high_first_below (suc count) n)

-- their bits
pub octet_bits-bytes_high_first : (count n : ℕ) → octet_bits (bytes_high_first count n) ≡ bits (8 * count) n
unfolding bits
octet_bits-bytes_high_first zero n = refl
octet_bits-bytes_high_first (suc count) n =
    let e : 8 + 8 * count ≡ 8 * suc count = omega arith in
    ap₂ ◌++◌
    (ap (bits 8) (byte_at_is count n) ∙ bits-mod 8 (n / 2 ^ (8 * count)))
    (octet_bits-bytes_high_first count n)
    ∙ sym (bits-add 8 (8 * count) n) ∙ ap (λ k. bits k n) e
