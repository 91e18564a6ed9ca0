-- A register of bits as a window of a list: octets and words that are moved into it and combined with it.
use Rattle.std.proofs.Common.{◌≡◌, ℕ, ◌+◌, ◌*◌, ◌/◌, ◌%◌, ◌^◌, ◌<◌, ◌≤◌, Bool, List, [], ◌∷◌, ◌++◌, length, drop}
use Rattle.std.proofs.Common.{bit_xor, sym, ◌∙◌, ap, ap₂, arith, append_assoc, zero, suc, false, replicate, refl}
use Rattle.std.proofs.lemmas.List.{length-append, length_push, drop_at, drop-append-le, drop-drop, append-nil}
use Rattle.std.proofs.lemmas.List.Elements.{All-nil, All-cons}
use Rattle.std.proofs.lemmas.Nat.{shr_high, xor_of_8, shr-shr, shr_split, xor_shr, xor_block, xor_lt, pow_pos}
use Rattle.std.proofs.lemmas.Nat.{shr_below}
use Rattle.law_model.specs.Common.{bits, octets_of, xors, scramble_on}
use Rattle.check_remainder.proofs.NumberAndOctetBitsLaws.{length-bits, bits-add, bits_low, bits-mod, bits-xor}
use Rattle.check_remainder.proofs.NumberAndOctetBitsLaws.{octets_of-append, octets_of-octet_bits}
use Rattle.check_remainder.proofs.NumberAndOctetBitsLaws.{bytes_high_first_below, octet_bits-bytes_high_first}
use Rattle.law_model.proofs.ScrambledBitAndAreaLaws.{xors-longer, scramble_on-append, scramble_on-short, descramble}
use Rattle.law_model.proofs.ScrambledBitAndAreaLaws.{descramble-append}
use Rattle.std.specs.Int.{bytes_high_first}
use Rattle.std.specs.Int.Bits.{xor_zero_r}

-- ---- A register of bits that octets are moved into.
-- as many bits as stand before a list, at its end
abbrev pub window : List Bool → List Bool → List Bool
window before s = drop (length s) (before ++ s)

pub window-append : (before s t : List Bool) → window before (s ++ t) ≡ drop (length t) (window before s ++ t)
window-append before s t =
    let within : length s ≤ length (before ++ s) = omega (arith, length-append before s) in
    ap₂ drop (length-append s t) (sym (append_assoc before s t))
    ∙ sym (drop-drop (length t) (length s) ((before ++ s) ++ t))
    ∙ ap (drop (length t)) (drop-append-le (length s) (before ++ s) t within)

-- the upper eight bits leave the register, and an octet comes after the others
pub moved : (k r o : ℕ) → o < 2 ^ 8 → bits (k + 8) (r % 2 ^ k * 2 ^ 8 + o) ≡ drop 8 (bits (8 + k) r ++ bits 8 o)
moved k r o h =
    bits-add k 8 (r % 2 ^ k * 2 ^ 8 + o)
    ∙ ap₂ ◌++◌ (ap (bits k) (shr_high (r % 2 ^ k) 8 o h) ∙ bits-mod k r) (bits_low 8 (r % 2 ^ k) o)
    ∙ sym (ap (λ l. drop 8 (l ++ bits 8 o)) (bits-add 8 k r)
    ∙ ap (drop 8) (append_assoc (bits 8 (r / 2 ^ k)) (bits k r) (bits 8 o))
    ∙ drop_at (bits 8 (r / 2 ^ k)) (bits k r ++ bits 8 o) 8 (length-bits 8 (r / 2 ^ k)))

-- an octet is combined with the upper eight bits
pub combined : (k r o : ℕ) (more : List Bool) →
    xors (bits 8 o) (bits (8 + k) r ++ more) ≡ bits 8 (bit_xor o (r / 2 ^ k))
combined k r o more =
    let upper = bits 8 (r / 2 ^ k) in
    ap (λ l. xors (bits 8 o) (l ++ more)) (bits-add 8 k r)
    ∙ ap (xors (bits 8 o)) (append_assoc upper (bits k r) more)
    ∙ xors-longer (bits 8 o) upper (bits k r ++ more) (omega (arith, length-bits 8 o, length-bits 8 (r / 2 ^ k)))
    ∙ sym (bits-xor 8 o (r / 2 ^ k))

-- the result is an octet
pub combined_below : (r o : ℕ) → r < 2 ^ 43 → o < 2 ^ 8 → bit_xor o (r / 2 ^ 35) < 2 ^ 8
combined_below r o h g = xor_of_8 o (r / 2 ^ 35) g (omega arith)

-- one more octet, from its bits
pub one_more : (octets : List ℕ) (o x : ℕ) (all front : List Bool) → length front ≡ 8 * length octets →
    all ≡ front ++ bits 8 x → x < 256 →
    octets_of (length (octets ++ o ∷ [])) all ≡ octets_of (length octets) front ++ x ∷ []
one_more octets o x all front size e h =
    ap₂ octets_of (length_push octets o) e
    ∙ octets_of-append (length octets) 1 front (bits 8 x) size
    ∙ ap (λ l. octets_of (length octets) front ++ l)
    (ap (octets_of 1) (sym (append-nil (bits 8 x)))
    ∙ octets_of-octet_bits (x ∷ []) (All-cons (λ y. y < 256) x [] h (All-nil (λ y. y < 256))))

-- ---- A word through the scrambler and the descrambler: with n = a + b places between the bits that are combined, and a
-- register of as
-- many bits, a word has a bits more.
-- nothing is left above the bits
nothing_above : (k x : ℕ) → x < 2 ^ k → x / 2 ^ k ≡ 0
nothing_above k x h = (let e : x ≡ 0 * 2 ^ k + x = omega arith in ap (λ m. m / 2 ^ k) e) ∙ shr_high 0 k x h

-- a word with its bits in the other order of the parts
parts : (a n w : ℕ) → bits (n + a) w ≡ bits a (w / 2 ^ n) ++ bits n w
parts a n w = (let e : n + a ≡ a + n = omega arith in ap (λ k. bits k w) e) ∙ bits-add a n w

-- the last bits of a word come into the register
pub word_register : (a n r w : ℕ) (before s : List Bool) → bits n r ≡ window before s →
    bits n (w % 2 ^ n) ≡ window before (s ++ bits (n + a) w)
word_register a n r w before s stands =
    let upper = bits a (w / 2 ^ n) in
    bits-mod n w
    ∙ sym (drop_at (bits n r ++ upper) (bits n w) (n + a)
    (omega (arith, length-append (bits n r) upper, length-bits n r, length-bits a (w / 2 ^ n))))
    ∙ ap (drop (n + a)) (append_assoc (bits n r) upper (bits n w) ∙ ap (λ l. bits n r ++ l) (sym (parts a n w)))
    ∙ ap₂ (λ k l. drop k (l ++ bits (n + a) w)) (sym (length-bits (n + a) w)) stands
    ∙ sym (window-append before s (bits (n + a) w))

-- ---- descrambling
pub word_descrambled : (a n r w : ℕ) (s : List Bool) → w < 2 ^ (n + a) → bits n r ≡ window (replicate n false) s →
    descramble n (s ++ bits (n + a) w) ≡ descramble n s ++ bits (n + a) (bit_xor w (r * 2 ^ a + w / 2 ^ n))
word_descrambled a n r w s h stands =
    let upper = w / 2 ^ n in
    let all = bits (n + a) w in
    let below : upper < 2 ^ a =
    shr_below w a n (let e : 2 ^ (n + a) ≡ 2 ^ (a + n) = ap (λ k. 2 ^ k) (omega arith) in rw e at h) in
    let back : bits (n + a) (r * 2 ^ a + upper) ≡ bits n r ++ bits a upper =
    bits-add n a (r * 2 ^ a + upper) ∙ ap₂ ◌++◌ (ap (bits n) (shr_high r a upper below)) (bits_low a r upper) in
    descramble-append n s all
    ∙ ap (λ l. descramble n s ++ l)
    (ap₂ (λ l m. xors all (l ++ m)) (sym stands) (parts a n w)
    ∙ ap (xors all) (sym (append_assoc (bits n r) (bits a upper) (bits n w)))
    ∙ ap (λ l. xors all (l ++ bits n w)) (sym back)
    ∙ xors-longer all (bits (n + a) (r * 2 ^ a + upper)) (bits n w)
    (omega (arith, length-bits (n + a) w, length-bits (n + a) (r * 2 ^ a + upper)))
    ∙ sym (bits-xor (n + a) w (r * 2 ^ a + upper)))

-- ---- scrambling
module _ (a b r w : ℕ) (small : r < 2 ^ (a + b)) (h : w < 2 ^ (a + b + a)) where
  -- the word combined with the register, and the result
  abbrev pub x : ℕ
  x = bit_xor (w / 2 ^ a) r

  abbrev pub t : ℕ
  t = bit_xor w (r * 2 ^ a)

  abbrev pub v : ℕ
  v = bit_xor t (t / 2 ^ (a + b))

  t_is : t ≡ x * 2 ^ a + w % 2 ^ a
  t_is =
      ap₂ bit_xor (sym (shr_split w a)) (omega arith)
      ∙ xor_block a (w / 2 ^ a) r (w % 2 ^ a) 0 (omega (arith, pow_pos a)) (pow_pos a)
      ∙ ap (λ m. x * 2 ^ a + m) (xor_zero_r (w % 2 ^ a))

  t_upper : t / 2 ^ a ≡ x
  t_upper = ap (λ m. m / 2 ^ a) t_is ∙ shr_high x a (w % 2 ^ a) (omega (arith, pow_pos a))

  t_top : t / 2 ^ (a + b) ≡ x / 2 ^ b
  t_top = sym (shr-shr t a b) ∙ ap (λ m. m / 2 ^ b) t_upper

  x_below : x < 2 ^ (a + b)
  x_below = xor_lt (a + b) (w / 2 ^ a) r (shr_below w (a + b) a h) small

  v_upper : v / 2 ^ a ≡ x
  v_upper =
      let none : x / 2 ^ b / 2 ^ a ≡ 0 = shr-shr x b a ∙ (let e : b + a ≡ a + b = omega arith in ap (λ k. x / 2 ^ k) e)
      ∙ nothing_above (a + b) x x_below in
      xor_shr t (t / 2 ^ (a + b)) a ∙ ap₂ bit_xor t_upper (ap (λ m. m / 2 ^ a) t_top ∙ none) ∙ xor_zero_r x

  v_lower : bits a v ≡ xors (bits a w) (bits a (x / 2 ^ b))
  v_lower =
      bits-xor a t (t / 2 ^ (a + b))
      ∙ ap₂ xors (ap (bits a) t_is ∙ bits_low a x (w % 2 ^ a) ∙ bits-mod a w) (ap (bits a) t_top)

  pub word_scrambled : (s : List Bool) → bits (a + b) r ≡ window (replicate (a + b) false) s →
      scramble_on (a + b) s (bits (a + b + a) w) ≡ s ++ bits (a + b + a) v
  word_scrambled s stands =
      let n = a + b in
      let zeros = replicate n false in
      let front = bits n (w / 2 ^ a) in
      let back = bits a w in
      let more = s ++ bits n x in
      let first : scramble_on n s front ≡ more =
      scramble_on-short n s front (omega (arith, length-bits n (w / 2 ^ a)))
      ∙ ap (λ l. s ++ xors front l) (sym stands)
      ∙ ap (λ l. s ++ l) (sym (bits-xor n (w / 2 ^ a) r)) in
      let last : window zeros more ≡ bits n x =
      window-append zeros s (bits n x)
      ∙ ap (λ l. drop (length (bits n x)) (l ++ bits n x)) (sym stands)
      ∙ drop_at (bits n r) (bits n x) (length (bits n x)) (length-bits n r ∙ sym (length-bits n x)) in
      ap (scramble_on n s) (bits-add n a w)
      ∙ scramble_on-append n s front back
      ∙ ap (λ l. scramble_on n l back) first
      ∙ scramble_on-short n more back (omega (arith, length-bits a w))
      ∙ ap (λ l. more ++ xors back l) (last ∙ bits-add a b x)
      ∙ ap (λ l. more ++ l) (xors-longer back (bits a (x / 2 ^ b)) (bits b x)
      (omega (arith, length-bits a w, length-bits a (x / 2 ^ b))) ∙ sym v_lower)
      ∙ append_assoc s (bits n x) (bits a v)
      ∙ ap (λ m. s ++ (bits n m ++ bits a v)) (sym v_upper)
      ∙ ap (λ l. s ++ l) (sym (bits-add n a v))

-- ---- octets
pub length-bytes : (count n : ℕ) → length (bytes_high_first count n) ≡ count
length-bytes zero n = refl
length-bytes (suc count) n = ap suc (length-bytes count n)

-- so many more octets, from their bits
pub more_octets : (count : ℕ) (octets : List ℕ) (w v : ℕ) (all front : List Bool) → length front ≡ 8 * length octets →
    all ≡ front ++ bits (8 * count) v →
    octets_of (length (octets ++ bytes_high_first count w)) all ≡ octets_of (length octets) front ++ bytes_high_first
    count v
more_octets count octets w v all front size e =
    ap₂ octets_of (length-append octets (bytes_high_first count w) ∙ ap (λ k. length octets + k) (length-bytes count w))
    e
    ∙ octets_of-append (length octets) count front (bits (8 * count) v) size
    ∙ ap (λ l. octets_of (length octets) front ++ l)
    (ap₂ octets_of (sym (length-bytes count v)) (sym (octet_bits-bytes_high_first count v))
    ∙ octets_of-octet_bits (bytes_high_first count v) (bytes_high_first_below count v))
