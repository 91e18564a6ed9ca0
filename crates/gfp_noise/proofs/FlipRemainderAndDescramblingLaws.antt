-- What flips leave: something in a remainder by the FCS generator, and one or two in a descrambled window.
use Rattle.std.proofs.Common.{◌≡◌, ℕ, zero, suc, ◌+◌, ◌-◌, ◌/◌, ◌<◌, ◌≤◌, Bool, true, false, List, [], ◌∷◌, ◌++◌}
use Rattle.std.proofs.Common.{length, replicate, refl, sym, ◌∙◌, ap, subst, inl, inr, arith, append_assoc, le_of_eq}
use Rattle.std.proofs.Common.{drop, ap₂}
use Rattle.std.proofs.lemmas.List.{append-nil, length-append, length-replicate, length-drop, drop_at, drop-replicate}
use Rattle.std.proofs.lemmas.Bool.{cases_lt}
use Rattle.gfp_noise.proofs.FlipPlaceAndBitLaws.{zeros_in_parts}
use Rattle.law_model.specs.Common.{bits, xor, xors, add_front, divide, count, descrambled}
use Rattle.check_remainder.proofs.XorAndBitCountLaws.{xors-append, count-append, xors-zeros, xors-zeros_right, OneAt}
use Rattle.check_remainder.proofs.XorAndBitCountLaws.{count_none, count_one, xors_medial}
use Rattle.check_remainder.proofs.LongDivisionRemainderLaws.{length-add_front, add_front-append, divide-zeros}
use Rattle.check_remainder.proofs.LongDivisionRemainderLaws.{divide-add, divide-append, length-divide}
use Rattle.check_crc32.specs.Crc32.{crc32}
use Rattle.check_crc32.proofs.CheckBitsAndRemainderLaws.{length-crc32}
use Rattle.gfp_noise.specs.flip_law.SingleFlip.{IsOneOrTwo, one, two}
use Rattle.law_model.proofs.ScrambledBitAndAreaLaws.{xors-longer, descramble-append, length-descrambled}
use Rattle.gfp_noise.specs.flip_law.FlippedStream.{window}

-- ---- Remainders by the generator of the FCS: a register that isn't zero stays so where zeros follow, and one bit, or two
-- that are 43 places apart, leave something.
-- ---- a register with zeros behind it
add_front_all : (front p : List Bool) → length front ≡ length p → add_front front p ≡ xors front p
unfolding add_front xors
add_front_all [] [] e = refl
add_front_all (a ∷ front) (b ∷ p) e = ap (λ l. xor a b ∷ l) (add_front_all front p (omega arith))
add_front_all front p e = absurd (omega arith)

-- the last bit of the generator is 1
some-last : (front p : List Bool) → length front ≡ length p
    → 0 < count (add_front (front ++ true ∷ []) (p ++ false ∷ []))
unfolding xors count
some-last front p e =
    let size : length (front ++ true ∷ []) ≡ length (p ++ false ∷ []) = omega
    (arith, length-append front (true ∷ []), length-append p (false ∷ [])) in
    let parts : add_front (front ++ true ∷ []) (p ++ false ∷ []) ≡ xors front p ++ true ∷ [] =
    add_front_all (front ++ true ∷ []) (p ++ false ∷ []) size ∙ xors-append front p (true ∷ []) (false ∷ []) e in
    omega (arith, ap count parts, count-append (xors front p) (true ∷ []))

module _ (front : List Bool) where
  abbrev lower : List Bool
  lower = front ++ true ∷ []

  -- one step
  behind : (p : List Bool) (m : ℕ) → p ++ replicate (suc m) false ≡ (p ++ false ∷ []) ++ replicate m false
  behind p m = sym (append_assoc p (false ∷ []) (replicate m false))

  stays : (m : ℕ) (p : List Bool) → length p ≡ length lower → 0 < count p
      → 0 < count (divide m lower (p ++ replicate m false))
  unfolding divide count
  stays zero p size some = subst (λ l. 0 < count l) (sym (append-nil p)) some
  stays (suc m) [] size some = absurd (omega arith)
  stays (suc m) (false ∷ p) size some =
      let next : List Bool = p ++ false ∷ [] in
      subst (λ l. 0 < count (divide m lower l)) (sym (behind p m))
      (stays m next (omega (arith, length-append p (false ∷ []), size))
      (omega (arith, count-append p (false ∷ []), some)))
  stays (suc m) (true ∷ p) size some =
      let next : List Bool = p ++ false ∷ [] in
      let same : length lower ≡ length next = omega (arith, length-append p (false ∷ []), size) in
      let equal : length front ≡ length p = omega (arith, length-append front (true ∷ []), size) in
      subst (λ l. 0 < count (divide m lower l))
      (sym (ap (add_front lower) (behind p m) ∙ add_front-append lower next (replicate m false) (le_of_eq same)))
      (stays m (add_front lower next) (omega (arith, length-add_front lower next, same)) (some-last front p equal))

-- ---- the generator of the FCS
last_is_one : crc32 ≡ bits 31 (0x04c11db7 / 2) ++ true ∷ []
unfolding bits
last_is_one = refl

crc32-stays : (m : ℕ) (p : List Bool) → length p ≡ 32 → 0 < count p
    → 0 < count (divide m crc32 (p ++ replicate m false))
crc32-stays m p size some =
    subst (λ l. 0 < count (divide m l (p ++ replicate m false))) (sym last_is_one)
    (stays (bits 31 (0x04c11db7 / 2)) m p (size ∙ sym length-crc32 ∙ ap length last_is_one) some)

-- a pattern that leaves something, with zeros before and behind
around : (a j b n : ℕ) (pattern : List Bool) → length pattern ≡ j + 32 → 0 < count (divide j crc32 pattern)
    → a + (j + b) ≡ n →
    0 < count (divide n crc32 (replicate a false ++ (pattern ++ replicate b false)))
around a j b n pattern size some e =
    let after : length (divide j crc32 pattern) ≡ 32 = omega (arith, length-divide j crc32 pattern, size) in
    let same : divide n crc32 (replicate a false ++ (pattern ++ replicate b false)) ≡ divide b crc32
    (divide j crc32 pattern ++ replicate b false) =
    ap (λ n. divide n crc32 (replicate a false ++ (pattern ++ replicate b false))) (sym e)
    ∙ divide-add a (j + b) crc32 (replicate a false ++ (pattern ++ replicate b false))
    ∙ ap (divide (j + b) crc32) (divide-zeros a crc32 (pattern ++ replicate b false))
    ∙ divide-add j b crc32 (pattern ++ replicate b false)
    ∙ ap (divide b crc32) (divide-append j crc32 pattern (replicate b false) (omega (arith, length-crc32, size))) in
    subst (λ l. 0 < count l) (sym same) (crc32-stays b (divide j crc32 pattern) after some)

-- one bit
one_bit : List Bool
one_bit = true ∷ replicate 32 false

one_bit-leaves : count (divide 1 crc32 one_bit) ≡ 14
unfolding one_bit count divide add_front bits
one_bit-leaves = refl

-- two bits that are 43 places apart
two_bits : List Bool
two_bits = true ∷ (replicate 42 false ++ (true ∷ []))

two_bits-leave : count (divide 12 crc32 two_bits) ≡ 12
unfolding two_bits count divide add_front bits
two_bits-leave = refl

-- a bit in the check alone
late : (n a b : ℕ) → n ≤ a → 0 < count (divide n crc32 (replicate a false ++ true ∷ replicate b false))
unfolding count
late n a b h =
    let rest : List Bool = replicate (a - n) false ++ true ∷ replicate b false in
    let same : divide n crc32 (replicate a false ++ true ∷ replicate b false) ≡ rest =
    ap (λ l. divide n crc32 (l ++ true ∷ replicate b false)) (zeros_in_parts n (a - n) a (omega arith))
    ∙ ap (divide n crc32) (append_assoc (replicate n false) (replicate (a - n) false) (true ∷ replicate b false))
    ∙ divide-zeros n crc32 rest in
    subst (λ l. 0 < count l) (sym same)
    (omega (arith, count-append (replicate (a - n) false) (true ∷ replicate b false)))

early : (n a b : ℕ) → a < n → a + (1 + b) ≡ n + 32
    → 0 < count (divide n crc32 (replicate a false ++ true ∷ replicate b false))
unfolding one_bit
early n a b h size =
    let behind : ℕ = n - (a + 1) in
    let parts : true ∷ replicate b false ≡ one_bit ++ replicate behind false =
    ap (λ l. true ∷ l) (zeros_in_parts 32 behind b (omega arith)) in
    subst (λ l. 0 < count (divide n crc32 (replicate a false ++ l))) (sym parts)
    (around a 1 behind n one_bit (let e : length (replicate 32 false) ≡ 32 = length-replicate 32 false in omega arith)
    (omega (arith, one_bit-leaves)) (omega arith))

both : (n a b : ℕ) → a + (44 + b) ≡ n + 32
    → 0 < count (divide n crc32 (replicate a false ++ (true ∷ (replicate 42 false ++ (true ∷ replicate b false)))))
unfolding two_bits
both n a b size =
    let parts : true ∷ (replicate 42 false ++ (true ∷ replicate b false)) ≡ two_bits ++ replicate b false =
    ap (λ l. true ∷ l) (sym (append_assoc (replicate 42 false) (true ∷ []) (replicate b false))) in
    subst (λ l. 0 < count (divide n crc32 (replicate a false ++ l))) (sym parts)
    (around a 12 b n two_bits (omega
    (arith, length-append (replicate 42 false) (true ∷ []), length-replicate 42 false))
    (omega (arith, two_bits-leave)) (omega arith))

-- such flips are never divided
pub something_left : (n : ℕ) (flips : List Bool) → length flips ≡ n + 32 → IsOneOrTwo flips
    → 0 < count (divide n crc32 flips)
something_left n flips size (one a b e) =
    let long : a + (1 + b) ≡ n + 32 =
    omega (
      arith,
      ap length e,
      length-append (replicate a false)
          (true ∷ replicate b false),
      length-replicate a false,
      length-replicate b false,
      size,
    ) in
    subst (λ l. 0 < count (divide n crc32 l)) (sym e)
    (elim (cases_lt a n) [ inl first ↦ early n a b first long | inr past ↦ late n a b past ])
something_left n flips size (two a b e) =
    let long : a + (44 + b) ≡ n + 32 =
    omega (
      arith,
      ap length e,
      length-append (replicate a false)
          (true ∷ (replicate 42 false ++ (true ∷ replicate b false))),
      length-append (replicate 42 false)
          (true ∷ replicate b false),
      length-replicate a false,
      length-replicate 42 false,
      length-replicate b false,
      size,
    ) in
    subst (λ l. 0 < count (divide n crc32 l)) (sym e) (both n a b long)

-- ---- Descrambling is linear, and at most one flip in an area and in the 43 area bits before it leaves nothing, one bit,
-- or two bits 43 places apart.
-- ---- descrambling is linear
zeros_twice : (n : ℕ) → xors (replicate n false) (replicate n false) ≡ replicate n false
zeros_twice n = xors-zeros n (replicate n false) (le_of_eq (length-replicate n false))

pub descrambled-xors : (s flips : List Bool) → descrambled (xors s flips) ≡ xors (descrambled s) (descrambled flips)
descrambled-xors s flips =
    let zeros : List Bool = replicate 43 false in
    ap (xors (xors s flips))
    (ap (λ l. l ++ xors s flips) (sym (zeros_twice 43)) ∙ sym (xors-append zeros zeros s flips refl))
    ∙ xors_medial s flips (zeros ++ s) (zeros ++ flips)

-- ---- one bit, so many places behind it combined
-- the same zeros in front
behind_zeros : (n : ℕ) (a b : List Bool) → xors (replicate n false ++ a)
    (replicate n false ++ b) ≡ replicate n false ++ xors a b
behind_zeros n a b =
    xors-append (replicate n false) (replicate n false) a b refl ∙ ap (λ l. l ++ xors a b) (zeros_twice n)

-- zeros on the left cut what is on the right
zeros_cut : (n : ℕ) (front rest : List Bool) → length front ≡ n → xors (replicate n false) (front ++ rest) ≡ front
zeros_cut n front rest e =
    xors-longer (replicate n false) front rest (le_of_eq (length-replicate n false ∙ sym e))
    ∙ xors-zeros n front (le_of_eq e)

drop-one : (n k m : ℕ) → k < n → drop n (replicate k false ++ true ∷ replicate m false) ≡ replicate
    (m - (n - (k + 1))) false
drop-one zero k m h = absurd (omega arith)
drop-one (suc n) zero m h = drop-replicate n m false
    ∙ ap (λ j. replicate (m - j) false) (let e : n ≡ suc n - (0 + 1) = omega arith in e)
drop-one (suc n) (suc k) m h = drop-one n k m (omega arith)
    ∙ ap (λ j. replicate (m - j) false) (let e : n - (k + 1) ≡ suc n - (suc k + 1) = omega arith in e)

-- the flip is before the area
before_area : (k m n : ℕ) → k < 43 → k < n → k + (1 + m) ≡ 43 + n →
    xors (drop 43 (replicate k false ++ true ∷ replicate m false)) (replicate k false ++ true ∷ replicate m false)
    ≡ replicate k false ++ true ∷ replicate (n - (k + 1)) false
before_area k m n h first size =
    let front : List Bool = replicate k false ++ true ∷ replicate (n - (k + 1)) false in
    let long : length front ≡ n =
    omega (
      arith,
      length-append (replicate k false) (true ∷ replicate (n - (k + 1)) false),
      length-replicate k false,
      length-replicate (n - (k + 1)) false,
    ) in
    let left : m - (43 - (k + 1)) ≡ n = omega arith in
    let parts : replicate k false ++ true ∷ replicate m false ≡ front ++ replicate 43 false =
    ap (λ l. replicate k false ++ true ∷ l) (zeros_in_parts (n - (k + 1)) 43 m (omega arith))
    ∙ sym (append_assoc (replicate k false) (true ∷ replicate (n - (k + 1)) false) (replicate 43 false)) in
    ap₂ xors (drop-one 43 k m h ∙ ap (λ j. replicate j false) left) parts ∙ zeros_cut n front (replicate 43 false) long

-- the flip is in the area
in_area : (j m : ℕ) → xors (drop 43 (replicate (43 + j) false ++ true ∷ replicate m false))
    (replicate (43 + j) false ++ true ∷ replicate m false)
    ≡ replicate j false ++ true ∷ xors (replicate m false) (replicate 42 false ++ true ∷ replicate m false)
unfolding xors
in_area j m =
    let bit : List Bool = true ∷ replicate m false in
    let early : replicate (43 + j) false ++ bit ≡ replicate 43 false ++ (replicate j false ++ bit) =
    ap (λ l. l ++ bit) (zeros_in_parts 43 j (43 + j) refl)
    ∙ append_assoc (replicate 43 false) (replicate j false) bit in
    let late : replicate (43 + j) false ++ bit ≡ replicate j false ++ (replicate 43 false ++ bit) =
    ap (λ l. l ++ bit) (zeros_in_parts j 43 (43 + j) (omega arith))
    ∙ append_assoc (replicate j false) (replicate 43 false) bit in
    ap₂ xors (ap (drop 43) early ∙ drop_at (replicate 43 false) (replicate j false ++ bit) 43
    (length-replicate 43 false)) late
    ∙ behind_zeros j bit (replicate 43 false ++ bit)

-- fewer than 43 bits of the area are behind it, or more
few_behind : (m : ℕ) → m < 43 → xors (replicate m false) (replicate 42 false ++ true ∷ replicate m false) ≡ replicate
    m false
few_behind m h =
    let parts : replicate 42 false ++ true ∷ replicate m false ≡ replicate m false ++
    (replicate (42 - m) false ++ true ∷ replicate m false) =
    ap (λ l. l ++ true ∷ replicate m false) (zeros_in_parts m (42 - m) 42 (omega arith))
    ∙ append_assoc (replicate m false) (replicate (42 - m) false) (true ∷ replicate m false) in
    ap (xors (replicate m false)) parts
    ∙ zeros_cut m (replicate m false) (replicate (42 - m) false ++ true ∷ replicate m false) (length-replicate m false)

many_behind : (m : ℕ) → 43 ≤ m → xors (replicate m false) (replicate 42 false ++ true ∷ replicate m false) ≡ replicate
    42 false ++ true ∷ replicate (m - 43) false
many_behind m h =
    let front : List Bool = replicate 42 false ++ true ∷ replicate (m - 43) false in
    let long : length front ≡ m =
    omega (
      arith,
      length-append (replicate 42 false) (true ∷ replicate (m - 43) false),
      length-replicate 42 false,
      length-replicate (m - 43) false,
    ) in
    let parts : replicate 42 false ++ true ∷ replicate m false ≡ front ++ replicate 43 false =
    ap (λ l. replicate 42 false ++ true ∷ l) (zeros_in_parts (m - 43) 43 m (omega arith))
    ∙ sym (append_assoc (replicate 42 false) (true ∷ replicate (m - 43) false) (replicate 43 false)) in
    ap (xors (replicate m false)) parts ∙ zeros_cut m front (replicate 43 false) long

-- ---- a window
-- what its flips leave in the area
abbrev pub left_in : List Bool → List Bool
left_in flips = xors (drop 43 flips) flips

pub left_in-none : (flips : List Bool) → count flips ≡ 0 → left_in flips ≡ replicate (length flips - 43) false
left_in-none flips none =
    let n = length flips in
    let zeros : flips ≡ replicate n false = count_none flips none in
    ap left_in zeros
    ∙ ap (λ l. xors l (replicate n false)) (drop-replicate 43 n false)
    ∙ xors-zeros_right n (replicate (n - 43) false) (omega (arith, length-replicate (n - 43) false))

in_area-left : (j m : ℕ) (flips : List Bool) → flips ≡ replicate (43 + j) false ++ true ∷ replicate m false
    → IsOneOrTwo (left_in flips)
in_area-left j m flips e = elim (cases_lt m 43) [
  | inl few ↦ one j m (ap left_in e ∙ in_area j m ∙ ap (λ l. replicate j false ++ true ∷ l) (few_behind m few))
  | inr many ↦ two j (m - 43) (ap left_in e ∙ in_area j m ∙ ap (λ l. replicate j false ++ true ∷ l)
      (many_behind m many))
]

pub left_in-one : (flips : List Bool) → count flips ≡ 1 → 86 ≤ length flips → IsOneOrTwo (left_in flips)
left_in-one flips single long =
    let at : OneAt flips = count_one flips single in
    elim (cases_lt at.before 43) [
      | inl before ↦ one at.before (length flips - 43 - (at.before + 1))
          (ap left_in at.bits ∙ before_area at.before at.after (length flips - 43) before
          (omega (arith, before, long)) (omega (arith, at.size, long)))
      | inr within ↦ in_area-left (at.before - 43) at.after flips
          (at.bits ∙ ap (λ n. replicate n false ++ true ∷ replicate at.after false)
          (let e : at.before ≡ 43 + (at.before - 43) = omega (arith, within) in e))
    ]

-- ---- the window of an area
length-last : (before : List Bool) → length (drop (length before) (replicate 43 false ++ before)) ≡ 43
length-last before =
    omega (
      arith,
      length-drop (length before) (replicate 43 false ++ before),
      length-append
          (replicate 43 false) before,
      length-replicate 43 false,
    )

pub length-window : (before area : List Bool) → length (window before area) ≡ 43 + length area
length-window before area =
    omega (arith, length-append (drop (length before) (replicate 43 false ++ before)) area, length-last before)

-- what is descrambled of the flips of an area behind others
pub left_in-window : (before area : List Bool)
    → drop (length before) (descrambled (before ++ area)) ≡ left_in (window before area)
left_in-window before area =
    let last : List Bool = drop (length before) (replicate 43 false ++ before) in
    ap (drop (length before)) (descramble-append 43 before area)
    ∙ drop_at (descrambled before) (xors area (last ++ area)) (length before) (length-descrambled before)
    ∙ ap (λ l. xors l (last ++ area)) (sym (drop_at last area 43 (length-last before)))

pub left_in-area_none : (before area : List Bool) → count (window before area) ≡ 0
    → drop (length before) (descrambled (before ++ area)) ≡ replicate (length area) false
left_in-area_none before area none =
    left_in-window before area ∙ left_in-none (window before area) none
    ∙ ap (λ n. replicate n false) (let e : length (window before area) - 43 ≡ length area = omega
    (arith, length-window before area) in e)

pub left_in-area_one : (before area : List Bool) → 43 ≤ length area → count (window before area) ≡ 1
    → IsOneOrTwo (drop (length before) (descrambled (before ++ area)))
left_in-area_one before area long single =
    subst IsOneOrTwo (sym (left_in-window before area))
    (left_in-one (window before area) single (omega (arith, length-window before area)))
