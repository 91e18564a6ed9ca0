-- Octets and their hexadecimal digits: by lanes of sixteen, pair by pair, decoded and encoded.
use Rattle.std.proofs.Common.{◌≡◌, ℕ, ◌+◌, ◌%◌, ◌<◌, ◌||◌, Bool, false, nat_lt, map, bit_or, get_or, refl, sym, ap, ◌∙◌}
use Rattle.std.proofs.Common.{arith, ◌⊎◌, inl, inr, zero, suc, ◌*◌, ◌≤◌, ◌^◌, List, [], ◌∷◌, true, cond, length}
use Rattle.std.proofs.Common.{replicate, nat_eq, ltb, Option, Some, None, if◌then◌else◌, Fits, w8, ltb-true, ltb-false}
use Rattle.std.proofs.Common.{◌≢◌, ◌-◌, ◌/◌, ◌&&◌, ◌++◌, take, drop, slice_index, slice_set, Ok, ap₂, subst}
use Rattle.std.proofs.Common.{length-take, take-add, append-nil, length-append, length-drop, take_at, drop-drop}
use Rattle.std.proofs.Common.{get_or-take, get_or-drop, get_or-set_same, get_or-set_other}
use Rattle.std.specs.List.{range_with_len}
use Rattle.std.proofs.lemmas.List.FromFn.{get_or-map-range_with_len}
use Rattle.hex.specs.Hex.{is_hex_digit, hex_digit_value, decode_of, decode_pairs, pair_value, encode_with, encode_lower}
use Rattle.hex.specs.Hex.{lower_digits}
use Rattle.std.proofs.lemmas.Bool.Decides.{nat_tests}
use Rattle.std.proofs.lemmas.Simd.{length-zip2, get_or-zip2, get_or-replicate, map-map, mask_l-mod, Each1-get_or}
use Rattle.std.proofs.lemmas.List.{length-map, get_or-map, drop_all, get_or-append_right, set-get_or}
use Rattle.std.proofs.lemmas.List.{get_or_append_left}
use Rattle.std.proofs.lemmas.Bool.{cases_lt, agree_below, agree_below_at, and_parts}
use Rattle.std.proofs.lemmas.Nat.{le_or_l, le_or_r, or_lt}
use lib.Lanes.{zip2, sel_l, top, mask_l, Each1}
use borrow.Rule.Slice.PartMut.{put_mid}
use Rattle.std.proofs.lemmas.Slice.{take-put_mid, take-put_mid_below}
use Rattle.hex.proofs.Pairs.{prepend, decode_start, decode_step, decode_done}
use Rattle.hex.proofs.HexLemmas.{decode_of-ok}

-- ---- The digits among the 256 characters.
-- between `0` and `9`, or between `a` and `f` once the bit that tells the cases apart is set
abbrev pub between : ℕ → Bool
between c = nat_lt ((c + 208) % 256) 10 || nat_lt ((bit_or c 32 + 159) % 256) 6

all_characters : map between (range_with_len 0 256) ≡ map is_hex_digit (range_with_len 0 256)
all_characters = refl

pub digit_between : (c : ℕ) → c < 256 → between c ≡ is_hex_digit c
digit_between c h =
    sym (get_or-map-range_with_len between 0 256 c c false h (omega arith))
    ∙ ap (λ l. get_or l c false) all_characters
    ∙ get_or-map-range_with_len is_hex_digit 0 256 c c false h (omega arith)

-- ---- Lanes of vectors that were computed lane by lane.
-- ---- from one vector
-- a choice between two by a comparison of two
chosen_maps : (h : ℕ → ℕ → ℕ) (f g p q : ℕ → ℕ) (v : List ℕ) →
    sel_l (map (top 7) (zip2 h (map f v) (map g v))) (map p v) (map q v)
    ≡ map (λ x. cond (top 7 (h (f x) (g x))) (p x) (q x)) v
chosen_maps h f g p q [] = refl
chosen_maps h f g p q (x ∷ v) =
    ap (λ (l : List ℕ). cond (top 7 (h (f x) (g x))) (p x) (q x) ∷ l) (chosen_maps h f g p q v)

pub chosen : (h : ℕ → ℕ → ℕ) (f g p q : ℕ → ℕ) (v : List ℕ) {a b c d : List ℕ} → a ≡ map f v → b ≡ map g v →
    c ≡ map p v → d ≡ map q v →
    sel_l (map (top 7) (zip2 h a b)) c d ≡ map (λ x. cond (top 7 (h (f x) (g x))) (p x) (q x)) v
chosen h f g p q v {a} {b} {c} {d} one two three four =
    (λ i. sel_l (map (top 7) (zip2 h (one i) (two i))) (three i) (four i)) ∙ chosen_maps h f g p q v

-- the values of digits and of no others are below sixteen, by a table of all characters
lane_tells : (f : ℕ → ℕ) (v w : List ℕ) → w ≡ map f v →
    agree_below (λ c. nat_lt (f c) 16) is_hex_digit 256 ≡ true →
    (i : ℕ) → i < length v → get_or v i 0 < 256 → nat_lt (get_or w i 0) 16 ≡ is_hex_digit (get_or v i 0)
lane_tells f v w is table i below fits =
    ap (λ (l : List ℕ). nat_lt (get_or l i 0) 16) is
    ∙ ap (λ (n : ℕ). nat_lt n 16) (get_or-map f v i 0 0 below)
    ∙ agree_below_at (λ c. nat_lt (f c) 16) is_hex_digit 256 (get_or v i 0) table fits

-- the value of a character, where it is a digit
abbrev pub digit_by : (ℕ → ℕ) → ℕ → Option ℕ
digit_by f c = if is_hex_digit c then Some (f c) else None

by_digit : (f : ℕ → ℕ) (c : ℕ) (b : Bool) → b ≡ true → (if b then Some (f c) else None) ≡ Some (f c)
by_digit f c true is = refl
by_digit f c false is = absurd cc

lane_digit : (f : ℕ → ℕ) (v w : List ℕ) → w ≡ map f v →
    map (digit_by f) (range_with_len 0 256) ≡ map hex_digit_value (range_with_len 0 256) →
    (i : ℕ) → i < length v → get_or v i 0 < 256 → is_hex_digit (get_or v i 0) ≡ true →
    hex_digit_value (get_or v i 0) ≡ Some (get_or w i 0)
lane_digit f v w is table i below fits digit =
    let c : ℕ = get_or v i 0 in
    sym (get_or-map-range_with_len hex_digit_value 0 256 c c None fits (omega arith))
    ∙ sym (ap (λ (l : List (Option ℕ)). get_or l c None) table)
    ∙ get_or-map-range_with_len (digit_by f) 0 256 c c None fits (omega arith)
    ∙ by_digit f c (is_hex_digit c) digit
    ∙ ap Some (sym (ap (λ (l : List ℕ). get_or l i 0) is ∙ get_or-map f v i 0 0 below))

-- of each character, whether it is a digit, and its value where it is one
abbrev pub IsValue : ℕ → ℕ → Type 0
IsValue c v = (nat_lt v 16 ≡ is_hex_digit c) × (is_hex_digit c ≡ true → hex_digit_value c ≡ Some v)

pub all_values : (f : ℕ → ℕ) (v w : List ℕ) → w ≡ map f v → agree_below (λ c. nat_lt (f c) 16) is_hex_digit 256 ≡ true →
    map (digit_by f) (range_with_len 0 256) ≡ map hex_digit_value (range_with_len 0 256) →
    length v ≡ 16 → Each1 (Fits w8) v →
    (length w ≡ 16) × ((i : ℕ) → i < 16 → IsValue (get_or v i 0) (get_or w i 0))
all_values f v w is tests values long fits = (
  ap (λ (l : List ℕ). length l) is ∙ length-map v f ∙ long,
  λ i below.
      let inside : i < length v = omega (arith, long, below) in
      let octet : get_or v i 0 < 256 = omega (arith, (Each1-get_or (Fits w8) v i 0 inside fits).fits) in
      (lane_tells f v w is tests i inside octet, lane_digit f v w is values i inside octet),
)

-- a value below sixteen is that of a digit
pub digit_from : (c v : ℕ) → IsValue c v → v < 16 → hex_digit_value c ≡ Some v
digit_from c v is small =
    let less : nat_lt v 16 ≡ true = grind (arith, nat_tests) in is.1 (sym is.0 ∙ less)

-- and another isn't
pub other_from : (c v : ℕ) → IsValue c v → 16 ≤ v → is_hex_digit c ≡ false
other_from c v is high = let more : nat_lt v 16 ≡ false = grind (arith, nat_tests) in sym is.0 ∙ more

-- ---- from two vectors
pub two_long : (f g : ℕ → ℕ → ℕ) (u l : List ℕ) → length u ≡ 16 → length l ≡ 16 →
    length (zip2 f (zip2 g u (replicate 16 16)) l) ≡ 16
two_long f g u l upper lower =
    let inner : length (zip2 g u (replicate 16 16)) ≡ 16 = length-zip2 g u (replicate 16 16) upper ∙ upper in
    length-zip2 f (zip2 g u (replicate 16 16)) l (inner ∙ sym lower) ∙ inner

pub two_lane : (f g : ℕ → ℕ → ℕ) (u l : List ℕ) → length u ≡ 16 → length l ≡ 16 → (i : ℕ) → i < 16 →
    get_or (zip2 f (zip2 g u (replicate 16 16)) l) i 0 ≡ f (g (get_or u i 0) 16) (get_or l i 0)
two_lane f g u l upper lower i below =
    let inner : length (zip2 g u (replicate 16 16)) ≡ 16 = length-zip2 g u (replicate 16 16) upper ∙ upper in
    get_or-zip2 f (zip2 g u (replicate 16 16)) l i 0 0 0 (omega (arith, inner, below)) (omega (arith, lower, below))
    ∙ ap (λ (n : ℕ). f n (get_or l i 0))
    (get_or-zip2 g u (replicate 16 16) i 0 0 0 (omega (arith, upper, below)) below
    ∙ ap (g (get_or u i 0)) (get_or-replicate 16 i 16 0 below))

-- ---- the mask of the lanes that pass a test
bit_clear : (b : Bool) (m : ℕ) → cond b 1 0 + 2 * m ≡ 0 → (b ≡ false) × (m ≡ 0)
bit_clear true m none = absurd (omega (arith, none))
bit_clear false m none = (refl, omega (arith, none))

all_clear : (p : ℕ → Bool) (v : List ℕ) → mask_l (map p v) ≡ 0 → (i : ℕ) → i < length v → p (get_or v i 0) ≡ false
all_clear p [] none i below = absurd (omega arith)
all_clear p (x ∷ v) none zero below = (bit_clear (p x) (mask_l (map p v)) none).0
all_clear p (x ∷ v) none (suc i) below =
    all_clear p v (bit_clear (p x) (mask_l (map p v)) none).1 i (omega (arith, below))

bit_set : (b : Bool) (m : ℕ) → 0 < cond b 1 0 + 2 * m → (b ≡ true) ⊎ (0 < m)
bit_set true m some = inl refl
bit_set false m some = inr (omega (arith, some))

some_set : (p : ℕ → Bool) (v : List ℕ) → 0 < mask_l (map p v) →
    (i : ℕ) × (i < length v) × (p (get_or v i 0) ≡ true)
some_set p [] some = absurd (omega (arith, some))
some_set p (x ∷ v) some = elim (bit_set (p x) (mask_l (map p v)) some) [
  | inl set ↦ (0, omega arith, set)
  | inr more ↦ let later = some_set p v more in (suc later.0, omega (arith, later.1), later.2)
]

-- ---- lanes above fifteen
abbrev above : ℕ → ℕ → ℕ
above a b = cond (ltb a b) 255 0

abbrev large : ℕ → Bool
large x = top 7 (above 15 x)

large_yes : (x : ℕ) (b : Bool) → ltb 15 x ≡ b → top 7 (cond b 255 0) ≡ true → 16 ≤ x
large_yes x true e set = omega (arith, ltb-true 15 x e)
large_yes x false e set = absurd cc

large_no : (x : ℕ) (b : Bool) → ltb 15 x ≡ b → top 7 (cond b 255 0) ≡ false → x < 16
large_no x true e clear = absurd cc
large_no x false e clear = omega (arith, ltb-false 15 x e)

above_splat : (v : List ℕ) → zip2 above (replicate (length v) 15) v ≡ map (above 15) v
above_splat [] = refl
above_splat (x ∷ v) = ap (λ (l : List ℕ). above 15 x ∷ l) (above_splat v)

mask_is : (v : List ℕ) → length v ≡ 16 →
    mask_l (map (top 7) (zip2 above (replicate 16 15) v)) % 2 ^ 64 ≡ mask_l (map large v)
mask_is v long =
    ap (λ (l : List ℕ). mask_l (map (top 7) l) % 2 ^ 64)
    (ap (λ (n : ℕ). zip2 above (replicate n 15) v) (sym long) ∙ above_splat v)
    ∙ ap (λ (l : List Bool). mask_l l % 2 ^ 64) (map-map (top 7) (above 15) v)
    ∙ mask_l-mod (map large v) 64 (omega (arith, length-map v large, long))

module _ (u l : List ℕ) (upper : length u ≡ 16) (lower : length l ≡ 16) where
  long : length (zip2 bit_or u l) ≡ 16
  long = length-zip2 bit_or u l (upper ∙ sym lower) ∙ upper

  lane : (i : ℕ) → i < 16 → get_or (zip2 bit_or u l) i 0 ≡ bit_or (get_or u i 0) (get_or l i 0)
  lane i below = get_or-zip2 bit_or u l i 0 0 0 (omega (arith, upper, below)) (omega (arith, lower, below))

  -- no lane of either is above fifteen
  pub both_small : nat_eq (mask_l (map (top 7) (zip2 above (replicate 16 15) (zip2 bit_or u l))) % 2 ^ 64) 0 ≡ true →
      (i : ℕ) → i < 16 → (get_or u i 0 < 16) × (get_or l i 0 < 16)
  both_small none i below =
      let m : ℕ = mask_l (map (top 7) (zip2 above (replicate 16 15) (zip2 bit_or u l))) % 2 ^ 64 in
      let zero_ : m ≡ 0 = grind (arith, nat_tests) in
      let clear = all_clear large (zip2 bit_or u l) (sym (mask_is (zip2 bit_or u l) long) ∙ zero_) i
      (omega (arith, long, below)) in
      let small : get_or (zip2 bit_or u l) i 0 < 16 = large_no _ _ refl clear in (
        omega (arith, small, lane i below, le_or_l (get_or u i 0) (get_or l i 0)),
        omega (arith, small, lane i below, le_or_r (get_or u i 0) (get_or l i 0)),
      )

  either : (i : ℕ) → i < 16 → 16 ≤ get_or (zip2 bit_or u l) i 0 → (16 ≤ get_or u i 0) ⊎ (16 ≤ get_or l i 0)
  either i below large_ = elim (cases_lt (get_or u i 0) 16) [
    | inr high ↦ inl high
    | inl small ↦ elim (cases_lt (get_or l i 0) 16) [
      | inr high ↦ inr high
      | inl other ↦ absurd (omega (arith, large_, lane i below, or_lt 4 (get_or u i 0) (get_or l i 0) small other))
    ]
  ]

  -- or one of one is
  pub one_large : nat_eq (mask_l (map (top 7) (zip2 above (replicate 16 15) (zip2 bit_or u l))) % 2 ^ 64) 0 ≡ false →
      (i : ℕ) × (i < 16) × ((16 ≤ get_or u i 0) ⊎ (16 ≤ get_or l i 0))
  one_large some =
      let m : ℕ = mask_l (map (top 7) (zip2 above (replicate 16 15) (zip2 bit_or u l))) % 2 ^ 64 in
      let more : 0 < m = grind (arith, nat_tests) in
      let it = some_set large (zip2 bit_or u l) (omega (arith, more, mask_is (zip2 bit_or u l) long)) in
      let below : it.0 < 16 = omega (arith, it.1, long) in
      (it.0, below, either it.0 below (large_yes _ _ refl it.2))

-- ---- A pair of digits, and one that holds another character.
-- the octet of two digits
pub pair_value-digits : (a b i v w : ℕ) → hex_digit_value a ≡ Some v → hex_digit_value b ≡ Some w →
    pair_value a b i ≡ Ok (v * 16 + w)
pair_value-digits a b i v w high low = rw (high, low) refl

-- some character below a place is no digit
pub record HasOther (text : List ℕ) (place : ℕ) : Type 0 where
  pub at : ℕ
  pub within : at < place
  pub other : is_hex_digit (slice_index text at) ≡ false

-- so nothing is decoded
pub other_refused : (text : List ℕ) (place : ℕ) → place ≤ length text → HasOther text place → (bytes : List ℕ) →
    decode_of text ≢ Ok bytes
other_refused text place fits has bytes ok =
    let digit = (decode_of-ok text bytes ok).1 has.at 0 (omega (arith, has.within)) in
    let other = has.other in
    absurd cc

-- one more pair
pub other_more : (text : List ℕ) (i : ℕ) (right a b : Bool) → (right ≡ false → HasOther text (2 * i)) →
    a ≡ is_hex_digit (slice_index text (2 * i)) →
    b ≡ is_hex_digit (slice_index text (2 * i + 1)) → right && a && b ≡ false → HasOther text (2 * (i + 1))
other_more text i false a b had high low wrong = let has = had refl in
    record { at = has.at; within = omega (arith, has.within); other = has.other }
other_more text i true false b had high low wrong = record { at = 2 * i; within = omega arith; other = cc }
other_more text i true true false had high low wrong = record { at = 2 * i + 1; within = omega arith; other = cc }
other_more text i true true true had high low wrong = absurd cc

-- octets that were written after those before, in a vector that was made longer for them
pub written_after : (start len : ℕ) (old more xs ys end : List ℕ) → length old ≡ start → xs ≡ old ++ more →
    length ys ≡ length xs - start → len ≡ length xs →
    take len ((take start xs ++ (ys ++ drop (length xs - start) (drop start xs))) ++ end) ≡ old ++ ys
written_after start len old more xs ys end before is size all =
    let front : take start xs ≡ old = ap (take start) is ∙ take_at old more start before in
    let none : drop (length xs - start) (drop start xs) ≡ [] =
    drop_all (length xs - start) (drop start xs) (omega (arith, length-drop start xs)) in
    let joined : take start xs ++ (ys ++ drop (length xs - start) (drop start xs)) ≡ old ++ ys =
    ap₂ (λ l m. l ++ (ys ++ m)) front none ∙ ap (λ l. old ++ l) (append-nil ys) in
    ap (λ l. take len (l ++ end)) joined
    ∙ take_at (old ++ ys) end len (omega (arith, length-append old ys, ap length is, length-append old more))

-- the octet at a place is that of its pair of digits
abbrev pub IsOctet : List ℕ → List ℕ → ℕ → Type 0
IsOctet text octets i =
    (hex_digit_value (slice_index text (2 * i)) ≡ Some (slice_index octets i / 16))
    × (hex_digit_value (slice_index text (2 * i + 1)) ≡ Some (slice_index octets i % 16))

-- the octets of the pairs below a place are written, if all were digits; else one wasn't
pub record AreRead (text octets : List ℕ) (n : ℕ) (right : Bool) : Type 0 where
  pub yes : right ≡ true → (i : ℕ) → i < n → IsOctet text octets i
  pub no : right ≡ false → HasOther text (2 * n)

-- another octet with the same value
same_octet : (text octets others : List ℕ) (i : ℕ) → slice_index others i ≡ slice_index octets i →
    IsOctet text octets i → IsOctet text others i
same_octet text octets others i same is =
    (is.0 ∙ ap (λ (o : ℕ). Some (o / 16)) (sym same), is.1 ∙ ap (λ (o : ℕ). Some (o % 16)) (sym same))

-- the octet of two values
is_octet : (text octets : List ℕ) (i v w : ℕ) → v < 16 → w < 16 → slice_index octets i ≡ v * 16 + w →
    hex_digit_value (slice_index text (2 * i)) ≡ Some v → hex_digit_value (slice_index text (2 * i + 1)) ≡ Some w →
    IsOctet text octets i
is_octet text octets i v w small_v small_w is high low =
    let front : v ≡ slice_index octets i / 16 = omega (arith, is) in
    let back : w ≡ slice_index octets i % 16 = omega (arith, is) in
    (high ∙ ap Some front, low ∙ ap Some back)

-- one more pair
pub pair_read : (text octets : List ℕ) (i v w : ℕ) (right a b : Bool) → i < length octets → v < 16 → w < 16 →
    a ≡ is_hex_digit (slice_index text (2 * i)) → b ≡ is_hex_digit (slice_index text (2 * i + 1)) →
    (is_hex_digit (slice_index text (2 * i)) ≡ true → hex_digit_value (slice_index text (2 * i)) ≡ Some v) →
    (is_hex_digit (slice_index text (2 * i + 1)) ≡ true → hex_digit_value (slice_index text (2 * i + 1)) ≡ Some w)
    → AreRead text octets i right → AreRead text (slice_set octets i (v * 16 + w)) (i + 1) (right && a && b)
pair_read text octets i v w right a b room small_v small_w high low is_v is_w so_far = record {
  yes = λ all k below.
      let both = and_parts (right && a) b all in
      let front = and_parts right a both.0 in
      elim (cases_lt k i) [
        | inl less ↦ same_octet text octets (slice_set octets i (v * 16 + w)) k
            (get_or-set_other octets i k (v * 16 + w) 0 (λ e. absurd (omega (arith, less, e))))
            (so_far.yes front.0 k less)
        | inr least ↦
            let here : k ≡ i = omega (arith, below, least) in
            subst (IsOctet text (slice_set octets i (v * 16 + w))) (sym here)
            (is_octet text (slice_set octets i (v * 16 + w)) i v w small_v small_w
            (get_or-set_same octets i (v * 16 + w) 0 room) (is_v (sym high ∙ front.1)) (is_w (sym low ∙ both.1)))
      ];
  no = other_more text i right a b so_far.no high low;
}

-- sixteen more pairs
module _ (text octets piece : List ℕ) (a k : ℕ) (wide : k ≡ 16) (long : length piece ≡ 16)
    (room : a + 16 ≤ length octets) where
  abbrev written : List ℕ
  written = put_mid a k octets piece

  front : (i : ℕ) → i < a → slice_index written i ≡ slice_index octets i
  front i below =
      sym (get_or-take a written i 0 below)
      ∙ ap (λ (l : List ℕ). get_or l i 0) (take-put_mid_below a k octets piece a (omega arith) (omega arith))
      ∙ get_or-take a octets i 0 below

  behind : (j : ℕ) → j < 16 → slice_index written (a + j) ≡ slice_index piece j
  behind j below =
      sym (get_or-take (a + 16) written (a + j) 0 (omega arith))
      ∙ ap (λ (l : List ℕ). get_or l (a + j) 0)
      (take-put_mid a k octets piece (a + 16) (omega (arith, long)) (omega arith))
      ∙ get_or-append_right (take a octets) piece a (a + j) 0 (omega (arith, length-take a octets, room)) (omega arith)
      ∙ (let e : a + j - a ≡ j = omega arith in ap (λ (m : ℕ). get_or piece m 0) e)

  sixteen_other : (right more : Bool) → (right ≡ false → HasOther text (2 * a)) →
      (more ≡ false → (i : ℕ) × (i < 32) × (is_hex_digit (slice_index text (2 * a + i)) ≡ false)) →
      right && more ≡ false → HasOther text (2 * (a + 16))
  sixteen_other false more had other wrong =
      let has = had refl in record { at = has.at; within = omega (arith, has.within); other = has.other }
  sixteen_other true false had other wrong =
      let has = other refl in record { at = 2 * a + has.0; within = omega (arith, has.1); other = has.2 }
  sixteen_other true true had other wrong = absurd cc

  pub sixteen_read : (right more : Bool) →
      (more ≡ true → (i : ℕ) → i < 16 →
      hex_digit_value (slice_index text (2 * a + 2 * i)) ≡ Some (slice_index piece i / 16)) →
      (more ≡ true → (i : ℕ) → i < 16 →
      hex_digit_value (slice_index text (2 * a + 2 * i + 1)) ≡ Some (slice_index piece i % 16)) →
      (more ≡ false → (i : ℕ) × (i < 32) × (is_hex_digit (slice_index text (2 * a + i)) ≡ false)) →
      AreRead text octets a right → AreRead text (put_mid a k octets piece) (a + 16) (right && more)
  sixteen_read right more upper lower other so_far = record {
    yes = λ all i below.
        let both = and_parts right more all in
        elim (cases_lt i a) [
          | inl less ↦ same_octet text octets written i (front i less) (so_far.yes both.0 i less)
          | inr least ↦
              let place : a + (i - a) ≡ i = omega (arith, least) in
              let at : 2 * a + 2 * (i - a) ≡ 2 * i = omega (arith, least) in
              let octet : slice_index piece (i - a) ≡ slice_index written i =
              sym (behind (i - a) (omega (arith, below, least))) ∙ ap (slice_index written) place in (
                ap (λ (m : ℕ). hex_digit_value (slice_index text m)) (sym at)
                    ∙ upper both.1 (i - a) (omega (arith, below, least)) ∙ ap (λ (o : ℕ). Some (o / 16)) octet,
                ap (λ (m : ℕ). hex_digit_value (slice_index text (m + 1))) (sym at)
                    ∙ lower both.1 (i - a) (omega (arith, below, least)) ∙ ap (λ (o : ℕ). Some (o % 16)) octet,
              )
        ];
    no = sixteen_other right more so_far.no other;
  }

-- all pairs
module _ (text octets : List ℕ) (size : length text ≡ 2 * length octets)
    (all : (i : ℕ) → i < length octets → IsOctet text octets i) where
  pair : (i : ℕ) → i < length octets →
      pair_value (slice_index text (2 * i)) (slice_index text (2 * i + 1)) (2 * i) ≡ Ok (slice_index octets i)
  pair i below =
      pair_value-digits (slice_index text (2 * i)) (slice_index text (2 * i + 1)) (2 * i) (slice_index octets i / 16)
      (slice_index octets i % 16) (all i below).0 (all i below).1
      ∙ (let e : slice_index octets i / 16 * 16 + slice_index octets i % 16 ≡ slice_index octets i = omega arith in
      ap Ok e)

  so_many : (n : ℕ) → n ≤ length octets →
      decode_pairs 0 text ≡ prepend (take n octets) (decode_pairs (2 * n) (drop (2 * n) text))
  so_many zero within = decode_start text octets
  so_many (suc n) within =
      let one = decode_step text octets n (slice_index octets n) (omega (arith, size, within)) (omega (arith, within))
      (pair n (omega (arith, within))) (so_many n (omega (arith, within))) in
      let same : slice_set octets n (slice_index octets n) ≡ octets = set-get_or octets n 0 in
      let next : n + 1 ≡ suc n = omega arith in
      let kept = rw same at one in rw next at kept

  pub all_read : decode_pairs 0 text ≡ Ok octets
  all_read = decode_done text octets (length octets) (omega arith) (omega (arith, size))
      (so_many (length octets) (omega arith))

-- ---- characters in columns
sixteen_in_turn : (text : List ℕ) (at k : ℕ) → k < 32 →
    get_or (take 16 (drop at text) ++ take 16 (drop (at + 16) text)) k 0 ≡ slice_index text (at + k)
sixteen_in_turn text at k below =
    ap (λ (l : List ℕ). get_or l k 0)
    (ap (λ (l : List ℕ). take 16 (drop at text) ++ take 16 l) (sym (drop-drop 16 at text))
    ∙ sym (take-add 16 16 (drop at text)))
    ∙ get_or-take 32 (drop at text) k 0 below ∙ get_or-drop at text k 0

pub first_column : (text : List ℕ) (at n : ℕ) → n < 16 →
    get_or (map (λ k. get_or (take 16 (drop at text) ++ take 16 (drop (at + 16) text)) (2 * k) 0) (range_with_len 0 16))
    n 0 ≡ slice_index text (at + 2 * n)
first_column text at n below =
    get_or-map-range_with_len (λ k. get_or (take 16 (drop at text) ++ take 16 (drop (at + 16) text)) (2 * k) 0) 0 16 n n
    0 below (omega arith)
    ∙ sixteen_in_turn text at (2 * n) (omega arith)

pub second_column : (text : List ℕ) (at n : ℕ) → n < 16 →
    get_or (map (λ k. get_or (take 16 (drop at text) ++ take 16 (drop (at + 16) text)) (2 * k + 1) 0)
    (range_with_len 0 16)) n 0 ≡ slice_index text (at + 2 * n + 1)
second_column text at n below =
    get_or-map-range_with_len (λ k. get_or (take 16 (drop at text) ++ take 16 (drop (at + 16) text)) (2 * k + 1) 0) 0 16
    n n 0 below (omega arith)
    ∙ sixteen_in_turn text at (2 * n + 1) (omega arith)
    ∙ ap (λ (m : ℕ). slice_index text m) (let e : at + (2 * n + 1) ≡ at + 2 * n + 1 = omega arith in e)

-- ---- Sixteen octets and their digits.
-- ---- two texts, one behind the other
pub encode-append : (digits xs ys : List ℕ) →
    encode_with digits (xs ++ ys) ≡ encode_with digits xs ++ encode_with digits ys
unfolding encode_with
encode-append digits [] ys = refl
encode-append digits (x ∷ xs) ys =
    ap (λ l. slice_index digits (x / 16) ∷ slice_index digits (x % 16) ∷ l) (encode-append digits xs ys)

-- ---- the lanes of two vectors in turn
left : (a b : List ℕ) (k : ℕ) → length a ≡ 16 → k < 16 → get_or (a ++ b) k 0 ≡ get_or a k 0
left a b k e h = get_or_append_left a b 0 k (omega arith)

right : (a b : List ℕ) (k : ℕ) → length a ≡ 16 → get_or (a ++ b) (16 + k) 0 ≡ get_or b k 0
right a b k e =
    get_or-append_right a b 16 (16 + k) 0 e (omega arith)
    ∙ (let same : 16 + k - 16 ≡ k = omega arith in ap (λ n. get_or b n 0) same)

abbrev pub front_lanes : List ℕ → List ℕ → List ℕ
front_lanes a b = get_or (a ++ b) 0 0 ∷ get_or (a ++ b) 16 0 ∷ get_or (a ++ b) 1 0 ∷ get_or (a ++ b) 17 0 ∷ get_or
    (a ++ b) 2 0 ∷ get_or (a ++ b) 18 0 ∷ get_or (a ++ b) 3 0 ∷ get_or (a ++ b) 19 0 ∷ get_or (a ++ b) 4 0 ∷ get_or
    (a ++ b) 20 0 ∷ get_or (a ++ b) 5 0 ∷ get_or (a ++ b) 21 0 ∷ get_or (a ++ b) 6 0 ∷ get_or (a ++ b) 22 0 ∷ get_or
    (a ++ b) 7 0 ∷ get_or (a ++ b) 23 0 ∷ []

abbrev pub back_lanes : List ℕ → List ℕ → List ℕ
back_lanes a b = get_or (a ++ b) 8 0 ∷ get_or (a ++ b) 24 0 ∷ get_or (a ++ b) 9 0 ∷ get_or (a ++ b) 25 0 ∷ get_or
    (a ++ b) 10 0 ∷ get_or (a ++ b) 26 0 ∷ get_or (a ++ b) 11 0 ∷ get_or (a ++ b) 27 0 ∷ get_or (a ++ b) 12 0 ∷ get_or
    (a ++ b) 28 0 ∷ get_or (a ++ b) 13 0 ∷ get_or (a ++ b) 29 0 ∷ get_or (a ++ b) 14 0 ∷ get_or (a ++ b) 30 0 ∷ get_or
    (a ++ b) 15 0 ∷ get_or (a ++ b) 31 0 ∷ []

-- sixteen octets as they are
sixteen_are : (octets : List ℕ) → length octets ≡ 16 →
    octets ≡ get_or octets 0 0 ∷ get_or octets 1 0 ∷ get_or octets 2 0 ∷ get_or octets 3 0 ∷ get_or octets 4 0 ∷ get_or
    octets 5 0 ∷ get_or octets 6 0 ∷ get_or octets 7 0 ∷ get_or octets 8 0 ∷ get_or octets 9 0 ∷ get_or octets 10 0 ∷
    get_or octets 11 0 ∷ get_or octets 12 0 ∷ get_or octets 13 0 ∷ get_or octets 14 0 ∷ get_or octets 15 0 ∷ []
sixteen_are (a ∷ b ∷ c ∷ d ∷ e ∷ f ∷ g ∷ h ∷ i ∷ j ∷ k ∷ l ∷ m ∷ n ∷ o ∷ p ∷ []) size = refl
sixteen_are octets size = absurd (omega arith)

module _ (a b octets : List ℕ) (size : length a ≡ 16)
    (uppers : (k : ℕ) → k < 16 → slice_index a k ≡ slice_index lower_digits (slice_index octets k / 16))
    (lowers : (k : ℕ) → k < 16 → slice_index b k ≡ slice_index lower_digits (slice_index octets k % 16)) where
  -- the two digits of an octet, and those behind them
  pair-sixteen : (k : ℕ) (l m : List ℕ) → k < 16 → l ≡ m →
      get_or (a ++ b) k 0 ∷ get_or (a ++ b) (16 + k) 0 ∷ l
      ≡ slice_index lower_digits (slice_index octets k / 16) ∷ slice_index lower_digits (slice_index octets k % 16) ∷ m
  pair-sixteen k l m h e = ap₂ ◌∷◌ (left a b k size h ∙ uppers k h) (ap₂ ◌∷◌ (right a b k size ∙ lowers k h) e)

  pub is-text : length octets ≡ 16 → front_lanes a b ++ back_lanes a b ≡ encode_lower octets
  unfolding encode_with
  is-text many =
      pair-sixteen 0 _ _ (omega arith)
      (pair-sixteen 1 _ _ (omega arith)
      (pair-sixteen 2 _ _ (omega arith)
      (pair-sixteen 3 _ _ (omega arith)
      (pair-sixteen 4 _ _ (omega arith)
      (pair-sixteen 5 _ _ (omega arith)
      (pair-sixteen 6 _ _ (omega arith)
      (pair-sixteen 7 _ _ (omega arith)
      (pair-sixteen 8 _ _ (omega arith)
      (pair-sixteen 9 _ _ (omega arith)
      (pair-sixteen 10 _ _ (omega arith)
      (pair-sixteen 11 _ _ (omega arith)
      (pair-sixteen 12 _ _ (omega arith)
      (pair-sixteen 13 _ _ (omega arith)
      (pair-sixteen 14 _ _ (omega arith)
      (pair-sixteen 15 _ _ (omega arith) refl)))))))))))))))
      ∙ ap encode_lower (sym (sixteen_are octets many))
