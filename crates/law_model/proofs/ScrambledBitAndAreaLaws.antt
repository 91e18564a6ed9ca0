-- Scrambling and descrambling of bits, of octets, and of areas, which are joined to one list and cut again.
use Rattle.std.proofs.Common.{◌≡◌, ℕ, zero, suc, ◌+◌, ◌<◌, ◌≤◌, Bool, false, List, [], ◌∷◌, ◌++◌, length, take, drop}
use Rattle.std.proofs.Common.{replicate, get_or, refl, sym, ◌∙◌, ap, ap₂, arith, append_assoc, zero-add, ◌-◌, ◌*◌, All}
use Rattle.std.proofs.Common.{map, sum, length-take, take-add}
use Rattle.std.proofs.lemmas.List.{append-nil, length-append, length-replicate, length-drop, take_all, take_at}
use Rattle.std.proofs.lemmas.List.{drop_at, take-take, take-append-drop, drop-append-le, drop_more, drop-drop}
use Rattle.std.proofs.lemmas.List.{take-append-le, length-map, map-append}
use Rattle.law_model.specs.Common.{xor, xors, scramble_on, IsScrambled, scrambled, descrambled, octet_bits, octets_of}
use Rattle.law_model.specs.Common.{scrambled_octets, descrambled_octets, cut, joined, scrambled_areas}
use Rattle.law_model.specs.Common.{descrambled_areas}
use Rattle.check_remainder.proofs.XorAndBitCountLaws.{length-xors, xors_twice_right, take-xors, drop-xors}
use Rattle.law_model.specs.frames.Scramble.{back}
use Rattle.check_remainder.proofs.NumberAndOctetBitsLaws.{octet_bits-append, length-octet_bits, length-octets_of}
use Rattle.check_remainder.proofs.NumberAndOctetBitsLaws.{octets_of_below, octets_of-octet_bits, octet_bits-octets_of}
use Rattle.check_remainder.proofs.NumberAndOctetBitsLaws.{octets_of-append}
use Rattle.std.proofs.lemmas.List.Sums.{sum_by-cons}
use Rattle.std.proofs.lemmas.List.Concat.{flat_map-append}
use Rattle.std.proofs.lemmas.List.Elements.{All-nil, All-append, All-head, All-tail}

-- ---- The laws of scrambling and descrambling, with any number of places between the bits that are combined.
-- ---- exclusive or of lists, one of which is longer
pub xors-longer : (xs ys zs : List Bool) → length xs ≤ length ys → xors xs (ys ++ zs) ≡ xors xs ys
unfolding xors
xors-longer [] ys zs h = refl
xors-longer (x ∷ xs) [] zs h = absurd (omega arith)
xors-longer (x ∷ xs) (y ∷ ys) zs h = ap (λ l. xor x y ∷ l) (xors-longer xs ys zs (omega arith))

-- one more bit
pub xors_push : (xs ys : List Bool) (b : Bool) → length xs < length ys →
    xors (xs ++ b ∷ []) ys ≡ xors xs ys ++ xor b (get_or ys (length xs) false) ∷ []
unfolding xors
xors_push xs [] b h = absurd (omega arith)
xors_push [] (y ∷ ys) b h = refl
xors_push (x ∷ xs) (y ∷ ys) b h = ap (λ l. xor x y ∷ l) (xors_push xs ys b (omega arith))

pub xors-append_left : (xs more ys : List Bool) → length xs ≤ length ys →
    xors (xs ++ more) ys ≡ xors xs ys ++ xors more (drop (length xs) ys)
unfolding xors
xors-append_left [] more ys h = refl
xors-append_left (x ∷ xs) more [] h = absurd (omega arith)
xors-append_left (x ∷ xs) more (y ∷ ys) h = ap (λ l. xor x y ∷ l) (xors-append_left xs more ys (omega arith))

-- ---- scrambling
pub length-scramble_on : (n : ℕ) (s d : List Bool) → length (scramble_on n s d) ≡ length s + length d
unfolding scramble_on
length-scramble_on n s [] = omega arith
length-scramble_on n s (b ∷ d) =
    let more = s ++ xor b (back n s) ∷ [] in
    omega (arith, length-scramble_on n more d, length-append s (xor b (back n s) ∷ []))

-- bits in two parts
pub scramble_on-append : (n : ℕ) (s d e : List Bool) → scramble_on n s (d ++ e) ≡ scramble_on n (scramble_on n s d) e
unfolding scramble_on
scramble_on-append n s [] e = refl
scramble_on-append n s (b ∷ d) e = scramble_on-append n (s ++ xor b (back n s) ∷ []) d e

-- the scrambled bits begin with those that were there
pub take-scramble_on : (n : ℕ) (s d : List Bool) → take (length s) (scramble_on n s d) ≡ s
unfolding scramble_on
take-scramble_on n s [] = take_all (length s) s (omega arith)
take-scramble_on n s (b ∷ d) =
    let more = s ++ xor b (back n s) ∷ [] in
    let longer : length s ≤ length more = omega (arith, length-append s (xor b (back n s) ∷ [])) in
    sym (take-take (length s) (length more) (scramble_on n more d) longer)
    ∙ ap (take (length s)) (take-scramble_on n more d)
    ∙ take_at s (xor b (back n s) ∷ []) (length s) refl

-- as many bits as there are places, or fewer, are combined with the last of those that were there
pub scramble_on-short : (n : ℕ) (s d : List Bool) → length d ≤ n →
    scramble_on n s d ≡ s ++ xors d (drop (length s) (replicate n false ++ s))
unfolding scramble_on xors
scramble_on-short n s [] h = sym (append-nil s)
scramble_on-short n s (b ∷ d) h =
    let zeros = replicate n false in
    let x = xor b (back n s) in
    let k = length s in
    let size : length (zeros ++ s) ≡ n + k = omega (arith, length-append zeros s, length-replicate n false) in
    let within : k < length (zeros ++ s) = omega arith in
    let one : length (s ++ x ∷ []) ≡ k + 1 = length-append s (x ∷ []) in
    let behind : drop (k + 1) (zeros ++ (s ++ x ∷ [])) ≡ drop (k + 1) (zeros ++ s) ++ x ∷ [] =
    ap (drop (k + 1)) (sym (append_assoc zeros s (x ∷ [])))
    ∙ drop-append-le (k + 1) (zeros ++ s) (x ∷ []) (omega arith) in
    let short : length d ≤ length (drop (k + 1) (zeros ++ s)) = omega (arith, length-drop (k + 1) (zeros ++ s)) in
    let first : drop k (zeros ++ s) ≡ back n s ∷ drop (k + 1) (zeros ++ s) = drop_more (zeros ++ s) k false within in
    scramble_on-short n (s ++ x ∷ []) d (omega arith)
    ∙ append_assoc s (x ∷ []) (xors d (drop (length (s ++ x ∷ [])) (zeros ++ (s ++ x ∷ []))))
    ∙ ap (λ m. s ++ x ∷ xors d (drop m (zeros ++ (s ++ x ∷ [])))) one
    ∙ ap (λ l. s ++ x ∷ xors d l) behind
    ∙ ap (λ l. s ++ x ∷ l) (xors-longer d (drop (k + 1) (zeros ++ s)) (x ∷ []) short)
    ∙ ap (λ l. s ++ xors (b ∷ d) l) (sym first)

-- ---- the recurrence
-- what is scrambled so far meets it, and so does all of it
meets_on : (n : ℕ) (before s d : List Bool) → 0 < n → length before ≡ length s → IsScrambled n before s →
    IsScrambled n (before ++ d) (scramble_on n s d)
unfolding scramble_on
meets_on n before s [] p e h = h ∙ ap (λ l. xors l (replicate n false ++ s)) (sym (append-nil before))
meets_on n before s (b ∷ d) p e h =
    let zeros = replicate n false in
    let x = xor b (back n s) in
    let size : length (zeros ++ s) ≡ n + length s = omega (arith, length-append zeros s, length-replicate n false) in
    let longer : length (before ++ b ∷ []) ≤ length (zeros ++ s) = omega (arith, length-append before (b ∷ [])) in
    let next : IsScrambled n (before ++ b ∷ []) (s ++ x ∷ []) =
    ap₂ (λ l m. l ++ xor b (get_or (zeros ++ s) m false) ∷ []) h (sym e)
    ∙ sym (xors_push before (zeros ++ s) b (omega arith))
    ∙ sym (xors-longer (before ++ b ∷ []) (zeros ++ s) (x ∷ []) longer)
    ∙ ap (xors (before ++ b ∷ [])) (append_assoc zeros s (x ∷ [])) in
    let same : length (before ++ b ∷ []) ≡ length (s ++ x ∷ []) =
    omega (arith, length-append before (b ∷ []), length-append s (x ∷ [])) in
    meets_on n (before ++ b ∷ []) (s ++ x ∷ []) d p same next
    ∙ ap (λ l. xors l (zeros ++ scramble_on n (s ++ x ∷ []) d)) (append_assoc before (b ∷ []) d)

pub meets : (n : ℕ) (d : List Bool) → 0 < n → IsScrambled n d (scramble_on n [] d)
unfolding xors
meets n d p = meets_on n [] [] d p refl refl

-- what a list begins with behind another depends on what it begins with itself
take-behind : (k : ℕ) (front s : List Bool) → take k (front ++ s) ≡ take k (front ++ take k s)
take-behind k [] s = sym (take-take k k s (omega arith))
take-behind zero (x ∷ front) s = refl
take-behind (suc k) (x ∷ front) s =
    ap (λ l. x ∷ l)
    (take-behind k front s
    ∙ ap (λ l. take k (front ++ l)) (sym (take-take k (suc k) s (omega arith)))
    ∙ sym (take-behind k front (take (suc k) s)))

-- two lists that meet it begin alike
begin_alike : (k n : ℕ) (d s t : List Bool) → 0 < n → IsScrambled n d s → IsScrambled n d t → take k s ≡ take k t
begin_alike zero n d s t p h g = refl
begin_alike (suc k) zero d s t p h g = absurd (omega arith)
begin_alike (suc k) (suc n) d s t p h g =
    let zeros = replicate n false in
    let all = replicate (suc n) false in
    let same : take k (zeros ++ s) ≡ take k (zeros ++ t) =
    take-behind k zeros s ∙ ap (λ l. take k (zeros ++ l)) (begin_alike k (suc n) d s t p h g)
    ∙ sym (take-behind k zeros t) in
    ap (take (suc k)) h ∙ take-xors (suc k) d (all ++ s)
    ∙ ap (λ l. xors (take (suc k) d) (false ∷ l)) same
    ∙ sym (take-xors (suc k) d (all ++ t)) ∙ sym (ap (take (suc k)) g)

same_scrambled : (n : ℕ) (d s t : List Bool) → 0 < n → IsScrambled n d s → IsScrambled n d t → s ≡ t
same_scrambled n d s t p h g =
    sym (take_all (length s + length t) s (omega arith))
    ∙ begin_alike (length s + length t) n d s t p h g
    ∙ take_all (length s + length t) t (omega arith)

-- no other list meets it
pub only : (n : ℕ) (d s : List Bool) → 0 < n → IsScrambled n d s → s ≡ scramble_on n [] d
only n d s p h = same_scrambled n d s (scramble_on n [] d) p h (meets n d p)

-- ---- descrambling
-- the bits that are scrambled to s, with so many places between the bits that are combined
abbrev pub descramble : ℕ → List Bool → List Bool
descramble n s = xors s (replicate n false ++ s)

length-zeros_behind : (n : ℕ) (s : List Bool) → length (replicate n false ++ s) ≡ n + length s
length-zeros_behind n s = omega (arith, length-append (replicate n false) s, length-replicate n false)

pub length-descramble : (n : ℕ) (s : List Bool) → length (descramble n s) ≡ length s
length-descramble n s = omega (arith, length-xors s (replicate n false ++ s), length-zeros_behind n s)

pub descramble-scramble_on : (n : ℕ) (d : List Bool) → 0 < n → descramble n (scramble_on n [] d) ≡ d
descramble-scramble_on n d p =
    let s = scramble_on n [] d in
    let longer : length d ≤ length (replicate n false ++ s) =
    omega (arith, length-zeros_behind n s, length-scramble_on n [] d) in
    ap (λ l. xors l (replicate n false ++ s)) (meets n d p) ∙ xors_twice_right d (replicate n false ++ s) longer

-- bits in two parts: those of the second are combined with the last ones of the first
pub descramble-append : (n : ℕ) (s t : List Bool) →
    descramble n (s ++ t) ≡ descramble n s ++ xors t (drop (length s) (replicate n false ++ s) ++ t)
descramble-append n s t =
    let zeros = replicate n false in
    let longer : length s ≤ length (zeros ++ s) = omega (arith, length-zeros_behind n s) in
    ap (xors (s ++ t)) (sym (append_assoc zeros s t))
    ∙ xors-append_left s t ((zeros ++ s) ++ t) (omega (arith, length-append (zeros ++ s) t))
    ∙ ap₂ (λ l m. l ++ xors t m) (xors-longer s (zeros ++ s) t longer) (drop-append-le (length s) (zeros ++ s) t longer)

-- a list combined with itself so many places later
with_itself : (n : ℕ) (front t : List Bool) → length front ≡ n → drop n (xors t (front ++ t)) ≡ xors (drop n t) t
with_itself n front t e = drop-xors n t (front ++ t) ∙ ap (xors (drop n t)) (drop_at front t n e)

-- bits with at least so many before them don't depend on what is before those
pub descramble-behind : (n : ℕ) (s t : List Bool) →
    drop (length s + n) (descramble n (s ++ t)) ≡ drop n (descramble n t)
descramble-behind n s t =
    let last = drop (length s) (replicate n false ++ s) in
    let size : length last ≡ n = omega (arith, length-drop (length s) (replicate n false ++ s), length-zeros_behind n s)
    in
    sym (drop-drop n (length s) (descramble n (s ++ t)))
    ∙ ap (λ l. drop n (drop (length s) l)) (descramble-append n s t)
    ∙ ap (drop n) (drop_at (descramble n s) (xors t (last ++ t)) (length s) (length-descramble n s))
    ∙ with_itself n last t size ∙ sym (with_itself n (replicate n false) t (length-replicate n false))

-- those of the first part don't depend on the second
pub take-descramble : (n : ℕ) (s t : List Bool) → take (length s) (descramble n (s ++ t)) ≡ descramble n s
take-descramble n s t =
    ap (take (length s)) (descramble-append n s t)
    ∙ take_at (descramble n s) (xors t (drop (length s) (replicate n false ++ s) ++ t)) (length s)
    (length-descramble n s)

-- ---- with 43 places
-- a list that begins with another
begins : (k : ℕ) (all front : List Bool) → take k all ≡ front → all ≡ front ++ drop k all
begins k all front e = sym (take-append-drop k all) ∙ ap (λ l. l ++ drop k all) e

pub length-scrambled : (d : List Bool) → length (scrambled d) ≡ length d
length-scrambled d = length-scramble_on 43 [] d ∙ zero-add (length d)

pub take-scrambled : (d e : List Bool) → take (length d) (scrambled (d ++ e)) ≡ scrambled d
take-scrambled d e =
    ap (λ m. take m (scrambled (d ++ e))) (sym (length-scrambled d))
    ∙ ap (take (length (scrambled d))) (scramble_on-append 43 [] d e) ∙ take-scramble_on 43 (scrambled d) e

pub scrambled-append : (d e : List Bool) → scrambled (d ++ e) ≡ scrambled d ++ drop (length d) (scrambled (d ++ e))
scrambled-append d e = begins (length d) (scrambled (d ++ e)) (scrambled d) (take-scrambled d e)

pub scrambled-meets : (d : List Bool) → IsScrambled 43 d (scrambled d)
scrambled-meets d = meets 43 d (omega arith)

pub scrambled-only : (d s : List Bool) → IsScrambled 43 d s → s ≡ scrambled d
scrambled-only d s h = only 43 d s (omega arith) h

pub descrambled-scrambled : (d : List Bool) → descrambled (scrambled d) ≡ d
descrambled-scrambled d = descramble-scramble_on 43 d (omega arith)

pub length-descrambled : (s : List Bool) → length (descrambled s) ≡ length s
length-descrambled s = length-descramble 43 s

pub take-descrambled : (s t : List Bool) → take (length s) (descrambled (s ++ t)) ≡ descrambled s
take-descrambled s t = take-descramble 43 s t

pub descrambled-append : (s t : List Bool) →
    descrambled (s ++ t) ≡ descrambled s ++ drop (length s) (descrambled (s ++ t))
descrambled-append s t = begins (length s) (descrambled (s ++ t)) (descrambled s) (take-descrambled s t)

-- the bits behind the first 43 don't depend on what is before
pub descrambled-behind : (s t : List Bool) → drop (length s + 43) (descrambled (s ++ t)) ≡ drop 43 (descrambled t)
descrambled-behind s t = descramble-behind 43 s t

-- ---- The laws of scrambling and descrambling octets.
-- ---- scrambled octets
pub length-scrambled_octets : (xs : List ℕ) → length (scrambled_octets xs) ≡ length xs
length-scrambled_octets xs = length-octets_of (length xs) (scrambled (octet_bits xs))

-- each is an octet
pub scrambled_octets_below : (xs : List ℕ) → All (λ o. o < 256) (scrambled_octets xs)
scrambled_octets_below xs = octets_of_below (length xs) (scrambled (octet_bits xs))

pub octet_bits-scrambled_octets : (xs : List ℕ) → octet_bits (scrambled_octets xs) ≡ scrambled (octet_bits xs)
octet_bits-scrambled_octets xs =
    octet_bits-octets_of (length xs) (scrambled (octet_bits xs))
    (length-scrambled (octet_bits xs) ∙ length-octet_bits xs)

-- octets in two parts, where the bits of the first part are known, and those behind them
octets_in_parts : (xs ys : List ℕ) (all front behind : List Bool) → all ≡ front ++ behind →
    length front ≡ 8 * length xs →
    take (length xs) (octets_of (length (xs ++ ys)) all) ≡ octets_of (length xs) front
octets_in_parts xs ys all front behind e size =
    ap (take (length xs)) (ap₂ octets_of (length-append xs ys) e
    ∙ octets_of-append (length xs) (length ys) front behind size)
    ∙ take_at (octets_of (length xs) front) (octets_of (length ys) behind) (length xs)
    (length-octets_of (length xs) front)

-- they begin with those of the first part
pub take-scrambled_octets : (xs ys : List ℕ) → take (length xs) (scrambled_octets (xs ++ ys)) ≡ scrambled_octets xs
take-scrambled_octets xs ys =
    let front = scrambled (octet_bits xs) in
    let behind = drop (length (octet_bits xs)) (scrambled (octet_bits xs ++ octet_bits ys)) in
    octets_in_parts xs ys (scrambled (octet_bits (xs ++ ys))) front behind
    (ap scrambled (octet_bits-append xs ys) ∙ scrambled-append (octet_bits xs) (octet_bits ys))
    (length-scrambled (octet_bits xs) ∙ length-octet_bits xs)

begins-scrambled : (k : ℕ) (all front : List ℕ) → take k all ≡ front → all ≡ front ++ drop k all
begins-scrambled k all front e = sym (take-append-drop k all) ∙ ap (λ l. l ++ drop k all) e

pub scrambled_octets-append : (xs ys : List ℕ) →
    scrambled_octets (xs ++ ys) ≡ scrambled_octets xs ++ drop (length xs) (scrambled_octets (xs ++ ys))
scrambled_octets-append xs ys =
    begins-scrambled (length xs) (scrambled_octets (xs ++ ys)) (scrambled_octets xs) (take-scrambled_octets xs ys)

-- ---- descrambled octets
pub length-descrambled_octets : (xs : List ℕ) → length (descrambled_octets xs) ≡ length xs
length-descrambled_octets xs = length-octets_of (length xs) (descrambled (octet_bits xs))

-- they begin with those of the first part
pub take-descrambled_octets : (xs ys : List ℕ) →
    take (length xs) (descrambled_octets (xs ++ ys)) ≡ descrambled_octets xs
take-descrambled_octets xs ys =
    let front = descrambled (octet_bits xs) in
    let behind = drop (length (octet_bits xs)) (descrambled (octet_bits xs ++ octet_bits ys)) in
    octets_in_parts xs ys (descrambled (octet_bits (xs ++ ys))) front behind
    (ap descrambled (octet_bits-append xs ys) ∙ descrambled-append (octet_bits xs) (octet_bits ys))
    (length-descrambled (octet_bits xs) ∙ length-octet_bits xs)

pub descrambled_octets-append : (xs ys : List ℕ) →
    descrambled_octets (xs ++ ys) ≡ descrambled_octets xs ++ drop (length xs) (descrambled_octets (xs ++ ys))
descrambled_octets-append xs ys =
    begins-scrambled (length xs) (descrambled_octets (xs ++ ys)) (descrambled_octets xs) (take-descrambled_octets xs ys)

-- descrambling gives octets back
pub descrambled_octets-scrambled_octets : (xs : List ℕ) → All (λ o. o < 256) xs →
    descrambled_octets (scrambled_octets xs) ≡ xs
descrambled_octets-scrambled_octets xs h =
    ap₂ octets_of (length-scrambled_octets xs)
    (ap descrambled (octet_bits-scrambled_octets xs) ∙ descrambled-scrambled (octet_bits xs))
    ∙ octets_of-octet_bits xs h

-- octets behind the first ones
drop-octets_of : (k n : ℕ) (bs : List Bool) → drop k (octets_of n bs) ≡ octets_of (n - k) (drop (8 * k) bs)
unfolding octets_of
drop-octets_of zero n bs = ap (λ m. octets_of m bs) (let e : n ≡ n - 0 = omega arith in e)
drop-octets_of (suc k) zero bs = ap (λ m. octets_of m (drop (8 * suc k) bs)) (let e : 0 ≡ 0 - suc k = omega arith in e)
drop-octets_of (suc k) (suc n) bs =
    let e : 8 + 8 * k ≡ 8 * suc k = omega arith in
    drop-octets_of k n (drop 8 bs)
    ∙ ap (octets_of (n - k)) (drop-drop (8 * k) 8 bs ∙ ap (λ m. drop m bs) e)
    ∙ ap (λ m. octets_of m (drop (8 * suc k) bs)) (let f : n - k ≡ suc n - suc k = omega arith in f)

-- octets whose bits agree behind the first 43 agree behind the first six
octets_behind : (xs ys : List ℕ) (all behind : List Bool) → drop (length (octet_bits xs) + 43) all ≡ drop 43 behind →
    drop (length xs + 6) (octets_of (length (xs ++ ys)) all) ≡ drop 6 (octets_of (length ys) behind)
octets_behind xs ys all behind e =
    let count : length (xs ++ ys) - (length xs + 6) ≡ length ys - 6 = omega (arith, length-append xs ys) in
    let place : 8 * (length xs + 6) ≡ length (octet_bits xs) + 43 + 5 = omega (arith, length-octet_bits xs) in
    drop-octets_of (length xs + 6) (length (xs ++ ys)) all
    ∙ ap₂ octets_of count
    (ap (λ m. drop m all) place ∙ sym (drop-drop 5 (length (octet_bits xs) + 43) all) ∙ ap (drop 5) e
    ∙ drop-drop 5 43 behind)
    ∙ sym (drop-octets_of 6 (length ys) behind)

-- from the seventh octet on they don't depend on what is before
pub descrambled_octets-behind : (xs ys : List ℕ) →
    drop (length xs + 6) (descrambled_octets (xs ++ ys)) ≡ drop 6 (descrambled_octets ys)
descrambled_octets-behind xs ys =
    octets_behind xs ys (descrambled (octet_bits (xs ++ ys))) (descrambled (octet_bits ys))
    (ap (λ l. drop (length (octet_bits xs) + 43) (descrambled l)) (octet_bits-append xs ys)
    ∙ descrambled-behind (octet_bits xs) (octet_bits ys))

-- ---- The laws of octets cut at lengths, and of areas joined to one list.
pub sum-cons : (x : ℕ) (xs : List ℕ) → sum (x ∷ xs) ≡ x + sum xs
sum-cons x xs = sum_by-cons (λ y. y) x xs

-- ---- areas joined
pub joined-append : (areas more : List (List ℕ)) → joined (areas ++ more) ≡ joined areas ++ joined more
joined-append areas more = flat_map-append (λ area. area) areas more

pub joined-push : (areas : List (List ℕ)) (area : List ℕ) → joined (areas ++ area ∷ []) ≡ joined areas ++ area
joined-push areas area = joined-append areas (area ∷ []) ∙ ap (λ l. joined areas ++ l) (append-nil area)

pub length-joined : (areas : List (List ℕ)) → length (joined areas) ≡ sum (map length areas)
length-joined [] = refl
length-joined (area ∷ areas) = omega
    (arith, length-append area (joined areas), length-joined areas, sum-cons (length area) (map length areas))

-- ---- octets cut
pub length-cut : (sizes octets : List ℕ) → length (cut sizes octets) ≡ length sizes
unfolding cut
length-cut [] octets = refl
length-cut (size ∷ sizes) octets = ap suc (length-cut sizes (drop size octets))

pub cut-append : (sizes more octets : List ℕ) →
    cut (sizes ++ more) octets ≡ cut sizes octets ++ cut more (drop (sum sizes) octets)
unfolding cut
cut-append [] more octets = refl
cut-append (size ∷ sizes) more octets =
    ap (λ areas. take size octets ∷ areas)
    (cut-append sizes more (drop size octets)
    ∙ ap (λ rest. cut sizes (drop size octets) ++ cut more rest)
    (drop-drop (sum sizes) size octets ∙ ap (λ n. drop n octets) (sym (sum-cons size sizes))))

-- the cut octets don't depend on what is behind them
pub cut-front : (sizes octets more : List ℕ) → sum sizes ≤ length octets → cut sizes (octets ++ more) ≡ cut sizes octets
unfolding cut
cut-front [] octets more h = refl
cut-front (size ∷ sizes) octets more h =
    let all : size + sum sizes ≤ length octets = omega (arith, sum-cons size sizes) in
    ap₂ ◌∷◌ (take-append-le size octets more (omega arith))
    (ap (cut sizes) (drop-append-le size octets more (omega arith))
    ∙ cut-front sizes (drop size octets) more (omega (arith, length-drop size octets)))

-- octets in two parts
pub cut_parts : (sizes more front rest : List ℕ) → length front ≡ sum sizes →
    cut (sizes ++ more) (front ++ rest) ≡ cut sizes front ++ cut more rest
cut_parts sizes more front rest e =
    cut-append sizes more (front ++ rest)
    ∙ ap₂ (λ areas behind. areas ++ cut more behind) (cut-front sizes front rest (omega arith))
    (drop_at front rest (sum sizes) e)

-- the lengths of what is cut
pub map-length-cut : (sizes octets : List ℕ) → sum sizes ≤ length octets → map length (cut sizes octets) ≡ sizes
unfolding cut
map-length-cut [] octets h = refl
map-length-cut (size ∷ sizes) octets h =
    let all : size + sum sizes ≤ length octets = omega (arith, sum-cons size sizes) in
    ap₂ ◌∷◌ (let e : length (take size octets) ≡ size = omega (arith, length-take size octets) in e)
    (map-length-cut sizes (drop size octets) (omega (arith, length-drop size octets)))

-- octets that are cut and joined
pub joined-cut_front : (sizes octets : List ℕ) → joined (cut sizes octets) ≡ take (sum sizes) octets
unfolding cut
joined-cut_front [] octets = refl
joined-cut_front (size ∷ sizes) octets =
    ap (λ l. take size octets ++ l) (joined-cut_front sizes (drop size octets))
    ∙ sym (take-add size (sum sizes) octets) ∙ ap (λ n. take n octets) (sym (sum-cons size sizes))

pub joined-cut : (sizes octets : List ℕ) → sum sizes ≡ length octets → joined (cut sizes octets) ≡ octets
joined-cut sizes octets e = joined-cut_front sizes octets ∙ take_all (sum sizes) octets (omega arith)

-- areas that are joined and cut
pub cut-joined : (areas : List (List ℕ)) (more : List ℕ) → cut (map length areas) (joined areas ++ more) ≡ areas
unfolding cut
cut-joined [] more = refl
cut-joined (area ∷ areas) more =
    let split = append_assoc area (joined areas) more in
    ap₂ ◌∷◌
    (ap (take (length area)) split ∙ take_at area (joined areas ++ more) (length area) refl)
    (ap (λ l. cut (map length areas) (drop (length area) l)) split
    ∙ ap (cut (map length areas)) (drop_at area (joined areas ++ more) (length area) refl) ∙ cut-joined areas more)

-- ---- The laws of areas that are scrambled or descrambled as one list.
-- areas of which octets are made as one list, behind octets of earlier areas
abbrev pub made_behind : (List ℕ → List ℕ) → List ℕ → List (List ℕ) → List (List ℕ)
made_behind make before areas = cut (map length areas) (drop (length before) (make (before ++ joined areas)))

abbrev pub scrambled_behind : List ℕ → List (List ℕ) → List (List ℕ)
scrambled_behind before areas = made_behind scrambled_octets before areas

abbrev pub descrambled_behind : List ℕ → List (List ℕ) → List (List ℕ)
descrambled_behind before areas = made_behind descrambled_octets before areas

-- octets are made one by one: as many, and the first ones of the first
module _ (make : List ℕ → List ℕ) (length_same : (xs : List ℕ) → length (make xs) ≡ length xs)
    (first_same : (xs ys : List ℕ) → make (xs ++ ys) ≡ make xs ++ drop (length xs) (make (xs ++ ys))) where
  length_behind : (before : List ℕ) (areas : List (List ℕ)) →
      length (drop (length before) (make (before ++ joined areas))) ≡ sum (map length areas)
  length_behind before areas =
      omega (
        arith,
        length-drop (length before) (make (before ++ joined areas)),
        length_same (before ++ joined areas),
        length-append before (joined areas),
        length-joined areas,
      )

  map-length-made : (before : List ℕ) (areas : List (List ℕ)) →
      map length (made_behind make before areas) ≡ map length areas
  map-length-made before areas =
      map-length-cut (map length areas) (drop (length before) (make (before ++ joined areas)))
      (omega (arith, length_behind before areas))

  length-made : (before : List ℕ) (areas : List (List ℕ)) → length (made_behind make before areas) ≡ length areas
  length-made before areas =
      length-cut (map length areas) (drop (length before) (make (before ++ joined areas))) ∙ length-map areas length

  joined-made : (before : List ℕ) (areas : List (List ℕ)) →
      joined (made_behind make before areas) ≡ drop (length before) (make (before ++ joined areas))
  joined-made before areas =
      joined-cut (map length areas) (drop (length before) (make (before ++ joined areas)))
      (sym (length_behind before areas))

  made-append : (before : List ℕ) (areas more : List (List ℕ)) →
      made_behind make before (areas ++ more) ≡ made_behind make before areas ++ made_behind make
      (before ++ joined areas) more
  made-append before areas more =
      let first : List ℕ = before ++ joined areas in
      let all : List ℕ = make (first ++ joined more) in
      let front : List ℕ = drop (length before) (make first) in
      let rest : List ℕ = drop (length first) all in
      let within : length before ≤ length (make first) =
      omega (arith, length_same first, length-append before (joined areas)) in
      let parts : drop (length before) all ≡ front ++ rest =
      ap (drop (length before)) (first_same first (joined more))
      ∙ drop-append-le (length before) (make first) rest within in
      ap₂ (λ sizes octets. cut sizes (drop (length before) (make octets))) (map-append length areas more)
      (ap (λ l. before ++ l) (joined-append areas more) ∙ sym (append_assoc before (joined areas) (joined more)))
      ∙ ap (cut (map length areas ++ map length more)) parts
      ∙ cut_parts (map length areas) (map length more) front rest (length_behind before areas)

  length_single : (before area : List ℕ) → length (drop (length before) (make (before ++ area))) ≡ length area
  length_single before area =
      omega (
        arith,
        length-drop (length before) (make (before ++ area)),
        length_same (before ++ area),
        length-append before area,
      )

  made-single : (before area : List ℕ) →
      made_behind make before (area ∷ []) ≡ drop (length before) (make (before ++ area)) ∷ []
  unfolding cut
  made-single before area =
      ap (λ l. take (length area) (drop (length before) (make (before ++ l))) ∷ []) (append-nil area)
      ∙ ap (λ l. l ∷ []) (take_all (length area) (drop (length before) (make (before ++ area)))
      (omega (arith, length_single before area)))

-- ---- scrambled areas
pub map-length-scrambled_behind : (before : List ℕ) (areas : List (List ℕ)) →
    map length (scrambled_behind before areas) ≡ map length areas
map-length-scrambled_behind before areas =
    map-length-made scrambled_octets length-scrambled_octets scrambled_octets-append before areas

pub length-scrambled_behind : (before : List ℕ) (areas : List (List ℕ)) →
    length (scrambled_behind before areas) ≡ length areas
length-scrambled_behind before areas =
    length-made scrambled_octets length-scrambled_octets scrambled_octets-append before areas

pub joined-scrambled_behind : (before : List ℕ) (areas : List (List ℕ)) →
    joined (scrambled_behind before areas) ≡ drop (length before) (scrambled_octets (before ++ joined areas))
joined-scrambled_behind before areas =
    joined-made scrambled_octets length-scrambled_octets scrambled_octets-append before areas

-- areas in two parts
pub scrambled_behind-append : (before : List ℕ) (areas more : List (List ℕ)) →
    scrambled_behind before (areas ++ more) ≡ scrambled_behind before areas ++ scrambled_behind
    (before ++ joined areas) more
scrambled_behind-append before areas more =
    made-append scrambled_octets length-scrambled_octets scrambled_octets-append before areas more

-- one area
pub length-scrambled_single : (before area : List ℕ) →
    length (drop (length before) (scrambled_octets (before ++ area))) ≡ length area
length-scrambled_single before area =
    length_single scrambled_octets length-scrambled_octets scrambled_octets-append before area

pub scrambled_behind-single : (before area : List ℕ) →
    scrambled_behind before (area ∷ []) ≡ drop (length before) (scrambled_octets (before ++ area)) ∷ []
scrambled_behind-single before area =
    made-single scrambled_octets length-scrambled_octets scrambled_octets-append before area

pub map-length-scrambled_areas : (areas : List (List ℕ)) → map length (scrambled_areas areas) ≡ map length areas
map-length-scrambled_areas areas = map-length-scrambled_behind [] areas

pub joined-scrambled_areas : (areas : List (List ℕ)) → joined (scrambled_areas areas) ≡ scrambled_octets (joined areas)
joined-scrambled_areas areas = joined-scrambled_behind [] areas

-- ---- descrambled areas
pub map-length-descrambled_behind : (before : List ℕ) (areas : List (List ℕ)) →
    map length (descrambled_behind before areas) ≡ map length areas
map-length-descrambled_behind before areas =
    map-length-made descrambled_octets length-descrambled_octets descrambled_octets-append before areas

-- areas in two parts
pub descrambled_behind-append : (before : List ℕ) (areas more : List (List ℕ)) →
    descrambled_behind before (areas ++ more) ≡ descrambled_behind before areas ++ descrambled_behind
    (before ++ joined areas) more
descrambled_behind-append before areas more =
    made-append descrambled_octets length-descrambled_octets descrambled_octets-append before areas more

-- one area
pub length-descrambled_single : (before area : List ℕ) →
    length (drop (length before) (descrambled_octets (before ++ area))) ≡ length area
length-descrambled_single before area =
    length_single descrambled_octets length-descrambled_octets descrambled_octets-append before area

pub descrambled_behind-single : (before area : List ℕ) →
    descrambled_behind before (area ∷ []) ≡ drop (length before) (descrambled_octets (before ++ area)) ∷ []
descrambled_behind-single before area =
    made-single descrambled_octets length-descrambled_octets descrambled_octets-append before area

pub map-length-descrambled_areas : (areas : List (List ℕ)) → map length (descrambled_areas areas) ≡ map length areas
map-length-descrambled_areas areas = map-length-descrambled_behind [] areas

pub descrambled_areas-append : (areas more : List (List ℕ)) →
    descrambled_areas (areas ++ more) ≡ descrambled_areas areas ++ descrambled_behind (joined areas) more
descrambled_areas-append areas more = descrambled_behind-append [] areas more

pub descrambled_areas-push : (areas : List (List ℕ)) (area : List ℕ) →
    descrambled_areas (areas ++ area ∷ []) ≡ descrambled_areas areas ++ drop (length (joined areas))
    (descrambled_octets (joined areas ++ area)) ∷ []
descrambled_areas-push areas area =
    descrambled_areas-append areas (area ∷ [])
    ∙ ap (λ l. descrambled_areas areas ++ l) (descrambled_behind-single (joined areas) area)

-- ---- areas that are scrambled and then descrambled
pub joined_below : (areas : List (List ℕ)) → All (All (λ o. o < 256)) areas → All (λ o. o < 256) (joined areas)
joined_below [] h = All-nil (λ o. o < 256)
joined_below (area ∷ areas) h =
    All-append (λ o. o < 256) area (joined areas) (All-head (All (λ o. o < 256)) area areas h)
    (joined_below areas (All-tail (All (λ o. o < 256)) area areas h))

pub descrambled_areas-scrambled_areas : (areas : List (List ℕ)) → All (All (λ o. o < 256)) areas →
    descrambled_areas (scrambled_areas areas) ≡ areas
descrambled_areas-scrambled_areas areas h =
    ap₂ cut (map-length-scrambled_areas areas)
    (ap descrambled_octets (joined-scrambled_areas areas)
    ∙ descrambled_octets-scrambled_octets (joined areas) (joined_below areas h) ∙ sym (append-nil (joined areas)))
    ∙ cut-joined areas []
