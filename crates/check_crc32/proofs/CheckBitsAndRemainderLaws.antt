-- The bits of a CRC-32 check, by what they differ where bits are flipped, and its remainder part by part.
use Rattle.std.proofs.Common.{◌≡◌, ℕ, Bool, true, false, List, ◌++◌, length, replicate, sym, ◌∙◌, ap, ap₂, ◌≤◌}
use Rattle.std.proofs.Common.{le_of_eq, arith, ◌+◌, [], ◌∷◌, take, drop, refl, append_assoc}
use Rattle.std.proofs.lemmas.List.{length-append, length-replicate, length-take, take-append-drop}
use Rattle.check_remainder.specs.Bits.{octet_bits, xors, bits, xor}
use Rattle.check_remainder.specs.Remainder.{add_front, divide, remainder}
use Rattle.check_remainder.proofs.NumberAndOctetBitsLaws.{length-bits, length-octets_of, octet_bits-octets_of}
use Rattle.check_remainder.proofs.XorAndBitCountLaws.{length_xors, xors-zeros, xors-append, xors_assoc}
use Rattle.check_remainder.proofs.LongDivisionRemainderLaws.{length-add_front, add_front-xors, add_front-append}
use Rattle.check_remainder.proofs.LongDivisionRemainderLaws.{divide-xors, length-divide, divide-add, divide-append}
use Rattle.check_remainder.proofs.LongDivisionRemainderLaws.{divide-zeros, length-remainder, behind_zeros}
use Rattle.check_remainder.proofs.LongDivisionRemainderLaws.{divide_behind}
use Rattle.check_crc32.specs.Crc32.{crc32, rest_of, check_bits, fcs_of}

-- ---- How long a check is, and by what it differs where bits are turned over.
-- ---- remainders are linear
pub remainder-xors : (lower w flips : List Bool) → length w ≡ length flips
    → remainder lower (xors w flips) ≡ xors (remainder lower w) (remainder lower flips)
remainder-xors lower w flips e =
    let zeros : List Bool = replicate (length lower) false in
    let twice : xors zeros zeros ≡ zeros = xors-zeros (length lower) zeros
    (le_of_eq (length-replicate (length lower) false)) in
    ap₂ (λ n l. divide n lower l) (length_xors w flips e)
    (ap (λ l. xors w flips ++ l) (sym twice) ∙ sym (xors-append w flips zeros zeros e))
    ∙ divide-xors (length flips) lower (w ++ zeros) (flips ++ zeros)
    ∙ ap (λ n. xors (divide n lower (w ++ zeros)) (remainder lower flips)) (sym e)

pub length-crc32 : length crc32 ≡ 32
length-crc32 = length-bits 32 0x04c11db7

-- ---- the check
pub length-rest_of : (bs : List Bool) → length (rest_of bs) ≡ 32
unfolding rest_of
length-rest_of bs =
    let ones : List Bool = replicate 32 true in
    let zeros : List Bool = replicate 32 false in
    omega (
      arith,
      length-divide (length bs) crc32 (add_front ones (bs ++ zeros)),
      length-add_front ones (bs ++ zeros),
      length-append bs zeros,
      length-replicate 32 false,
    )

pub length-check_bits : (bs : List Bool) → length (check_bits bs) ≡ 32
unfolding check_bits
length-check_bits bs =
    length_xors (replicate 32 true) (rest_of bs) (length-replicate 32 true ∙ sym (length-rest_of bs))
    ∙ length-rest_of bs

-- of at least 32 bits it is over the remainder, with the first 32 inverted
pub check_bits-inverted : (bs : List Bool) → 32 ≤ length bs
    → check_bits bs ≡ xors (replicate 32 true) (remainder crc32 (add_front (replicate 32 true) bs))
unfolding check_bits rest_of
check_bits-inverted bs h =
    let ones : List Bool = replicate 32 true in
    let within : length ones ≤ length bs = omega (arith, length-replicate 32 true) in
    ap (λ l. xors ones (divide (length bs) crc32 l)) (add_front-append ones bs (replicate 32 false) within)
    ∙ ap₂ (λ n k. xors ones (divide n crc32 (add_front ones bs ++ replicate k false)))
    (sym (length-add_front ones bs)) (sym length-crc32)

-- it differs by what the flips leave
rest_of-xors : (bs flips : List Bool) → length bs ≡ length flips
    → rest_of (xors bs flips) ≡ xors (rest_of bs) (remainder crc32 flips)
unfolding rest_of
rest_of-xors bs flips e =
    let ones : List Bool = replicate 32 true in
    let zeros : List Bool = replicate 32 false in
    let twice : xors zeros zeros ≡ zeros = xors-zeros 32 zeros (le_of_eq (length-replicate 32 false)) in
    ap₂ (λ n l. divide n crc32 (add_front ones l)) (length_xors bs flips e)
    (ap (λ l. xors bs flips ++ l) (sym twice) ∙ sym (xors-append bs flips zeros zeros e))
    ∙ ap (divide (length flips) crc32) (add_front-xors ones (bs ++ zeros) (flips ++ zeros))
    ∙ divide-xors (length flips) crc32 (add_front ones (bs ++ zeros)) (flips ++ zeros)
    ∙ ap₂ (λ n k. xors (divide n crc32 (add_front ones (bs ++ zeros)))
    (divide (length flips) crc32 (flips ++ replicate k false)))
    (sym e) (sym length-crc32)

pub check_bits-xors : (bs flips : List Bool) → length bs ≡ length flips
    → check_bits (xors bs flips) ≡ xors (check_bits bs) (remainder crc32 flips)
unfolding check_bits
check_bits-xors bs flips e =
    ap (xors (replicate 32 true)) (rest_of-xors bs flips e)
    ∙ sym (xors_assoc (replicate 32 true) (rest_of bs) (remainder crc32 flips))

pub octet_bits-fcs_of : (octets : List ℕ) → octet_bits (fcs_of octets) ≡ check_bits (octet_bits octets)
octet_bits-fcs_of octets = octet_bits-octets_of 4 (check_bits (octet_bits octets))
    (length-check_bits (octet_bits octets))

pub length-fcs_of : (octets : List ℕ) → length (fcs_of octets) ≡ 4
length-fcs_of octets = length-octets_of 4 (check_bits (octet_bits octets))

-- ---- Division goes on from a part of the bits to the next, and of each part there is left what it leaves alone.
-- ---- bits added at a front
add_front-at : (xs ys zs : List Bool) → length xs ≡ length ys → add_front xs (ys ++ zs) ≡ xors xs ys ++ zs
unfolding add_front xors
add_front-at [] [] zs e = refl
add_front-at [] (y ∷ ys) zs e = absurd (omega arith)
add_front-at (x ∷ xs) [] zs e = absurd (omega arith)
add_front-at (x ∷ xs) (y ∷ ys) zs e = ap (λ l. xor x y ∷ l) (add_front-at xs ys zs (omega arith))

pub add_front-zeros : (xs ys : List Bool) (n : ℕ) → length xs + n ≡ length ys
    → add_front xs ys ≡ xors (xs ++ replicate n false) ys
unfolding add_front xors
add_front-zeros [] ys n e = sym (xors-zeros n ys (omega arith))
add_front-zeros (x ∷ xs) [] n e = absurd (omega arith)
add_front-zeros (x ∷ xs) (y ∷ ys) n e = ap (λ l. xor x y ∷ l) (add_front-zeros xs ys n (omega arith))

-- ---- a first part
-- what it leaves is added to what comes after it
pub divide_front : (lower p q : List Bool) → length lower ≤ length q
    → divide (length p) lower (p ++ q) ≡ add_front (remainder lower p) q
divide_front lower p q h =
    let g = length lower in
    let a : List Bool = take g q in
    let b : List Bool = drop g q in
    let size : length a ≡ g = omega (arith, length-take g q) in
    let whole : a ++ b ≡ q = take-append-drop g q in
    let long : length p + g ≤ length (p ++ a) = omega (arith, length-append p a) in
    ap (λ l. divide (length p) lower (p ++ l)) (sym whole)
    ∙ ap (divide (length p) lower) (sym (append_assoc p a b))
    ∙ divide-append (length p) lower (p ++ a) b long
    ∙ ap (λ l. l ++ b) (divide_behind lower p a size)
    ∙ sym (add_front-at (remainder lower p) a b (length-remainder lower p ∙ sym size))
    ∙ ap (add_front (remainder lower p)) whole

pub remainder-append_long : (lower word more : List Bool) → length lower ≤ length more
    → remainder lower (word ++ more) ≡ remainder lower (add_front (remainder lower word) more)
remainder-append_long lower word more h =
    let zeros : List Bool = replicate (length lower) false in
    let rest : List Bool = remainder lower word in
    let long : length lower ≤ length (more ++ zeros) = omega (arith, length-append more zeros) in
    let short : length rest ≤ length more = omega (arith, length-remainder lower word) in
    ap₂ (λ n l. divide n lower l) (length-append word more) (append_assoc word more zeros)
    ∙ divide-add (length word) (length more) lower (word ++ (more ++ zeros))
    ∙ ap (divide (length more) lower) (divide_front lower word (more ++ zeros) long
    ∙ add_front-append rest more zeros short)
    ∙ ap (λ n. divide n lower (add_front rest more ++ zeros)) (sym (length-add_front rest more))

-- ---- parts
remainder-zeros : (lower back : List Bool) (n : ℕ) → remainder lower (replicate n false ++ back) ≡ remainder lower back
remainder-zeros lower back n =
    let zeros : List Bool = replicate (length lower) false in
    let size : length (replicate n false ++ back) ≡ n + length back =
    length-append (replicate n false) back ∙ ap (λ k. k + length back) (length-replicate n false) in
    ap₂ (λ k l. divide k lower l) size (append_assoc (replicate n false) back zeros)
    ∙ divide-add n (length back) lower (replicate n false ++ (back ++ zeros))
    ∙ ap (divide (length back) lower) (divide-zeros n lower (back ++ zeros))

pub remainder-parts : (lower front back : List Bool)
    → remainder lower (front ++ back) ≡ xors (remainder lower (front ++ replicate (length back) false))
    (remainder lower back)
remainder-parts lower front back =
    let zeros : List Bool = replicate (length back) false in
    let size : length zeros ≡ length back = length-replicate (length back) false in
    let same : length (front ++ zeros) ≡ length (replicate (length front) false ++ back) =
    omega (
      arith,
      length-append front zeros,
      length-append (replicate (length front) false) back,
      length-replicate (length front) false,
    ) in
    ap (remainder lower) (behind_zeros front zeros back size refl)
    ∙ remainder-xors lower (front ++ zeros) (replicate (length front) false ++ back) same
    ∙ ap (xors (remainder lower (front ++ zeros))) (remainder-zeros lower back (length front))

-- ---- 32 ones at the front are what a word of 32 bits leaves
pub seed : List Bool
seed = bits 32 0x46af6449

seed_leaves : remainder crc32 seed ≡ replicate 32 true
unfolding seed bits add_front divide
seed_leaves = refl

pub rest_of-seed : (bs : List Bool) → rest_of bs ≡ remainder crc32 (seed ++ bs)
unfolding rest_of seed
rest_of-seed bs =
    let zeros : List Bool = replicate 32 false in
    let long : length crc32 ≤ length (bs ++ zeros) =
    omega (arith, length-append bs zeros, length-replicate 32 false, length-crc32) in
    let front : divide 32 crc32 (seed ++ (bs ++ zeros)) ≡ add_front (replicate 32 true) (bs ++ zeros) =
    ap (λ n. divide n crc32 (seed ++ (bs ++ zeros))) (sym (length-bits 32 0x46af6449))
    ∙ divide_front crc32 seed (bs ++ zeros) long ∙ ap (λ l. add_front l (bs ++ zeros)) seed_leaves in
    sym (ap₂ (λ n l. divide n crc32 l)
    (length-append seed bs ∙ ap (λ n. n + length bs) (length-bits 32 0x46af6449))
    (ap (λ n. (seed ++ bs) ++ replicate n false) length-crc32 ∙ append_assoc seed bs zeros)
    ∙ divide-add 32 (length bs) crc32 (seed ++ (bs ++ zeros))
    ∙ ap (divide (length bs) crc32) front)
