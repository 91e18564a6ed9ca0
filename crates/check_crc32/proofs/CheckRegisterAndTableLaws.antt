-- The register of a CRC-32 in an order of bits, an octet or eight further, and the tables that move it on.
use Rattle.std.proofs.Common.{◌≡◌, ℕ, ◌/◌, ◌%◌, ◌^◌, ◌<◌, Bool, List, [], ◌∷◌, ◌++◌, length, map, reverse, All}
use Rattle.std.proofs.Common.{bit_xor, refl, sym, ◌∙◌, ap, ap₂, subst, arith, mod-eq_of_lt, ◌+◌, ◌*◌, ◌≤◌, true, false}
use Rattle.std.proofs.Common.{take, drop, replicate, slice_index, slice_index_or, append_assoc, zero, suc, get_or}
use Rattle.std.proofs.Common.{nat_lt, ltb-true}
use Rattle.std.proofs.lemmas.List.{reverse-append, reverse-reverse, length-reverse, append-nil, map-append, length-map}
use Rattle.std.proofs.lemmas.List.{take_at, drop_at, get_or-map, replicate-append-replicate}
use Rattle.std.proofs.lemmas.List.Elements.{All-nil, All-cons, All-head, All-tail}
use Rattle.std.proofs.lemmas.Nat.{xor_shr, xor_mod, xor_of_8}
use Rattle.check_remainder.specs.Bits.{bits, number, xor, xors, number_behind, octet_bits, octets_of}
use Rattle.check_remainder.proofs.XorAndBitCountLaws.{xors-append, xors_comm, xors_assoc}
use Rattle.check_remainder.proofs.NumberAndOctetBitsLaws.{length-bits, bits-xor, number-bits, number_below}
use Rattle.check_remainder.proofs.NumberAndOctetBitsLaws.{bits-number}
use Rattle.check_remainder.proofs.NumberAndOctetBitsLaws.{octet_bits-append, length-octet_bits, octets_of-octet_bits}
use Rattle.check_crc32.specs.Crc32.{BitOrder, most_first, least_first, ordered, crc32, rest_of, check_bits, fcs_in}
use Rattle.std.specs.Int.{to_le_bytes, w32, w64}
use Rattle.check_remainder.specs.Remainder.{remainder, add_front, divide}
use Rattle.check_remainder.proofs.LongDivisionRemainderLaws.{length-remainder, remainder-append_at}
use Rattle.check_crc32.specs.Register.{bits_in, register_bits, IsTable, IsTables, RegisterStands}
use Rattle.check_crc32.proofs.CheckBitsAndRemainderLaws.{length-crc32, add_front-zeros, remainder-append_long}
use Rattle.check_crc32.proofs.CheckBitsAndRemainderLaws.{remainder-parts, seed, rest_of-seed}
use Rattle.std.specs.List.{list_all, range_with_len}
use Rattle.std.specs.Int.Bits.{xor_zero_r}
use Rattle.std.proofs.lemmas.List.FromFn.{length-map-range_with_len, get_or-map-range_with_len}
use Rattle.std.proofs.lemmas.List.Sums.{AllPass-from_list_all}
use Rattle.check_crc32.specs.declared.crc32_tables.TheConstants.{MOST_FIRST, LEAST_FIRST}

-- ---- The order of the bits of an octet: it goes through exclusive or, and twice the same order changes nothing.
reverse-xors : (xs ys : List Bool) → length xs ≡ length ys → reverse (xors xs ys) ≡ xors (reverse xs) (reverse ys)
unfolding xors
reverse-xors [] [] e = refl
reverse-xors [] (y ∷ ys) e = absurd (omega arith)
reverse-xors (x ∷ xs) [] e = absurd (omega arith)
reverse-xors (x ∷ xs) (y ∷ ys) e =
    let same : length (reverse xs) ≡ length (reverse ys) = omega (arith, length-reverse xs, length-reverse ys) in
    reverse-append (xor x y ∷ []) (xors xs ys)
    ∙ ap (λ l. l ++ xor x y ∷ []) (reverse-xors xs ys (omega arith))
    ∙ sym (xors-append (reverse xs) (reverse ys) (x ∷ []) (y ∷ []) same)
    ∙ sym (ap₂ xors (reverse-append (x ∷ []) xs) (reverse-append (y ∷ []) ys))

-- ---- an octet
bits_least_first : (octet : ℕ) → bits 8 (ordered least_first octet) ≡ reverse (bits 8 octet)
bits_least_first octet =
    ap (λ n. bits n (number (reverse (bits 8 octet)))) (sym (length-reverse (bits 8 octet) ∙ length-bits 8 octet))
    ∙ bits-number (reverse (bits 8 octet))

pub ordered-xor : (order : BitOrder) (a b : ℕ)
    → bits 8 (ordered order (bit_xor a b)) ≡ xors (bits 8 (ordered order a)) (bits 8 (ordered order b))
ordered-xor most_first a b = bits-xor 8 a b
ordered-xor least_first a b =
    bits_least_first (bit_xor a b)
    ∙ ap reverse (bits-xor 8 a b)
    ∙ reverse-xors (bits 8 a) (bits 8 b) (length-bits 8 a ∙ sym (length-bits 8 b))
    ∙ sym (ap₂ xors (bits_least_first a) (bits_least_first b))

pub ordered-below : (order : BitOrder) (octet : ℕ) → octet < 256 → ordered order octet < 256
ordered-below most_first octet h = h
ordered-below least_first octet h =
    subst (λ n. ordered least_first octet < 2 ^ n) (length-reverse (bits 8 octet) ∙ length-bits 8 octet)
    (number_below (reverse (bits 8 octet)))

pub ordered_twice : (order : BitOrder) (octet : ℕ) → octet < 256 → ordered order (ordered order octet) ≡ octet
ordered_twice most_first octet h = refl
ordered_twice least_first octet h =
    ap (λ l. number (reverse l)) (bits_least_first octet)
    ∙ ap number (reverse-reverse (bits 8 octet))
    ∙ number-bits 8 octet ∙ mod-eq_of_lt h

-- ---- the octets of a number
pub octet_at-xor : (order : BitOrder) (k a b : ℕ) → bits 8 (ordered order (bit_xor a b / 2 ^ k % 2 ^ 8))
    ≡ xors (bits 8 (ordered order (a / 2 ^ k % 2 ^ 8))) (bits 8 (ordered order (b / 2 ^ k % 2 ^ 8)))
octet_at-xor order k a b =
    ap (λ n. bits 8 (ordered order n)) (ap (λ n. n % 2 ^ 8) (xor_shr a b k) ∙ xor_mod (a / 2 ^ k) (b / 2 ^ k) 8)
    ∙ ordered-xor order (a / 2 ^ k % 2 ^ 8) (b / 2 ^ k % 2 ^ 8)

-- ---- lists of octets
pub All-ordered : (order : BitOrder) (octets : List ℕ) → All (λ o. o < 256) octets
    → All (λ o. o < 256) (map (ordered order) octets)
All-ordered order [] h = All-nil (λ o. o < 256)
All-ordered order (o ∷ octets) h =
    All-cons (λ o. o < 256) (ordered order o) (map (ordered order) octets)
    (ordered-below order o (All-head (λ o. o < 256) o octets h))
    (All-ordered order octets (All-tail (λ o. o < 256) o octets h))

pub map-ordered_twice : (order : BitOrder) (octets : List ℕ) → All (λ o. o < 256) octets
    → map (ordered order) (map (ordered order) octets) ≡ octets
map-ordered_twice order [] h = refl
map-ordered_twice order (o ∷ octets) h =
    ap₂ ◌∷◌ (ordered_twice order o (All-head (λ o. o < 256) o octets h))
    (map-ordered_twice order octets (All-tail (λ o. o < 256) o octets h))

-- ---- A register, an octet further and eight octets further.
-- the bits of a word of 64 bits
abbrev pub word_bits : BitOrder → ℕ → List Bool
word_bits order word = bits_in order (to_le_bytes w64 word)

abbrev octet_in : BitOrder → ℕ → List Bool
octet_in order o = bits 8 (ordered order o)

-- ---- exclusive or
one_more : (order : BitOrder) (x y z : ℕ) (both left right : List Bool)
    → octet_in order z ≡ xors (octet_in order x) (octet_in order y)
    → both ≡ xors left right → octet_in order z ++ both ≡ xors (octet_in order x ++ left) (octet_in order y ++ right)
one_more order x y z both left right e f =
    ap₂ ◌++◌ e f
    ∙ sym (xors-append (octet_in order x) (octet_in order y) left right
    (length-bits 8 (ordered order x) ∙ sym (length-bits 8 (ordered order y))))

octet_low-xor : (order : BitOrder) (a b : ℕ)
    → octet_in order (bit_xor a b % 2 ^ 8) ≡ xors (octet_in order (a % 2 ^ 8)) (octet_in order (b % 2 ^ 8))
octet_low-xor order a b = ap (octet_in order) (xor_mod a b 8) ∙ ordered-xor order (a % 2 ^ 8) (b % 2 ^ 8)

none : [] ≡ xors [] []
unfolding xors
none = refl

pub register_bits-xor : (order : BitOrder) (a b : ℕ)
    → register_bits order (bit_xor a b) ≡ xors (register_bits order a) (register_bits order b)
register_bits-xor order a b =
    one_more order (a % 2 ^ 8) (b % 2 ^ 8) (bit_xor a b % 2 ^ 8) _ _ _ (octet_low-xor order a b)
    (one_more order _ _ _ _ _ _ (octet_at-xor order 8 a b)
    (one_more order _ _ _ _ _ _ (octet_at-xor order 16 a b)
    (one_more order _ _ _ _ _ _ (octet_at-xor order 24 a b) none)))

word_bits-xor : (order : BitOrder) (a b : ℕ) → word_bits order (bit_xor a b)
    ≡ xors (word_bits order a) (word_bits order b)
word_bits-xor order a b =
    one_more order (a % 2 ^ 8) (b % 2 ^ 8) (bit_xor a b % 2 ^ 8) _ _ _ (octet_low-xor order a b)
    (one_more order _ _ _ _ _ _ (octet_at-xor order 8 a b)
    (one_more order _ _ _ _ _ _ (octet_at-xor order 16 a b)
    (one_more order _ _ _ _ _ _ (octet_at-xor order 24 a b)
    (one_more order _ _ _ _ _ _ (octet_at-xor order 32 a b)
    (one_more order _ _ _ _ _ _ (octet_at-xor order 40 a b)
    (one_more order _ _ _ _ _ _ (octet_at-xor order 48 a b)
    (one_more order _ _ _ _ _ _ (octet_at-xor order 56 a b) none)))))))

-- ---- zeros
pub zero_octet : (order : BitOrder) → bits_in order (0 ∷ []) ≡ replicate 8 false
unfolding bits number_behind
zero_octet most_first = refl
zero_octet least_first = refl

zero_octets : (order : BitOrder) → bits_in order (0 ∷ 0 ∷ 0 ∷ 0 ∷ []) ≡ replicate 32 false
unfolding bits number_behind
zero_octets most_first = refl
zero_octets least_first = refl

pub ones : (order : BitOrder) → register_bits order 0xffffffff ≡ replicate 32 true
unfolding bits number_behind
ones most_first = refl
ones least_first = refl

pub bits_in-append : (order : BitOrder) (front back : List ℕ)
    → bits_in order (front ++ back) ≡ bits_in order front ++ bits_in order back
bits_in-append order front back =
    ap octet_bits (map-append (ordered order) front back)
    ∙ octet_bits-append (map (ordered order) front) (map (ordered order) back)

length-bits_in : (order : BitOrder) (octets : List ℕ) → length (bits_in order octets) ≡ 8 * length octets
length-bits_in order octets =
    length-octet_bits (map (ordered order) octets) ∙ ap (λ n. 8 * n) (length-map octets (ordered order))

-- a register as a word
widened : (order : BitOrder) (register : ℕ) → register < 2 ^ 32
    → word_bits order register ≡ register_bits order register ++ replicate 32 false
widened order register h =
    let a : register / 2 ^ 32 % 2 ^ 8 ≡ 0 = omega arith in
    let b : register / 2 ^ 40 % 2 ^ 8 ≡ 0 = omega arith in
    let c : register / 2 ^ 48 % 2 ^ 8 ≡ 0 = omega arith in
    let d : register / 2 ^ 56 % 2 ^ 8 ≡ 0 = omega arith in
    ap (λ l. bits_in order (to_le_bytes w32 register ++ l))
    (ap₂ (λ x l. x ∷ l) a (ap₂ (λ x l. x ∷ l) b (ap₂ (λ x y. x ∷ y ∷ []) c d)))
    ∙ bits_in-append order (to_le_bytes w32 register) (0 ∷ 0 ∷ 0 ∷ 0 ∷ [])
    ∙ ap (λ l. register_bits order register ++ l) (zero_octets order)

-- a register without its lowest octet
upper_octets : ℕ → List ℕ
upper_octets register = register / 2 ^ 8 % 2 ^ 8 ∷ register / 2 ^ 16 % 2 ^ 8 ∷ register / 2 ^ 24 % 2 ^ 8 ∷ []

moved : (order : BitOrder) (register : ℕ) → register < 2 ^ 32
    → bits_in order (upper_octets register) ++ replicate 8 false ≡ register_bits order (register / 2 ^ 8)
unfolding upper_octets
moved order register h =
    let b : register / 2 ^ 16 ≡ register / 2 ^ 8 / 2 ^ 8 = omega arith in
    let c : register / 2 ^ 24 ≡ register / 2 ^ 8 / 2 ^ 16 = omega arith in
    let d : 0 ≡ register / 2 ^ 8 / 2 ^ 24 % 2 ^ 8 = omega arith in
    ap (λ l. bits_in order (upper_octets register) ++ l) (sym (zero_octet order))
    ∙ sym (bits_in-append order (upper_octets register) (0 ∷ []))
    ∙ ap (λ l. bits_in order (register / 2 ^ 8 % 2 ^ 8 ∷ l))
    (ap₂ (λ x l. x % 2 ^ 8 ∷ l) b (ap₂ (λ x y. x % 2 ^ 8 ∷ y ∷ []) c d))

split_register : (order : BitOrder) (register : ℕ)
    → register_bits order register ≡ octet_in order (register % 2 ^ 8) ++ bits_in order (upper_octets register)
unfolding upper_octets
split_register order register = refl

-- ---- an octet further
pub octet_step : (order : BitOrder) (table : List ℕ) (word : List Bool) (register octet : ℕ) → register < 2 ^ 32
    → octet < 256
    → ((o : ℕ) → o < 256 → register_bits order (slice_index table o) ≡ remainder crc32 (bits_in order (o ∷ [])))
    → register_bits order register ≡ remainder crc32 word
    → register_bits order (bit_xor (register / 2 ^ 8) (slice_index table (bit_xor (register % 2 ^ 8) octet)))
    ≡ remainder crc32 (word ++ bits_in order (octet ∷ []))
octet_step order table word register octet h small entry stands =
    let rest : List Bool = remainder crc32 word in
    let low : List Bool = octet_in order (register % 2 ^ 8) in
    let back : List Bool = bits_in order (upper_octets register) in
    let index = bit_xor (register % 2 ^ 8) octet in
    let size : length low ≡ 8 = length-bits 8 (ordered order (register % 2 ^ 8)) in
    let split : rest ≡ low ++ back = sym stands ∙ split_register order register in
    let below : index < 256 = xor_of_8 (register % 2 ^ 8) octet (omega arith) small in
    let few : 8 ≤ length crc32 = omega (arith, length-crc32) in
    let eight : length (bits_in order (octet ∷ [])) ≡ 8 = length-bits_in order (octet ∷ []) in
    let leaves : remainder crc32 (xors (take 8 rest) (bits_in order (octet ∷ [])))
    ≡ register_bits order (slice_index table index) =
    ap (remainder crc32)
    (ap₂ xors (ap (take 8) split ∙ take_at low back 8 size) (append-nil (octet_in order octet))
    ∙ sym (ordered-xor order (register % 2 ^ 8) octet) ∙ sym (append-nil (octet_in order index)))
    ∙ sym (entry index below) in
    register_bits-xor order (register / 2 ^ 8) (slice_index table index)
    ∙ xors_comm (register_bits order (register / 2 ^ 8)) (register_bits order (slice_index table index))
    ∙ sym (remainder-append_at 8 crc32 word (bits_in order (octet ∷ [])) eight few
    ∙ ap₂ xors leaves (ap (λ l. l ++ replicate 8 false) (ap (drop 8) split ∙ drop_at low back 8 size)
    ∙ moved order register h))

-- ---- eight octets further
one_part : (order : BitOrder) (tables : List (List ℕ)) (k octet : ℕ) (octets : List ℕ) → IsTables order tables
    → k < 8 → octet < 256
    → length octets ≡ k → remainder crc32 (bits_in order (octet ∷ octets))
    ≡ xors (register_bits order (slice_index (slice_index_or tables k []) octet))
    (remainder crc32 (bits_in order octets))
one_part order tables k octet octets are low small e =
    remainder-parts crc32 (octet_in order octet) (bits_in order octets)
    ∙ ap (λ l. xors l (remainder crc32 (bits_in order octets)))
    (ap (λ n. remainder crc32 (octet_in order octet ++ replicate n false))
    (length-bits_in order octets ∙ ap (λ n. 8 * n) e)
    ∙ sym (are.entry k octet low small))

abbrev pub entry_of : List (List ℕ) → ℕ → ℕ → ℕ
entry_of tables k octet = slice_index (slice_index_or tables k []) octet

-- the entries of eight octets, of each in the table of its place
abbrev pub entries_of : List (List ℕ) → List ℕ → ℕ
entries_of tables o =
    bit_xor (bit_xor (bit_xor (bit_xor (bit_xor (bit_xor (bit_xor
    (entry_of tables 7 (slice_index o 0)) (entry_of tables 6 (slice_index o 1))) (entry_of tables 5 (slice_index o 2)))
    (entry_of tables 4 (slice_index o 3))) (entry_of tables 3 (slice_index o 4))) (entry_of tables 2 (slice_index o 5)))
    (entry_of tables 1 (slice_index o 6))) (entry_of tables 0 (slice_index o 7))

then_xor : (order : BitOrder) (x y : ℕ) {left : List Bool} → register_bits order x ≡ left
    → register_bits order (bit_xor x y) ≡ xors left (register_bits order y)
then_xor order x y e = register_bits-xor order x y ∙ ap (λ l. xors l (register_bits order y)) e

in_turn : (a b c d e f g h : List Bool)
    → xors (xors (xors (xors (xors (xors (xors a b) c) d) e) f) g) h
    ≡ xors a (xors b (xors c (xors d (xors e (xors f (xors g h))))))
in_turn a b c d e f g h = simp xors_assoc

entries-xor : (order : BitOrder) (a b c d e f g h : ℕ) → let r = register_bits order in
    r (bit_xor (bit_xor (bit_xor (bit_xor (bit_xor (bit_xor (bit_xor a b) c) d) e) f) g) h)
    ≡ xors (r a) (xors (r b) (xors (r c) (xors (r d) (xors (r e) (xors (r f) (xors (r g) (r h)))))))
entries-xor order a b c d e f g h =
    then_xor order _ h (then_xor order _ g
    (then_xor order _ f (then_xor order _ e (then_xor order _ d (then_xor order _ c (register_bits-xor order a b))))))
    ∙ in_turn (register_bits order a) (register_bits order b) (register_bits order c) (register_bits order d)
    (register_bits order e) (register_bits order f) (register_bits order g) (register_bits order h)

eight_leave : (order : BitOrder) (tables : List (List ℕ)) (m : ℕ) → IsTables order tables
    → register_bits order (entries_of tables (to_le_bytes w64 m)) ≡ remainder crc32 (word_bits order m)
eight_leave order tables m are =
    let o : ℕ → ℕ = slice_index (to_le_bytes w64 m) in
    let r : ℕ → ℕ → List Bool = λ k i. register_bits order (entry_of tables k (o i)) in
    let last : remainder crc32 (bits_in order (o 7 ∷ [])) ≡ r 0 7 =
    ap (remainder crc32) refl ∙ sym (are.entry 0 (o 7) (omega arith) (omega arith)) in
    entries-xor order (entry_of tables 7 (o 0)) (entry_of tables 6 (o 1)) (entry_of tables 5 (o 2))
    (entry_of tables 4 (o 3))
    (entry_of tables 3 (o 4)) (entry_of tables 2 (o 5)) (entry_of tables 1 (o 6)) (entry_of tables 0 (o 7))
    ∙ sym (one_part order tables 7 (o 0) (o 1 ∷ o 2 ∷ o 3 ∷ o 4 ∷ o 5 ∷ o 6 ∷ o 7 ∷ []) are (omega arith)
    (omega arith) refl
    ∙ ap (xors (r 7 0)) (one_part order tables 6 (o 1) (o 2 ∷ o 3 ∷ o 4 ∷ o 5 ∷ o 6 ∷ o 7 ∷ []) are (omega arith)
    (omega arith) refl
    ∙ ap (xors (r 6 1)) (one_part order tables 5 (o 2) (o 3 ∷ o 4 ∷ o 5 ∷ o 6 ∷ o 7 ∷ []) are (omega arith)
    (omega arith) refl
    ∙ ap (xors (r 5 2)) (one_part order tables 4 (o 3) (o 4 ∷ o 5 ∷ o 6 ∷ o 7 ∷ []) are (omega arith) (omega arith) refl
    ∙ ap (xors (r 4 3)) (one_part order tables 3 (o 4) (o 5 ∷ o 6 ∷ o 7 ∷ []) are (omega arith) (omega arith) refl
    ∙ ap (xors (r 3 4)) (one_part order tables 2 (o 5) (o 6 ∷ o 7 ∷ []) are (omega arith) (omega arith) refl
    ∙ ap (xors (r 2 5)) (one_part order tables 1 (o 6) (o 7 ∷ []) are (omega arith) (omega arith) refl
    ∙ ap (xors (r 1 6)) last)))))))

pub word_step : (order : BitOrder) (tables : List (List ℕ)) (before : List Bool) (register word : ℕ)
    → register < 2 ^ 32 → IsTables order tables → register_bits order register ≡ remainder crc32 before
    → register_bits order (entries_of tables (to_le_bytes w64 (bit_xor word register)))
    ≡ remainder crc32 (before ++ word_bits order word)
word_step order tables before register word h are stands =
    let rest : List Bool = remainder crc32 before in
    let size : length (word_bits order word) ≡ 64 = length-bits_in order (to_le_bytes w64 word) in
    let long : length crc32 ≤ length (word_bits order word) = omega (arith, length-crc32) in
    let whole : length rest + 32 ≡ length (word_bits order word) =
    omega (arith, length-crc32, length-remainder crc32 before) in
    eight_leave order tables (bit_xor word register) are
    ∙ ap (remainder crc32)
    (word_bits-xor order word register
    ∙ xors_comm (word_bits order word) (word_bits order register)
    ∙ ap (λ l. xors l (word_bits order word)) (widened order register h ∙ ap (λ l. l ++ replicate 32 false) stands)
    ∙ sym (add_front-zeros rest (word_bits order word) 32 whole))
    ∙ sym (remainder-append_long crc32 before (word_bits order word) long)

-- ---- What stands in a register: at first, after an octet or eight more, and the check that it makes.
rest_of_none : rest_of [] ≡ replicate 32 true
unfolding rest_of add_front divide
rest_of_none = refl

pub stands_none : (order : BitOrder) → RegisterStands order [] 0xffffffff
stands_none order = record { left = ones order ∙ sym rest_of_none }

-- more octets, whose bits are behind those before
after_more : (order : BitOrder) (octets more : List ℕ)
    → remainder crc32 (seed ++ bits_in order octets ++ bits_in order more) ≡ rest_of (bits_in order (octets ++ more))
after_more order octets more =
    ap (remainder crc32)
    (append_assoc seed (bits_in order octets) (bits_in order more)
    ∙ ap (λ l. seed ++ l) (sym (bits_in-append order octets more)))
    ∙ sym (rest_of-seed (bits_in order (octets ++ more)))

pub stands_octet : (order : BitOrder) (table octets : List ℕ) (register octet : ℕ)
    → register < 2 ^ 32 → octet < 256 → IsTable order table → RegisterStands order octets register
    → RegisterStands order (octets ++ octet ∷ [])
    (bit_xor (register / 2 ^ 8) (slice_index table (bit_xor (register % 2 ^ 8) octet)))
stands_octet order table octets register octet h small is s = record {
  left =
      octet_step order table (seed ++ bits_in order octets) register octet h small is.entry
      (s.left ∙ rest_of-seed (bits_in order octets))
      ∙ after_more order octets (octet ∷ []);
}

pub first_of : (order : BitOrder) (tables : List (List ℕ)) → IsTables order tables
    → IsTable order (slice_index_or tables 0 [])
first_of order tables are = record { entry = λ octet. are.entry 0 octet (omega arith) }

pub stands_word : (order : BitOrder) (tables : List (List ℕ)) (octets : List ℕ) (register word : ℕ)
    → register < 2 ^ 32 → IsTables order tables → RegisterStands order octets register
    → RegisterStands order (octets ++ to_le_bytes w64 word) (entries_of tables (to_le_bytes w64 (bit_xor word register)))
stands_word order tables octets register word h are s = record {
  left =
      word_step order tables (seed ++ bits_in order octets) register word h are (s.left
      ∙ rest_of-seed (bits_in order octets))
      ∙ after_more order octets (to_le_bytes w64 word);
}

-- ---- the check
octets_below : (n : ℕ) → All (λ o. o < 256) (to_le_bytes w32 n)
octets_below n =
    let small : ℕ → Type 0 = λ o. o < 256 in
    All-cons small (n % 256) (n / 2 ^ 8 % 256 ∷ n / 2 ^ 16 % 256 ∷ n / 2 ^ 24 % 256 ∷ []) (omega arith)
    (All-cons small (n / 2 ^ 8 % 256) (n / 2 ^ 16 % 256 ∷ n / 2 ^ 24 % 256 ∷ []) (omega arith)
    (All-cons small (n / 2 ^ 16 % 256) (n / 2 ^ 24 % 256 ∷ []) (omega arith)
    (All-cons small (n / 2 ^ 24 % 256) [] (omega arith) (All-nil small))))

pub check_of_register : (order : BitOrder) (octets : List ℕ) (register : ℕ) → RegisterStands order octets register
    → to_le_bytes w32 (bit_xor register 0xffffffff) ≡ fcs_in order octets
unfolding check_bits
check_of_register order octets register s =
    let n = bit_xor register 0xffffffff in
    let own : List ℕ = to_le_bytes w32 n in
    let made : register_bits order n ≡ check_bits (bits_in order octets) =
    register_bits-xor order register 0xffffffff
    ∙ ap₂ xors s.left (ones order)
    ∙ xors_comm (rest_of (bits_in order octets)) (replicate 32 true) in
    sym (map-ordered_twice order own (octets_below n))
    ∙ ap (map (ordered order))
    (sym (octets_of-octet_bits (map (ordered order) own) (All-ordered order own (octets_below n)))
    ∙ ap (octets_of 4) made)

-- ---- The tables of the code are right: the first one by division, and each of the others by an octet of zeros more.
-- what an octet of zeros more leaves, by the first table
abbrev zeros_more : List ℕ → ℕ → ℕ
zeros_more first e = bit_xor (e / 2 ^ 8) (slice_index first (e % 2 ^ 8))

-- a table of octets with k octets of zeros behind them
record IsTableOf (order : BitOrder) (k : ℕ) (table : List ℕ) : Type 0 where
  pub size : length table ≡ 256
  pub entry : (octet : ℕ) → octet < 256 → register_bits order (slice_index table octet)
      ≡ remainder crc32 (bits 8 (ordered order octet) ++ replicate (8 * k) false)

-- what is computed of tables
record AreMade (order : BitOrder) (tables : List (List ℕ)) : Type 0 where
  pub count : length tables ≡ 8
  pub below : list_all (list_all (λ e. nat_lt e (2 ^ 32))) tables ≡ true
  pub first : map (register_bits order) (slice_index_or tables 0 [])
      ≡ map (λ o. remainder crc32 (bits 8 (ordered order o))) (range_with_len 0 256)
  pub next : map (λ k. map (zeros_more (slice_index_or tables 0 [])) (slice_index_or tables k [])) (range_with_len 0 7)
      ≡ map (λ k. slice_index_or tables k []) (range_with_len 1 7)

first_is : (order : BitOrder) (table : List ℕ) → map (register_bits order) table
    ≡ map (λ o. remainder crc32 (bits 8 (ordered order o))) (range_with_len 0 256) → IsTableOf order 0 table
first_is order table made =
    let left : ℕ → List Bool = λ o. remainder crc32 (bits 8 (ordered order o)) in
    let whole : length table ≡ 256 =
    sym (length-map table (register_bits order)) ∙ ap length made ∙ length-map-range_with_len left 0 256 in
    record {
      size = whole;
      entry = λ octet h.
          let inside : octet < length table = omega arith in
          sym (get_or-map (register_bits order) table octet 0 [] inside)
          ∙ ap (λ l. get_or l octet []) made
          ∙ get_or-map-range_with_len left 0 256 octet octet [] h (omega arith)
          ∙ ap (remainder crc32) (sym (append-nil (bits 8 (ordered order octet))));
    }

-- an entry has 32 bits
entry_below : (order : BitOrder) (tables : List (List ℕ)) (k octet : ℕ) → AreMade order tables → k < 8
    → octet < length (slice_index_or tables k []) → slice_index (slice_index_or tables k []) octet < 2 ^ 32
entry_below order tables k octet made h inside =
    let there : k < length tables = omega (arith, made.count) in
    let all = AllPass-from_list_all (list_all (λ e. nat_lt e (2 ^ 32))) tables made.below k [] there in
    ltb-true _ _ (AllPass-from_list_all (λ e. nat_lt e (2 ^ 32)) (slice_index_or tables k []) all octet 0 inside)

next_is : (order : BitOrder) (tables : List (List ℕ)) (k : ℕ) → AreMade order tables → k < 7
    → IsTableOf order k (slice_index_or tables k []) → IsTableOf order (suc k) (slice_index_or tables (suc k) [])
next_is order tables k made h is =
    let first : List ℕ = slice_index_or tables 0 [] in
    let table : List ℕ = slice_index_or tables k [] in
    let zeros : List Bool = replicate (8 * k) false in
    let e : 8 * k + 8 ≡ 8 * suc k = omega arith in
    let same : map (zeros_more first) table ≡ slice_index_or tables (suc k) [] =
    sym (get_or-map-range_with_len (λ j. map (zeros_more first) (slice_index_or tables j [])) 0 7 k k [] h
    (omega arith))
    ∙ ap (λ l. get_or l k []) made.next
    ∙ get_or-map-range_with_len (λ j. slice_index_or tables j []) 1 7 k (suc k) [] h (omega arith) in
    record {
      size = ap length (sym same) ∙ length-map table (zeros_more first) ∙ is.size;
      entry = λ octet small.
          let inside : octet < length table = omega (arith, is.size) in
          let entry = slice_index table octet in
          let begun : List Bool = bits 8 (ordered order octet) in
          ap (λ l. register_bits order (slice_index l octet)) (sym same)
          ∙ ap (register_bits order) (get_or-map (zeros_more first) table octet 0 0 inside)
          ∙ ap (λ n. register_bits order (bit_xor (entry / 2 ^ 8) (slice_index first n)))
          (sym (xor_zero_r (entry % 2 ^ 8)))
          ∙ octet_step order first (begun ++ zeros) entry 0
          (entry_below order tables k octet made (omega arith) inside) (omega arith)
          (first_is order first made.first).entry (is.entry octet small)
          ∙ ap (remainder crc32)
          (append_assoc begun zeros (bits_in order (0 ∷ []))
          ∙ ap (λ l. begun ++ l)
          (ap (λ l. zeros ++ l) (zero_octet order) ∙ replicate-append-replicate (8 * k) 8 false
          ∙ ap (λ n. replicate n false) e));
    }

each_is : (order : BitOrder) (tables : List (List ℕ)) (k : ℕ) → AreMade order tables → k < 8
    → IsTableOf order k (slice_index_or tables k [])
each_is order tables zero made h = first_is order (slice_index_or tables 0 []) made.first
each_is order tables (suc k) made h = next_is order tables k made (omega arith)
    (each_is order tables k made (omega arith))

are_tables : (order : BitOrder) (tables : List (List ℕ)) → AreMade order tables → IsTables order tables
are_tables order tables made = record { entry = λ k octet h. (each_is order tables k made h).entry octet }

-- ---- the two that are written out
pub most_first_is : IsTable most_first MOST_FIRST
unfolding bits number_behind add_front divide
most_first_is = record { entry = (first_is most_first MOST_FIRST refl).entry }

pub least_first_is : IsTables least_first LEAST_FIRST
unfolding bits number_behind add_front divide
least_first_is = are_tables least_first LEAST_FIRST record { count = refl; below = refl; first = refl; next = refl }
