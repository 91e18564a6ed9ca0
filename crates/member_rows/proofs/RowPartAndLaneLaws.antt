-- Rows and their parts octet by octet, payloads of members, repeated rows, and lanes of vectors.
use Rattle.std.proofs.Common.{◌≡◌, ◌≢◌, ℕ, zero, suc, ◌+◌, ◌-◌, ◌*◌, ◌/◌, ◌%◌, ◌<◌, ◌≤◌, inl, inr, min, List, [], ◌∷◌}
use Rattle.std.proofs.Common.{◌++◌, length, take, drop, slice_index, slice_index_or, refl, sym, ◌∙◌, ap, ap₂, arith}
use Rattle.std.proofs.Common.{length-append, length-take, append_assoc, Contains, All, get_or-drop, get_or-take}
use Rattle.std.proofs.Common.{drop-drop, div-add-mod', get_or}
use Rattle.std.specs.List.{range_with_len}
use Rattle.std.proofs.lemmas.List.{get_or-map, get_or_append_left, get_or-append_right, length-map}
use Rattle.std.proofs.lemmas.List.FromFn.{get_or-map-range_with_len, length-range_with_len}
use Rattle.std.proofs.lemmas.Bool.{cases_eq}
use Rattle.std.proofs.lemmas.Grind.{same_number_lists}
use Rattle.std.proofs.lemmas.Nat.{mul-le, mod-mul-add, div-mul-add, div_below}
use Rattle.law_model.specs.rows.Interleave.{row_of}
use Rattle.law_model.specs.Common.{part_of, parts_of, octets_at, octets_from, Container}
use Rattle.member_rows.specs.vcat_interleave.Square.{octet_at}
use Rattle.member_rows.specs.vcat_interleave.GatheredRow.{GathersAll}
use Rattle.member_rows.specs.vcat_interleave.MemberPayloads.{payload_at, payloads_of}
use Rattle.member_rows.specs.vcat_interleave.RepeatedRow.{ComesAgain}

-- ---- Rows and their parts, octet by octet.
-- ---- parts
pub length-part_of : (rank x places : ℕ) (row : List ℕ) → length (part_of rank x places row) ≡ places
unfolding part_of
length-part_of rank x zero row = refl
length-part_of rank x (suc places) row = ap suc (length-part_of rank x places (drop x row))

pub get-part_of : (rank x places : ℕ) (row : List ℕ) (p : ℕ) → p < places →
    slice_index (part_of rank x places row) p ≡ slice_index row (p * x + rank)
unfolding part_of
get-part_of rank x zero row p within = absurd (omega arith)
get-part_of rank x (suc places) row zero within = ap (slice_index row) (let e : rank ≡ 0 * x + rank = omega arith in e)
get-part_of rank x (suc places) row (suc p) within =
    get-part_of rank x places (drop x row) p (omega arith)
    ∙ get_or-drop x row (p * x + rank) 0
    ∙ ap (slice_index row) (let e : x + (p * x + rank) ≡ suc p * x + rank = omega arith in e)

-- octets that stand at the places of a rank are its part
pub is-part_of : (octets row : List ℕ) (rank x : ℕ) →
    ((p : ℕ) → p < length octets → slice_index octets p ≡ slice_index row (p * x + rank)) →
    octets ≡ part_of rank x (length octets) row
is-part_of octets row rank x each =
    same_number_lists octets (part_of rank x (length octets) row) (sym (length-part_of rank x (length octets) row))
    (λ p within. each p within ∙ sym (get-part_of rank x (length octets) row p within))

-- what more places carry
pub part_of-add : (rank x a b : ℕ) (row : List ℕ) →
    part_of rank x (a + b) row ≡ part_of rank x a row ++ part_of rank x b (drop (a * x) row)
unfolding part_of
part_of-add rank x zero b row =
    let none : 0 * x ≡ 0 = omega arith in
    ap (λ n. part_of rank x n row) (let e : 0 + b ≡ b = omega arith in e)
    ∙ ap (λ n. part_of rank x b (drop n row)) (sym none)
part_of-add rank x (suc a) b row =
    ap (λ n. part_of rank x n row) (let e : suc a + b ≡ suc (a + b) = omega arith in e)
    ∙ ap (λ l. slice_index row rank ∷ l) (part_of-add rank x a b (drop x row)
    ∙ ap (λ l. part_of rank x a (drop x row) ++ part_of rank x b l) (drop-drop (a * x) x row)
    ∙ ap (λ n. part_of rank x a (drop x row) ++ part_of rank x b (drop n row))
    (let e : x + a * x ≡ suc a * x = omega arith in e))

-- ---- places of a row
pub rank-place : (x p rank : ℕ) → rank < x → ((p * x + rank) % x ≡ rank) × ((p * x + rank) / x ≡ p)
rank-place x p rank below = (mod-mul-add p x rank below, div-mul-add p x rank below)

-- two places of a rank are one place of a row only where they are the same
pub other-place : (x p q rank : ℕ) → rank < x → p ≢ q → p * x + rank ≢ q * x + rank
other-place x p q rank below other same =
    other (sym (rank-place x p rank below).1 ∙ ap (λ n. n / x) same ∙ (rank-place x q rank below).1)

pub place-within : (x places i : ℕ) → i < places * x → (i / x < places) × (i % x < x) × (i / x * x + i % x ≡ i)
place-within zero places i within = absurd (omega arith)
place-within (suc x) places i within =
    (div_below i (suc x) places (omega arith) within, omega arith, div-add-mod' i (suc x))

pub within-row : (x places p rank : ℕ) → p < places → rank < x → p * x + rank < places * x
within-row x places p rank low below = omega (arith, mul-le (suc p) x places x low (omega arith))

-- a row is known by its ranks and places
pub same-rows : (x places : ℕ) (xs ys : List ℕ) → length xs ≡ places * x → length ys ≡ places * x →
    ((p rank : ℕ) → p < places → rank < x → slice_index xs (p * x + rank) ≡ slice_index ys (p * x + rank)) → xs ≡ ys
same-rows x places xs ys size other each =
    same_number_lists xs ys (size ∙ sym other)
    (λ i within. let (low, below, same) = place-within x places i (omega arith) in
    let here = each (i / x) (i % x) low below in
    rw same at here)

-- ---- rows of parts
pub length-octets_from : (place places : ℕ) (parts : List (List ℕ)) →
    length (octets_from place places parts) ≡ places * length parts
unfolding octets_from
length-octets_from place zero parts = omega arith
length-octets_from place (suc places) parts =
    let here : length (octets_at place parts) ≡ length parts = length-map parts (λ part. slice_index part place) in
    omega (
      arith,
      length-append (octets_at place parts) (octets_from (suc place) places parts),
      length-octets_from (suc place) places parts,
      here,
    )

pub get-octets_at : (place : ℕ) (parts : List (List ℕ)) (rank : ℕ) → rank < length parts →
    slice_index (octets_at place parts) rank ≡ octet_at parts rank place
get-octets_at place parts rank below = get_or-map (λ part. slice_index part place) parts rank [] 0 below

pub get-octets_from : (place places : ℕ) (parts : List (List ℕ)) (p rank : ℕ) → p < places → rank < length parts →
    slice_index (octets_from place places parts) (p * length parts + rank) ≡ octet_at parts rank (place + p)
unfolding octets_from
get-octets_from place zero parts p rank low below = absurd (omega arith)
get-octets_from place (suc places) parts zero rank low below =
    let first : List ℕ = octets_at place parts in
    let size : length first ≡ length parts = length-map parts (λ part. slice_index part place) in
    ap (slice_index (first ++ octets_from (suc place) places parts))
    (let e : 0 * length parts + rank ≡ rank = omega arith in e)
    ∙ get_or_append_left first (octets_from (suc place) places parts) 0 rank (omega arith)
    ∙ get-octets_at place parts rank below
    ∙ ap (octet_at parts rank) (let e : place ≡ place + 0 = omega arith in e)
get-octets_from place (suc places) parts (suc p) rank low below =
    let first : List ℕ = octets_at place parts in
    let rest : List ℕ = octets_from (suc place) places parts in
    let size : length first ≡ length parts = length-map parts (λ part. slice_index part place) in
    get_or-append_right first rest (length parts) (suc p * length parts + rank) 0 size (omega arith)
    ∙ ap (slice_index rest) (let e : suc p * length parts + rank - length parts ≡ p * length parts + rank =
    omega arith in e)
    ∙ get-octets_from (suc place) places parts p rank (omega arith) below
    ∙ ap (octet_at parts rank) (let e : suc place + p ≡ place + suc p = omega arith in e)

-- a row that has the octets of the parts is their row
pub is-octets_from : (place places : ℕ) (parts : List (List ℕ)) (row : List ℕ) → length row ≡ places * length parts →
    ((p rank : ℕ) → p < places → rank < length parts →
    slice_index row (p * length parts + rank) ≡ octet_at parts rank (place + p)) →
    row ≡ octets_from place places parts
is-octets_from place places parts row size each =
    same-rows (length parts) places row (octets_from place places parts) size (length-octets_from place places parts)
    (λ p rank low below. each p rank low below ∙ sym (get-octets_from place places parts p rank low below))

-- a row goes on where a piece of it ends
pub octets_from-add : (place a b : ℕ) (parts : List (List ℕ)) →
    octets_from place (a + b) parts ≡ octets_from place a parts ++ octets_from (place + a) b parts
unfolding octets_from
octets_from-add place zero b parts =
    ap₂ (λ n m. octets_from n m parts) (let e : place ≡ place + 0 = omega arith in e)
    (let e : 0 + b ≡ b = omega arith in e)
octets_from-add place (suc a) b parts =
    ap (λ n. octets_from place n parts) (let e : suc a + b ≡ suc (a + b) = omega arith in e)
    ∙ ap (λ l. octets_at place parts ++ l) (octets_from-add (suc place) a b parts
    ∙ ap (λ n. octets_from (suc place) a parts ++ octets_from n b parts)
    (let e : suc place + a ≡ place + suc a = omega arith in e))
    ∙ sym (append_assoc (octets_at place parts) (octets_from (suc place) a parts) (octets_from (place + suc a) b parts))

-- ---- parts of rows, and rows of parts
parts-at : (x places : ℕ) (row : List ℕ) (rank : ℕ) → rank < x →
    slice_index_or (parts_of x places row) rank [] ≡ part_of rank x places row
parts-at x places row rank below =
    get_or-map-range_with_len (λ rank. part_of rank x places row) 0 x rank rank [] below (omega arith)

length-parts : (x places : ℕ) (row : List ℕ) → length (parts_of x places row) ≡ x
length-parts x places row = length-map (range_with_len 0 x) (λ rank. part_of rank x places row)
    ∙ length-range_with_len 0 x

pub row_of-parts : (x places : ℕ) (row : List ℕ) → length row ≡ places * x → row_of places (parts_of x places row) ≡ row
row_of-parts x places row size =
    let many : length (parts_of x places row) ≡ x = length-parts x places row in
    sym (is-octets_from 0 places (parts_of x places row) row (size ∙ ap (λ n. places * n) (sym many))
    (λ p rank low below.
    let own : rank < x = omega arith in
    ap (λ n. slice_index row (p * n + rank)) many
    ∙ sym (get-part_of rank x places row p low)
    ∙ ap (λ part. slice_index part p) (sym (parts-at x places row rank own))
    ∙ ap (octet_at (parts_of x places row) rank) (let e : p ≡ 0 + p = omega arith in e)))

pub part_of-row : (rank places : ℕ) (parts : List (List ℕ)) → rank < length parts →
    All (λ part. places ≤ length part) parts →
    part_of rank (length parts) places (row_of places parts) ≡ take places (slice_index_or parts rank [])
part_of-row rank places parts below long =
    let part : List ℕ = slice_index_or parts rank [] in
    let own : List ℕ = part_of rank (length parts) places (row_of places parts) in
    let enough : places ≤ length part = long rank [] below in
    let size : length (take places part) ≡ places = length-take places part
    ∙ (let e : min places (length part) ≡ places = omega arith in e) in
    let many : length own ≡ places = length-part_of rank (length parts) places (row_of places parts) in
    same_number_lists own (take places part) (many ∙ sym size)
    (λ p within.
    let low : p < places = omega arith in
    get-part_of rank (length parts) places (row_of places parts) p low
    ∙ get-octets_from 0 places parts p rank low below
    ∙ ap (octet_at parts rank) (let e : 0 + p ≡ p = omega arith in e)
    ∙ sym (get_or-take places part p 0 low))

pub dealt : (x places i : ℕ) (row : List ℕ) → i < places * x →
    slice_index (part_of (i % x) x places row) (i / x) ≡ slice_index row i
dealt x places i row within =
    let (low, below, same) = place-within x places i within in
    get-part_of (i % x) x places row (i / x) low ∙ ap (slice_index row) same

-- ---- gathering one by one
-- the places of a rank that was gathered stay
gathered-stays : (x places rank : ℕ) (row : List ℕ) (ranks : List ℕ) (before after : List ℕ) → rank < x →
    GathersAll x places row ranks before after →
    ((p : ℕ) → p < places → slice_index before (p * x + rank) ≡ slice_index row (p * x + rank)) →
    (p : ℕ) → p < places → slice_index after (p * x + rank) ≡ slice_index row (p * x + rank)
unfolding GathersAll
gathered-stays x places rank row [] before after below all has p low = ap (λ l. slice_index l (p * x + rank)) (sym all)
    ∙ has p low
gathered-stays x places rank row (own ∷ ranks) before after below (between, first, rest) has p low =
    gathered-stays x places rank row ranks between after below rest (λ p low. elim (cases_eq own rank) [
      | inl same ↦
          ap (λ r. slice_index between (p * x + r)) (sym same)
          ∙ first.placed p low
          ∙ get-part_of own x places row p low
          ∙ ap (λ r. slice_index row (p * x + r)) same
      | inr other ↦ first.others (p * x + rank) (λ is. other (sym (sym (rank-place x p rank below).0 ∙ is))) ∙ has p low
    ]) p low

gathered-there : (x places rank k : ℕ) (row : List ℕ) (ranks : List ℕ) (before after : List ℕ) → rank < x →
    k < length ranks →
    slice_index_or ranks k rank ≡ rank → GathersAll x places row ranks before after →
    (p : ℕ) → p < places → slice_index after (p * x + rank) ≡ slice_index row (p * x + rank)
unfolding GathersAll
gathered-there x places rank k row [] before after below within is all p low = absurd (omega arith)
gathered-there x places rank zero row (own ∷ ranks) before after below within is (between, first, rest) p low =
    gathered-stays x places rank row ranks between after below rest (λ p low.
    ap (λ r. slice_index between (p * x + r)) (sym is)
    ∙ first.placed p low
    ∙ get-part_of own x places row p low
    ∙ ap (λ r. slice_index row (p * x + r)) is) p low
gathered-there x places rank (suc k) row (own ∷ ranks) before after below within is (between, first, rest) p low =
    gathered-there x places rank k row ranks between after below (omega arith) is rest p low

gathered-length : (x places : ℕ) (row : List ℕ) (ranks : List ℕ) (before after : List ℕ) →
    GathersAll x places row ranks before after → length after ≡ length before
unfolding GathersAll
gathered-length x places row [] before after all = ap length (sym all)
gathered-length x places row (rank ∷ ranks) before after (between, first, rest) =
    gathered-length x places row ranks between after rest ∙ first.length

pub gathered-row : (x places : ℕ) (row before after : List ℕ) (ranks : List ℕ) → length row ≡ places * x →
    length before ≡ places * x →
    ((rank : ℕ) → rank < x → Contains ranks rank) → GathersAll x places row ranks before after → after ≡ row
gathered-row x places row before after ranks size room every all =
    same-rows x places after row (gathered-length x places row ranks before after all ∙ room) size
    (λ p rank low below. let (k, within, is) = every rank below in
    gathered-there x places rank k row ranks before after below within is all p low)

-- no places
pub octets_from-none : (place : ℕ) (parts : List (List ℕ)) → octets_from place 0 parts ≡ []
unfolding octets_from
octets_from-none place parts = refl

-- ---- Rows of the payloads of the active lines.
pub length-payloads : (containers : List Container) (active : List ℕ) →
    length (payloads_of containers active) ≡ length active
length-payloads containers active = length-map active (payload_at containers)

-- a row that has the octets of the members is their row
pub is-row : (containers : List Container) (active : List ℕ) (place places : ℕ) (row : List ℕ) →
    length row ≡ places * length active →
    ((p rank : ℕ) → p < places → rank < length active →
    slice_index row (p * length active + rank) ≡ octet_at (payloads_of containers active) rank (place + p)) →
    row ≡ octets_from place places (payloads_of containers active)
is-row containers active place places row size each =
    let many = length-payloads containers active in
    is-octets_from place places (payloads_of containers active) row (size ∙ ap (λ n. places * n) (sym many))
    (λ p rank low below. ap (λ n. slice_index row (p * n + rank)) many ∙ each p rank low (omega arith))

-- of one member
pub is-row-of_one : (containers : List Container) (active : List ℕ) (place places : ℕ) (row : List ℕ) →
    length active ≡ 1 → length row ≡ places →
    ((p : ℕ) → p < places → slice_index row p ≡ octet_at (payloads_of containers active) 0 (place + p)) →
    row ≡ octets_from place places (payloads_of containers active)
is-row-of_one containers active place places row one size each =
    is-row containers active place places row
    (size ∙ (let e : places ≡ places * 1 = omega arith in e) ∙ ap (λ n. places * n) (sym one))
    (λ p rank low below.
    let first : rank ≡ 0 = omega arith in
    ap (slice_index row) (ap₂ (λ n r. p * n + r) one first ∙ (let e : p * 1 + 0 ≡ p = omega arith in e))
    ∙ each p low
    ∙ ap (λ r. octet_at (payloads_of containers active) r (place + p)) (sym first))

-- of two members
pub is-row-of_two : (containers : List Container) (active : List ℕ) (place places : ℕ) (row : List ℕ) →
    length active ≡ 2 → length row ≡ places * 2 →
    ((p : ℕ) → p < places → slice_index row (p * 2) ≡ octet_at (payloads_of containers active) 0 (place + p)) →
    ((p : ℕ) → p < places → slice_index row (p * 2 + 1) ≡ octet_at (payloads_of containers active) 1 (place + p)) →
    row ≡ octets_from place places (payloads_of containers active)
is-row-of_two containers active place places row two size firsts seconds =
    is-row containers active place places row (size ∙ ap (λ n. places * n) (sym two))
    (λ p rank low below. ap (λ n. slice_index row (p * n + rank)) two ∙ by-rank p rank low (omega arith))
  where
    by-rank : (p rank : ℕ) → p < places → rank < 2 →
        slice_index row (p * 2 + rank) ≡ octet_at (payloads_of containers active) rank (place + p)
    by-rank p zero low below = ap (slice_index row) (let e : p * 2 + 0 ≡ p * 2 = omega arith in e) ∙ firsts p low
    by-rank p (suc zero) low below = seconds p low
    by-rank p (suc (suc rank)) low below = absurd (omega arith)

-- a row goes on where the rows before it end
pub rows-add : (a places place : ℕ) (parts : List (List ℕ)) (front back : List ℕ) → a ≤ places →
    front ≡ octets_from place a parts → back ≡ octets_from (place + a) (places - a) parts →
    front ++ back ≡ octets_from place places parts
rows-add a places place parts front back within first second =
    ap₂ (λ f b. f ++ b) first second
    ∙ sym (octets_from-add place a (places - a) parts)
    ∙ ap (λ n. octets_from place n parts) (let e : a + (places - a) ≡ places = omega arith in e)

-- ---- Rows whose octets come again and again.
-- any number of times
pub again-times : (row : List ℕ) → ComesAgain row → (i k : ℕ) → i + 4 * k < length row →
    slice_index row (i + 4 * k) ≡ slice_index row i
again-times row again i zero within = ap (slice_index row) (let e : i + 4 * 0 ≡ i = omega arith in e)
again-times row again i (suc k) within =
    ap (slice_index row) (let e : i + 4 * suc k ≡ i + 4 * k + 4 = omega arith in e)
    ∙ again (i + 4 * k) (omega arith)
    ∙ again-times row again i k (omega arith)

-- the octets of a member too
pub again-part : (row : List ℕ) → ComesAgain row → (p x rank : ℕ) → p * x + rank < length row →
    slice_index row (p % 16 % 4 * x + rank) ≡ slice_index row (p * x + rank)
again-part row again p x rank within =
    let turn : ℕ = p % 16 % 4 in
    let times : ℕ = p / 4 in
    let is : p ≡ turn + 4 * times = omega arith in
    let place : p * x + rank ≡ turn * x + rank + 4 * (times * x) = omega (arith, ap (λ n. n * x) is) in
    sym (ap (slice_index row) place
    ∙ again-times row again (turn * x + rank) (times * x) (omega (arith, place, within)))

-- a row that is its own end, four octets later
pub is-again : (row : List ℕ) → drop 4 row ≡ take (length row - 4) row → ComesAgain row
is-again row same i within =
    ap (slice_index row) (let e : i + 4 ≡ 4 + i = omega arith in e)
    ∙ sym (get_or-drop 4 row i 0)
    ∙ ap (λ l. slice_index l i) same
    ∙ get_or-take (length row - 4) row i 0 (omega arith)

-- ---- Lanes of two vectors of sixteen, in turn, and by turns.
left : (a b : List ℕ) (k : ℕ) → length a ≡ 16 → k < 16 → get_or (a ++ b) k 0 ≡ get_or a k 0
left a b k e h = get_or_append_left a b 0 k (omega arith)

right : (a b : List ℕ) (k : ℕ) → length a ≡ 16 → get_or (a ++ b) (16 + k) 0 ≡ get_or b k 0
right a b k e =
    get_or-append_right a b 16 (16 + k) 0 e (omega arith)
    ∙ (let same : 16 + k - 16 ≡ k = omega arith in ap (λ n. get_or b n 0) same)

abbrev pub front_lanes : List ℕ → List ℕ → List ℕ
front_lanes a b = get_or (a ++ b) 0 0 ∷ get_or (a ++ b) 16 0 ∷ get_or (a ++ b) 1 0 ∷ get_or (a ++ b) 17 0 ∷ get_or
    (a ++ b) 2 0 ∷ get_or (a ++ b) 18 0 ∷ get_or (a ++ b) 3 0 ∷ get_or (a ++ b) 19 0 ∷ get_or (a ++ b) 4 0 ∷ get_or
    (a ++ b) 20 0 ∷ get_or (a ++ b) 5 0 ∷ get_or (a ++ b) 21 0 ∷ get_or (a ++ b) 6 0 ∷ get_or (a ++ b) 22 0 ∷ get_or
    (a ++ b) 7 0 ∷ get_or (a ++ b) 23 0 ∷ []

pub front_is : (a b : List ℕ) → length a ≡ 16 → (n : ℕ) → n < 8 → (get_or (front_lanes a b) (2 * n) 0 ≡ get_or a n 0) ×
    (get_or (front_lanes a b) (2 * n + 1) 0 ≡ get_or b n 0)
front_is a b e zero h = (left a b 0 e (omega arith), right a b 0 e)
front_is a b e (suc zero) h = (left a b 1 e (omega arith), right a b 1 e)
front_is a b e (suc (suc zero)) h = (left a b 2 e (omega arith), right a b 2 e)
front_is a b e (suc (suc (suc zero))) h = (left a b 3 e (omega arith), right a b 3 e)
front_is a b e (suc (suc (suc (suc zero)))) h = (left a b 4 e (omega arith), right a b 4 e)
front_is a b e (suc (suc (suc (suc (suc zero))))) h = (left a b 5 e (omega arith), right a b 5 e)
front_is a b e (suc (suc (suc (suc (suc (suc zero)))))) h = (left a b 6 e (omega arith), right a b 6 e)
front_is a b e (suc (suc (suc (suc (suc (suc (suc zero))))))) h = (left a b 7 e (omega arith), right a b 7 e)
front_is a b e (suc (suc (suc (suc (suc (suc (suc (suc n)))))))) h = absurd (omega arith)

abbrev pub back_lanes : List ℕ → List ℕ → List ℕ
back_lanes a b = get_or (a ++ b) 8 0 ∷ get_or (a ++ b) 24 0 ∷ get_or (a ++ b) 9 0 ∷ get_or (a ++ b) 25 0 ∷ get_or
    (a ++ b) 10 0 ∷ get_or (a ++ b) 26 0 ∷ get_or (a ++ b) 11 0 ∷ get_or (a ++ b) 27 0 ∷ get_or (a ++ b) 12 0 ∷ get_or
    (a ++ b) 28 0 ∷ get_or (a ++ b) 13 0 ∷ get_or (a ++ b) 29 0 ∷ get_or (a ++ b) 14 0 ∷ get_or (a ++ b) 30 0 ∷ get_or
    (a ++ b) 15 0 ∷ get_or (a ++ b) 31 0 ∷ []

pub back_is : (a b : List ℕ) → length a ≡ 16 → (n : ℕ) → n < 8 →
    (get_or (back_lanes a b) (2 * n) 0 ≡ get_or a (n + 8) 0) ×
    (get_or (back_lanes a b) (2 * n + 1) 0 ≡ get_or b (n + 8) 0)
back_is a b e zero h = (left a b 8 e (omega arith), right a b 8 e)
back_is a b e (suc zero) h = (left a b 9 e (omega arith), right a b 9 e)
back_is a b e (suc (suc zero)) h = (left a b 10 e (omega arith), right a b 10 e)
back_is a b e (suc (suc (suc zero))) h = (left a b 11 e (omega arith), right a b 11 e)
back_is a b e (suc (suc (suc (suc zero)))) h = (left a b 12 e (omega arith), right a b 12 e)
back_is a b e (suc (suc (suc (suc (suc zero))))) h = (left a b 13 e (omega arith), right a b 13 e)
back_is a b e (suc (suc (suc (suc (suc (suc zero)))))) h = (left a b 14 e (omega arith), right a b 14 e)
back_is a b e (suc (suc (suc (suc (suc (suc (suc zero))))))) h = (left a b 15 e (omega arith), right a b 15 e)
back_is a b e (suc (suc (suc (suc (suc (suc (suc (suc n)))))))) h = absurd (omega arith)

-- each first one
abbrev pub firsts : List ℕ → List ℕ
firsts l =
    get_or l 0 0 ∷ get_or l 2 0 ∷ get_or l 4 0 ∷ get_or l 6 0 ∷ get_or l 8 0 ∷ get_or l 10 0 ∷ get_or l 12 0 ∷
    get_or l 14 0 ∷ get_or l 16 0 ∷ get_or l 18 0 ∷ get_or l 20 0 ∷ get_or l 22 0 ∷ get_or l 24 0 ∷ get_or l 26 0 ∷
    get_or l 28 0 ∷ get_or l 30 0 ∷ []

pub firsts_are : (l : List ℕ) (i : ℕ) → i < 16 → get_or (firsts l) i 0 ≡ get_or l (i * 2) 0
firsts_are l zero h = refl
firsts_are l (suc zero) h = refl
firsts_are l (suc (suc zero)) h = refl
firsts_are l (suc (suc (suc zero))) h = refl
firsts_are l (suc (suc (suc (suc zero)))) h = refl
firsts_are l (suc (suc (suc (suc (suc zero))))) h = refl
firsts_are l (suc (suc (suc (suc (suc (suc zero)))))) h = refl
firsts_are l (suc (suc (suc (suc (suc (suc (suc zero))))))) h = refl
firsts_are l (suc (suc (suc (suc (suc (suc (suc (suc zero)))))))) h = refl
firsts_are l (suc (suc (suc (suc (suc (suc (suc (suc (suc zero))))))))) h = refl
firsts_are l (suc (suc (suc (suc (suc (suc (suc (suc (suc (suc zero)))))))))) h = refl
firsts_are l (suc (suc (suc (suc (suc (suc (suc (suc (suc (suc (suc zero))))))))))) h = refl
firsts_are l (suc (suc (suc (suc (suc (suc (suc (suc (suc (suc (suc (suc zero)))))))))))) h = refl
firsts_are l (suc (suc (suc (suc (suc (suc (suc (suc (suc (suc (suc (suc (suc zero))))))))))))) h = refl
firsts_are l (suc (suc (suc (suc (suc (suc (suc (suc (suc (suc (suc (suc (suc (suc zero)))))))))))))) h = refl
firsts_are l (suc (suc (suc (suc (suc (suc (suc (suc (suc (suc (suc (suc (suc (suc (suc zero))))))))))))))) h = refl
firsts_are l (suc (suc (suc (suc (suc (suc (suc (suc (suc (suc (suc (suc (suc (suc (suc (suc n)))))))))))))))) h =
    absurd (omega arith)

-- each second one
abbrev pub seconds : List ℕ → List ℕ
seconds l =
    get_or l 1 0 ∷ get_or l 3 0 ∷ get_or l 5 0 ∷ get_or l 7 0 ∷ get_or l 9 0 ∷ get_or l 11 0 ∷ get_or l 13 0 ∷
    get_or l 15 0 ∷ get_or l 17 0 ∷ get_or l 19 0 ∷ get_or l 21 0 ∷ get_or l 23 0 ∷ get_or l 25 0 ∷ get_or l 27 0 ∷
    get_or l 29 0 ∷ get_or l 31 0 ∷ []

pub seconds_are : (l : List ℕ) (i : ℕ) → i < 16 → get_or (seconds l) i 0 ≡ get_or l (i * 2 + 1) 0
seconds_are l zero h = refl
seconds_are l (suc zero) h = refl
seconds_are l (suc (suc zero)) h = refl
seconds_are l (suc (suc (suc zero))) h = refl
seconds_are l (suc (suc (suc (suc zero)))) h = refl
seconds_are l (suc (suc (suc (suc (suc zero))))) h = refl
seconds_are l (suc (suc (suc (suc (suc (suc zero)))))) h = refl
seconds_are l (suc (suc (suc (suc (suc (suc (suc zero))))))) h = refl
seconds_are l (suc (suc (suc (suc (suc (suc (suc (suc zero)))))))) h = refl
seconds_are l (suc (suc (suc (suc (suc (suc (suc (suc (suc zero))))))))) h = refl
seconds_are l (suc (suc (suc (suc (suc (suc (suc (suc (suc (suc zero)))))))))) h = refl
seconds_are l (suc (suc (suc (suc (suc (suc (suc (suc (suc (suc (suc zero))))))))))) h = refl
seconds_are l (suc (suc (suc (suc (suc (suc (suc (suc (suc (suc (suc (suc zero)))))))))))) h = refl
seconds_are l (suc (suc (suc (suc (suc (suc (suc (suc (suc (suc (suc (suc (suc zero))))))))))))) h = refl
seconds_are l (suc (suc (suc (suc (suc (suc (suc (suc (suc (suc (suc (suc (suc (suc zero)))))))))))))) h = refl
seconds_are l (suc (suc (suc (suc (suc (suc (suc (suc (suc (suc (suc (suc (suc (suc (suc zero))))))))))))))) h = refl
seconds_are l (suc (suc (suc (suc (suc (suc (suc (suc (suc (suc (suc (suc (suc (suc (suc (suc n)))))))))))))))) h =
    absurd (omega arith)
