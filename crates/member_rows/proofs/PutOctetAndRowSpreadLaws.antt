-- Octets put at a place of others, and rows spread over the payloads of members.
use Rattle.std.proofs.Common.{◌≡◌, ℕ, ◌+◌, ◌-◌, ◌*◌, ◌<◌, ◌≤◌, ◌⊎◌, inl, inr, min, List, ◌++◌, length, take, drop}
use Rattle.std.proofs.Common.{slice_index, refl, ap, ◌∙◌, arith, length-take, get_or-take, get_or-drop, ◌≢◌, suc, []}
use Rattle.std.proofs.Common.{slice_index_or, slice_set, sym, ap₂, subst, append_assoc, length-append}
use Rattle.std.proofs.Common.{get_or-set_other, get_or-set_same, length-set}
use Rattle.std.proofs.lemmas.List.{get_or_append_left, get_or-append_right, get_or-map, map-set, length-map, take_at}
use Rattle.std.proofs.lemmas.List.{drop_at, take_all, drop_all, drop-drop, append-nil, take-append-drop}
use Rattle.std.proofs.lemmas.List.{length-take-le}
use Rattle.std.proofs.lemmas.Bool.{cases_order, cases_eq, cases_lt}
use Rattle.std.proofs.lemmas.Nat.{mul-le}
use Rattle.std.specs.Global.{Box}
use Rattle.std.specs.Box.{with_value}
use Rattle.law_model.specs.Common.{Container, part_of}
use Rattle.member_cells.specs.HeldPlaces.{held}
use Rattle.member_rows.specs.vcat_interleave.MemberPayloads.{with_octets, AreLines}
use Rattle.member_rows.specs.vcat_interleave.Spread.{SpreadsOver, AreDistinct}
use Rattle.member_rows.proofs.RowPartAndLaneLaws.{part_of-add, length-part_of}

-- ---- Octets that are put at a place, and the places of squares in a row.
-- octets put at a place of others
abbrev pub put_at : ℕ → List ℕ → List ℕ → List ℕ
put_at at row out = take at out ++ (row ++ drop (at + length row) out)

pub put-placed : (at i : ℕ) (out row : List ℕ) → at + length row ≤ length out → i < length row →
    slice_index (put_at at row out) (at + i) ≡ slice_index row i
put-placed at i out row fits h =
    let front : length (take at out) ≡ at = length-take at out
    ∙ (let e : min at (length out) ≡ at = omega arith in e) in
    get_or-append_right (take at out) (row ++ drop (at + length row) out) at (at + i) 0 front (omega arith)
    ∙ ap (slice_index (row ++ drop (at + length row) out)) (let e : at + i - at ≡ i = omega arith in e)
    ∙ get_or_append_left row (drop (at + length row) out) 0 i h

pub put-before : (at n : ℕ) (out row : List ℕ) → at + length row ≤ length out → n < at →
    slice_index (put_at at row out) n ≡ slice_index out n
put-before at n out row fits h =
    let front : length (take at out) ≡ at = length-take at out
    ∙ (let e : min at (length out) ≡ at = omega arith in e) in
    get_or_append_left (take at out) (row ++ drop (at + length row) out) 0 n (omega arith) ∙ get_or-take at out n 0 h

pub put-after : (at n : ℕ) (out row : List ℕ) → at + length row ≤ length out → at + length row ≤ n →
    slice_index (put_at at row out) n ≡ slice_index out n
put-after at n out row fits h =
    let front : length (take at out) ≡ at = length-take at out
    ∙ (let e : min at (length out) ≡ at = omega arith in e) in
    let rest : List ℕ = drop (at + length row) out in
    get_or-append_right (take at out) (row ++ rest) at n 0 front (omega arith)
    ∙ get_or-append_right row rest (length row) (n - at) 0 refl (omega arith)
    ∙ get_or-drop (at + length row) out (n - at - length row) 0
    ∙ ap (slice_index out) (let e : at + length row + (n - at - length row) ≡ n = omega arith in e)

-- a later place begins after all ranks of an earlier one
pub later : (j k x : ℕ) → j < k → j * x + x ≤ k * x
later j k x h = (let e : j * x + x ≡ (j + 1) * x =
    omega arith in rw e (mul-le (j + 1) x k x (omega arith) (omega arith)))

pub earlier : (j k x rank i : ℕ) → j < k → rank + 16 ≤ x → i < 16 → j * x + (rank + i) < k * x + rank
earlier j k x rank i h fits small = omega (arith, later j k x h)

-- the other ranks are not touched at any place
pub aside : (j k x rank r : ℕ) → rank + 16 ≤ x → r < x → (r < rank) ⊎ (rank + 16 ≤ r) →
    (j * x + r < k * x + rank) ⊎ (k * x + rank + 16 ≤ j * x + r)
aside j k x rank r fits h where_else = elim (cases_order j k) [
  | inl same ↦ elim where_else [
    | inl before ↦ inl (omega (arith, ap (λ n. n * x) same))
    | inr after ↦ inr (omega (arith, ap (λ n. n * x) same))
  ]
  | inr other ↦ elim other [
    | inl less ↦ inl (omega (arith, later j k x less))
    | inr more ↦ inr (omega (arith, later k j x more))
  ]
]

-- the octets of the places that are left
pub rest-size : (places done x size : ℕ) → done ≤ places → size + done * x ≡ places * x → size ≡ (places - done) * x
rest-size places done x size within all =
    let rest : ℕ = places - done in
    let whole : places ≡ done + rest = omega arith in
    omega (arith, ap (λ n. n * x) whole, all)

-- places that were done lie before the end of a row
pub done-within : (done squares k x : ℕ) → done ≡ k * 16 → k < squares → done * x + 16 * x ≤ squares * 16 * x
done-within done squares k x is more =
    let most : (k + 1) * 16 ≤ squares * 16 = omega arith in
    omega (arith, mul-le ((k + 1) * 16) x (squares * 16) x most (omega arith), ap (λ n. n * x) is)

-- ---- Octets put into payloads one after the other, and rows spread over members step by step.
-- ---- octets put at a place
-- what is put stands from its place on
drop-put : (place : ℕ) (octets payload : List ℕ) (n : ℕ) → place ≤ length payload →
    drop (place + (length octets + n)) (put_at place octets payload) ≡ drop (place + (length octets + n)) payload
drop-put place octets payload n within =
    let back : List ℕ = drop (place + length octets) payload in
    sym (drop-drop (length octets + n) place (put_at place octets payload))
    ∙ ap (drop (length octets + n))
    (drop_at (take place payload) (octets ++ back) place (length-take-le place payload within))
    ∙ sym (drop-drop n (length octets) (octets ++ back))
    ∙ ap (drop n) (drop_at octets back (length octets) refl)
    ∙ drop-drop n (place + length octets) payload
    ∙ ap (λ m. drop m payload) (let e : place + length octets + n ≡ place + (length octets + n) = omega arith in e)

-- octets that are put after others, into a payload that reaches to their place, and into a shorter one
more-within : (place : ℕ) (xs ys payload : List ℕ) → place ≤ length payload →
    put_at (place + length xs) ys (put_at place xs payload) ≡ put_at place (xs ++ ys) payload
more-within place xs ys payload within =
    let front : List ℕ = take place payload in
    let rest : List ℕ = drop (place + (length xs + length ys)) payload in
    let size : length (front ++ xs) ≡ place + length xs =
    omega (arith, length-append front xs, length-take-le place payload within) in
    ap₂ (λ a b. a ++ (ys ++ b))
    (ap (take (place + length xs)) (sym (append_assoc front xs (drop (place + length xs) payload)))
    ∙ take_at (front ++ xs) (drop (place + length xs) payload) (place + length xs) size)
    (ap (λ n. drop n (put_at place xs payload))
    (let e : place + length xs + length ys ≡ place + (length xs + length ys) = omega arith in e)
    ∙ drop-put place xs payload (length ys) within)
    ∙ append_assoc front xs (ys ++ rest)
    ∙ ap (λ l. front ++ l) (sym (append_assoc xs ys rest))
    ∙ ap (λ n. front ++ ((xs ++ ys) ++ drop n payload))
    (let e : place + (length xs + length ys) ≡ place + length (xs ++ ys) = omega (arith, length-append xs ys) in e)

more-short : (place : ℕ) (xs ys payload : List ℕ) → length payload < place →
    put_at (place + length xs) ys (put_at place xs payload) ≡ put_at place (xs ++ ys) payload
more-short place xs ys payload short =
    let front : List ℕ = take place payload in
    let none : drop (place + length xs) payload ≡ [] = drop_all (place + length xs) payload (omega arith) in
    let all : put_at place xs payload ≡ front ++ xs = ap (λ l. front ++ (xs ++ l)) none
    ∙ ap (λ l. front ++ l) (append-nil xs) in
    let size : length (front ++ xs) ≤ place + length xs =
    omega (arith, length-append front xs, length-take place payload) in
    ap (put_at (place + length xs) ys) all
    ∙ ap₂ (λ a b. a ++ (ys ++ b)) (take_all (place + length xs) (front ++ xs) size)
    (drop_all (place + length xs + length ys) (front ++ xs) (omega (arith, size)))
    ∙ append_assoc front xs (ys ++ [])
    ∙ ap (λ l. front ++ l) (sym (append_assoc xs ys []))
    ∙ ap (λ l. front ++ ((xs ++ ys) ++ l)) (sym (drop_all (place + length (xs ++ ys)) payload (omega arith)))

put-more : (place : ℕ) (xs ys payload : List ℕ) →
    put_at (place + length xs) ys (put_at place xs payload) ≡ put_at place (xs ++ ys) payload
put-more place xs ys payload =
    elim (cases_lt (length payload) place) [
      | inl short ↦ more-short place xs ys payload short
      | inr within ↦ more-within place xs ys payload within
    ]

-- ---- the same of containers
abbrev with_payload : Container → List ℕ → Container
with_payload container payload = record { h4 = container.h4; payload = payload }

pub with_octets-more : (place n : ℕ) (xs ys : List ℕ) (container : Container) → n ≡ length xs →
    with_octets (place + n) ys (with_octets place xs container) ≡ with_octets place (xs ++ ys) container
with_octets-more place n xs ys container size =
    ap (λ n. with_octets (place + n) ys (with_octets place xs container)) size
    ∙ ap (with_payload container) (put-more place xs ys container.payload)

-- ---- rows over members
-- no members
pub spreads-none : (from upto place places : ℕ) (row active : List ℕ) (containers : List Container) → upto ≤ from →
    SpreadsOver from upto place places row active containers containers
spreads-none from upto place places row active containers none = record {
  members = λ rank d above below. absurd (omega arith);
  others = λ line d apart. refl;
  lines = refl;
}

-- one member more
pub spreads-next : (from upto place places : ℕ) (row active : List ℕ) (before middle after : List Container) →
    AreDistinct active → AreLines (length middle) active → from ≤ upto → upto < length active →
    ((d : Container) → after ≡ slice_set middle (slice_index active upto)
    (with_octets place (part_of upto (length active) places row) (slice_index_or middle (slice_index active upto) d))) →
    SpreadsOver from upto place places row active before middle →
    SpreadsOver from (suc upto) place places row active before after
spreads-next from upto place places row active before middle after distinct lines start below put spreads =
    let x : ℕ = length active in
    let own : ℕ = slice_index active upto in
    let part : List ℕ = part_of upto x places row in
    let inside : own < length middle = lines upto below in
    let here : (d : Container) → slice_index_or after own d ≡ with_octets place part (slice_index_or middle own d) =
    λ d. ap (λ l. slice_index_or l own d) (put d)
    ∙ get_or-set_same middle own (with_octets place part (slice_index_or middle own d)) d inside in
    let there : (line : ℕ) (d : Container) → line ≢ own → slice_index_or after line d ≡ slice_index_or middle line d =
    λ line d other. ap (λ l. slice_index_or l line d) (put d) ∙ rw get_or-set_other refl in
    record {
      members = λ rank d above low. elim (cases_eq rank upto) [
        | inl same ↦ subst (λ r. slice_index_or after (slice_index active r) d ≡ with_octets place
            (part_of r x places row) (slice_index_or before (slice_index active r) d)) (sym same)
            (here d ∙ ap (with_octets place part)
            (spreads.others own d (λ rank above low same. distinct rank upto low below same)))
        | inr other ↦
            let less : rank < upto = omega arith in
            there (slice_index active rank) d (λ same. distinct rank upto less below same)
            ∙ spreads.members rank d above less
      ];
      others = λ line d apart.
          there line d (λ same. apart upto start (omega arith) (sym same))
          ∙ spreads.others line d (λ rank above low. apart rank above (omega arith));
      lines = ap length (put (record { h4 = 0; payload = [] })) ∙ length-set middle own _ ∙ spreads.lines;
    }

-- the members of later ranks, after those of earlier ones
pub spreads-join : (from middle upto place places : ℕ) (row active : List ℕ) (before between after : List Container) →
    AreDistinct active → from ≤ middle → middle ≤ upto → upto ≤ length active →
    SpreadsOver from middle place places row active before between →
    SpreadsOver middle upto place places row active between after →
    SpreadsOver from upto place places row active before after
spreads-join from middle upto place places row active before between after distinct start on most first second =
    record {
      members = λ rank d above low. elim (cases_lt rank middle) [
        | inl less ↦
            second.others (slice_index active rank) d
            (λ later high below same. distinct rank later (omega arith) (omega arith) (sym same))
            ∙ first.members rank d above less
        | inr more ↦
            second.members rank d more low
            ∙ ap (with_octets place (part_of rank (length active) places row))
            (first.others (slice_index active rank) d
            (λ sooner above below same. distinct sooner rank (omega arith) (omega arith) same))
      ];
      others = λ line d apart.
          second.others line d (λ rank above low. apart rank (omega arith) low)
          ∙ first.others line d (λ rank above low. apart rank above (omega arith));
      lines = second.lines ∙ first.lines;
    }

-- a row that goes on
pub spreads-add : (from upto place a b : ℕ) (row active : List ℕ) (before middle after : List Container) →
    SpreadsOver from upto place a row active before middle →
    SpreadsOver from upto (place + a) b (drop (a * length active) row) active middle after →
    SpreadsOver from upto place (a + b) row active before after
spreads-add from upto place a b row active before middle after first second = record {
  members = λ rank d above low.
      let x : ℕ = length active in
      let line : ℕ = slice_index active rank in
      let back : List ℕ = drop (a * x) row in
      second.members rank d above low
      ∙ ap (with_octets (place + a) (part_of rank x b back)) (first.members rank d above low)
      ∙ with_octets-more place a (part_of rank x a row) (part_of rank x b back) (slice_index_or before line d)
      (sym (length-part_of rank x a row))
      ∙ ap (λ part. with_octets place part (slice_index_or before line d)) (sym (part_of-add rank x a b row));
  others = λ line d apart. second.others line d apart ∙ first.others line d apart;
  lines = second.lines ∙ first.lines;
}

-- no places
pub spreads-empty : (from upto place : ℕ) (row active : List ℕ) (containers : List Container) →
    SpreadsOver from upto place 0 row active containers containers
unfolding part_of
spreads-empty from upto place row active containers = record {
  members = λ rank d above low.
      let c : Container = slice_index_or containers (slice_index active rank) d in
      sym (ap (λ n. with_payload c (take place c.payload ++ drop n c.payload))
      (let e : place + 0 ≡ place = omega arith in e)
      ∙ ap (with_payload c) (take-append-drop place c.payload));
  others = λ line d apart. refl;
  lines = refl;
}

-- the lines are as many as before
pub lines-stay : (n : ℕ) (boxes : List (Box Container)) (active : List ℕ) → length boxes ≡ n → AreLines n active →
    AreLines (length (held boxes)) active
lines-stay n boxes active same lines rank below =
    let size : length (held boxes) ≡ n = length-map boxes (λ (place : Box Container). place.value) ∙ same in
    let low : slice_index active rank < n = lines rank below in
    omega (arith, size, low)

-- ---- the boxes of the lines
-- the container in the box of a line
pub held-at : (boxes : List (Box Container)) (line : ℕ) (place : Box Container) (d : Container) → line < length boxes →
    slice_index_or (held boxes) line d ≡ (slice_index_or boxes line place).value
held-at boxes line place d low = get_or-map (λ (place : Box Container). place.value) boxes line place d low

-- another container in its box
pub held-set : (boxes : List (Box Container)) (line : ℕ) (place : Box Container) →
    held (slice_set boxes line place) ≡ slice_set (held boxes) line place.value
held-set boxes line place = map-set (λ (place : Box Container). place.value) boxes line place

-- octets put into the container in the box of a line, where it has the container that it had
pub put-in-box : (boxes : List (Box Container)) (line place n : ℕ) (own : Box Container) (was : Container)
    (octets out : List ℕ) (d : Container) → line < length boxes →
    was ≡ (slice_index_or boxes line own).value → n ≡ length octets →
    out ≡ take place was.payload ++ (octets ++ drop (place + n) was.payload) →
    held (slice_set boxes line (with_value (slice_index_or boxes line own) (record { h4 = was.h4; payload = out })))
    ≡ slice_set (held boxes) line (with_octets place octets (slice_index_or (held boxes) line d))
put-in-box boxes line place n own was octets out d low is size put =
    held-set boxes line (with_value (slice_index_or boxes line own) (record { h4 = was.h4; payload = out }))
    ∙ ap (slice_set (held boxes) line)
    (ap (with_payload was) (put ∙ ap (λ m. take place was.payload ++ (octets ++ drop (place + m) was.payload)) size)
    ∙ ap (with_octets place octets) (is ∙ sym (held-at boxes line own d low)))
