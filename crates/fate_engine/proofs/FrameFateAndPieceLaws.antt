-- The fate of a frame, found by its number from what is kept of the stream, and that more pieces don't change it.
use Rattle.std.proofs.Common.{◌≡◌, ℕ, zero, suc, ◌+◌, ◌-◌, ◌<◌, ◌≤◌, ◌&&◌, ◌||◌, Bool, true, false, nat_le, nat_lt}
use Rattle.std.proofs.Common.{List, [], ◌∷◌, length, take, slice_get, Option, Some, None, refl, sym, ◌∙◌, ap, ap₂}
use Rattle.std.proofs.Common.{subst, arith, inl, inr, length-append, ◌⊎◌, ◌++◌, All}
use Rattle.std.specs.List.{list_any}
use Rattle.std.proofs.lemmas.Bool.{cases_lt, lt-ltb, le-ltb, le-leb, lt-leb, cases_Bool, leb-true}
use Rattle.std.proofs.lemmas.List.{take-append-le}
use Rattle.law_model.specs.Common.{Scenario, Told, size as pieces_size, Stream, place_of, StreamRow, octets_of_rows}
use Rattle.law_model.specs.Common.{rows_of, Extent, extents, is_carried, Piece, stream_of, stream_before, Segment}
use Rattle.law_model.specs.Common.{segments, lies_in, confirmed_in}
use Rattle.law_model.specs.rows.SessionStream.{row_of}
use Rattle.law_loss.proofs.SessionStreamLossLaws.{rows-length, pieces-begin, rows-carry}
use Rattle.fate_engine.specs.Common.{place_at, row_at, spoiled_after, is_settled_by, fate_after, fate_of, row_segments}
use Rattle.fate_engine.specs.Common.{mark_of_row, fate_by_rows, fate_at, fate_if, sides, ruler_of, IsAround}
use Rattle.fate_engine.specs.Common.{begins_from, settles, fate_by_mark, fate_around, fate_in, fate_among}
use Rattle.fate_engine.specs.declared.fate_law.Fate.TheVariants.{Waits, Cut}
use Rattle.fate_engine.specs.declared.fate_core.row_segments.Around.{Around}
use Rattle.fate_engine.proofs.FrameRowAndSegmentLaws.{row-of_place, fate-rows}
use Rattle.fate_engine.specs.fate_core.FrameSides.{AreInOrder}
use Rattle.fate_engine.proofs.RulerAndFrameSideLaws.{order-of}
use Rattle.law_loss.proofs.ClientFrameExtentLaws.{and_true, and_false, IsBetween, extents-between, extents-append}
use Rattle.fate_engine.proofs.GotFateAndLandedFrameLaws.{or_none}
use Rattle.std.specs.Prelude.{if◌then◌else◌}
use Rattle.std.proofs.lemmas.List.Elements.{All-head, All-tail}
use Rattle.fate_engine.specs.declared.fate_law.Fate.{Fate}

-- ---- The fate of a frame by what is kept of frames, packets and segments.
-- ---- the extent of a frame that is begun
record IsExtent (all : List Extent) (i : ℕ) (side : ℕ × ℕ) : Type 0 where
  pub extent : Extent
  pub there : slice_get all i ≡ Some extent
  pub from : side.0 ≡ extent.from
  pub to : side.1 ≡ extent.to

extent-at : (all : List Extent) (i : ℕ) (side : ℕ × ℕ) → Some side ≡ slice_get (sides all) i → IsExtent all i side
extent-at [] zero side there = absurd cc
extent-at [] (suc i) side there = absurd cc
extent-at (e ∷ all) zero side there = let same : side ≡ (e.from, e.to) = cc in
    record { extent = e; there = refl; from = ap (λ (s : ℕ × ℕ). s.0) same; to = ap (λ (s : ℕ × ℕ). s.1) same }
extent-at (e ∷ all) (suc i) side there = let rest = extent-at all i side there in
    record { extent = rest.extent; there = rest.there; from = rest.from; to = rest.to }

-- ---- the frame before
later-none : (m from : ℕ) (all : List Extent) (end : ℕ) (e : Extent) → AreInOrder from (sides all) end → e.from ≤ from →
    list_any (is_settled_by m e) all ≡ false
unfolding AreInOrder
later-none m from [] end e are low = refl
later-none m from (x ∷ all) end e are low =
    let late : nat_lt x.from e.from ≡ false = le-ltb x.from e.from (let a = are.0 in omega (arith, a, low)) in
    ap₂ ◌||◌ (ap (λ b. nat_le m x.from && b) late ∙ and_false (nat_le m x.from))
    (later-none m x.to all end e are.2 (let a = are.0 in let b = are.1 in omega (arith, a, b, low)))

side-late : (from : ℕ) (all : List Extent) (end k : ℕ) (e : Extent) → AreInOrder from (sides all) end →
    slice_get all k ≡ Some e → from ≤ e.from
unfolding AreInOrder
side-late from [] end zero e are there = absurd cc
side-late from [] end (suc k) e are there = absurd cc
side-late from (x ∷ all) end zero e are there = let same : x ≡ e = cc in
    subst (λ (y : Extent). from ≤ y.from) same are.0
side-late from (x ∷ all) end (suc k) e are there = let rest = side-late x.to all end k e are.2 there in let a = are.0 in
    let b = are.1 in omega (arith, rest, a, b)

begins-late : (m from : ℕ) (all : List Extent) (end j : ℕ) (e : Extent) → AreInOrder from (sides all) end →
    slice_get all (suc j) ≡ Some e → m ≤ from → begins_from m (slice_get (sides all) j) ≡ true
unfolding AreInOrder
begins-late m from [] end zero e are there low = absurd cc
begins-late m from [] end (suc j) e are there low = absurd cc
begins-late m from (x ∷ all) end zero e are there low = le-leb m x.from (let a = are.0 in omega (arith, a, low))
begins-late m from (x ∷ all) end (suc j) e are there low =
    begins-late m x.to all end j e are.2 there (let a = are.0 in let b = are.1 in omega (arith, a, b, low))

settled-by : (m from : ℕ) (all : List Extent) (end i : ℕ) (e : Extent) → AreInOrder from (sides all) end →
    slice_get all i ≡ Some e → list_any (is_settled_by m e) all ≡ settles (sides all) i m
unfolding AreInOrder
settled-by m from [] end zero e are there = absurd cc
settled-by m from [] end (suc i) e are there = absurd cc
settled-by m from (x ∷ all) end zero e are there =
    let same : x ≡ e = cc in
    let here : nat_lt x.from e.from ≡ false =
    le-ltb x.from e.from (let e2 = ap (λ (y : Extent). y.from) same in omega (arith, e2)) in
    ap₂ ◌||◌ (ap (λ b. nat_le m x.from && b) here ∙ and_false (nat_le m x.from))
    (later-none m x.to all end e are.2
    (let e2 = ap (λ (y : Extent). y.from) same in let b = are.1 in omega (arith, e2, b)))
settled-by m from (x ∷ all) end (suc i) e are there =
    let late = side-late x.to all end i e are.2 there in
    let before : nat_lt x.from e.from ≡ true = lt-ltb x.from e.from (let b = are.1 in omega (arith, late, b)) in
    let rest = settled-by m x.to all end i e are.2 there in
    ap₂ ◌||◌ (ap (λ b. nat_le m x.from && b) before ∙ and_true (nat_le m x.from)) rest ∙ joined i there
  where
    joined : (i : ℕ) → slice_get all i ≡ Some e →
        (nat_le m x.from || settles (sides all) i m) ≡ begins_from m (slice_get ((x.from, x.to) ∷ sides all) i)
    joined zero there = or_none (nat_le m x.from)
    joined (suc j) there =
        elim (cases_lt x.from m) [
          | inl late ↦ ap (λ b. b || begins_from m (slice_get (sides all) j)) (lt-leb m x.from late)
          | inr early ↦ ap (λ b. b || begins_from m (slice_get (sides all) j)) (le-leb m x.from early)
              ∙ sym (begins-late m x.to all end j e are.2 there (let b = are.1 in omega (arith, b, early)))
        ]

-- ---- by where its first row lies
by-mark : (mark : Option ℕ) (all : List Extent) (e : Extent) (r q : ℕ) (settled : ℕ → Bool) →
    ((m : ℕ) → list_any (is_settled_by m e) all ≡ settled m) →
    fate_by_mark mark r q e.from settled ≡ fate_after mark all e r q
by-mark None all e r q settled same = refl
by-mark (Some m) all e r q settled same =
    elim (cases_lt e.from m) [
      | inl early ↦ rw (lt-ltb e.from m early, lt-leb m e.from early) refl
      | inr late ↦ rw (le-ltb e.from m late, le-leb m e.from late, same m) refl
    ]

around-fate : (rows : List StreamRow) (all : List Extent) (e : Extent) (r q : ℕ) (around : Around)
    (settled : ℕ → Bool) → IsAround rows r around → r ≤ q → ((m : ℕ) → list_any (is_settled_by m e) all ≡ settled m) →
    fate_around around r q e.from settled ≡ fate_by_rows rows all e r q
around-fate rows all e r q around settled is rising same =
    elim (cases_lt q (spoiled_after rows r)) [
      | inr cut ↦ rw (is.spoiled, le-leb (spoiled_after rows r) q cut, le-ltb q (spoiled_after rows r) cut) refl
      | inl whole ↦ rw (is.spoiled, lt-leb (spoiled_after rows r) q whole, lt-ltb q (spoiled_after rows r) whole)
          (elim (cases_lt r (spoiled_after rows 0)) [
            | inl first ↦ rw (is.first, lt-ltb r (spoiled_after rows 0) first) refl
            | inr later ↦ rw (is.first, le-ltb r (spoiled_after rows 0) later)
                (ap (λ m. fate_by_mark m r q e.from settled) (is.mark (omega (arith, whole, rising)) later)
                ∙ by-mark (mark_of_row (row_segments rows) r) all e r q settled same)
          ])
    ]

-- ---- rows and places of a session
take-all : {X : Type 0} (xs : List X) → take (length xs) xs ≡ xs
take-all [] = refl
take-all (x ∷ xs) = ap (λ l. x ∷ l) (take-all xs)

pub place-grows : (rows : List StreamRow) (j k : ℕ) → j ≤ k → place_at rows j ≤ place_at rows k
place-grows rows zero k low = omega arith
place-grows [] (suc j) zero low = absurd (omega arith)
place-grows [] (suc j) (suc k) low = omega arith
place-grows (row ∷ rows) (suc j) zero low = absurd (omega arith)
place-grows (row ∷ rows) (suc j) (suc k) low =
    let one = length-append row.octets (octets_of_rows (take j rows)) in
    let other = length-append row.octets (octets_of_rows (take k rows)) in
    omega (arith, place-grows rows j k (omega arith), one, other)

module _ (scenario : Scenario) (cells : List (Option Told)) where
  pub rows-count : (n : ℕ) → length (rows_of scenario cells n) ≡ n
  unfolding rows_of
  rows-count zero = refl
  rows-count (suc n) = let rest = rows-count n in
      let all = length-append (rows_of scenario cells n) (row_of scenario cells n ∷ []) in omega (arith, rest, all)

  take-rows : (n k : ℕ) → k ≤ n → take k (rows_of scenario cells n) ≡ rows_of scenario cells k
  unfolding rows_of
  take-rows zero k low = ap (λ k. take k (rows_of scenario cells zero)) (let e : k ≡ 0 = omega arith in e)
      ∙ ap (rows_of scenario cells) (let e : 0 ≡ k = omega arith in e)
  take-rows (suc n) k low =
      elim (cases_lt n k) [
        | inl all ↦ (
            let same : k ≡ length (rows_of scenario cells (suc n)) =
            (let e = rows-count (suc n) in omega (arith, e, all)) in
            ap (λ k. take k (rows_of scenario cells (suc n))) same ∙ take-all (rows_of scenario cells (suc n))
            ∙ ap (rows_of scenario cells) (let e : suc n ≡ k = omega arith in e))
        | inr front ↦ take-append-le k (rows_of scenario cells n) (row_of scenario cells n ∷ [])
            (let e = rows-count n in omega (arith, e, front)) ∙ take-rows n k front
      ]

  place-is : (n k : ℕ) → k ≤ n → place_at (rows_of scenario cells n) k ≡ place_of scenario cells k
  place-is n k low = ap (λ rows. length (octets_of_rows rows)) (take-rows n k low)
      ∙ rows-length scenario cells k k (omega arith)

  pub place-rises : (j d : ℕ) → place_of scenario cells j ≤ place_of scenario cells (j + d)
  place-rises j d =
      let grows = place-grows (rows_of scenario cells (j + d)) j (j + d) (omega arith) in
      omega (arith, grows, place-is (j + d) j (omega arith), place-is (j + d) (j + d) (omega arith))

  pub place-up : (j k : ℕ) → j ≤ k → place_of scenario cells j ≤ place_of scenario cells k
  place-up j k low = let rises = place-rises j (k - j) in
      let same = ap (place_of scenario cells) (let e : j + (k - j) ≡ k = omega arith in e) in omega (arith, rises, same)

  -- the row of a place
  pub row-is : (n place row : ℕ) → place < place_of scenario cells n → place_of scenario cells row ≤ place →
      place < place_of scenario cells (suc row) → row ≡ row_at (rows_of scenario cells n) place
  row-is n place row low from below =
      let rows : List StreamRow = rows_of scenario cells n in
      let has = row-of_place rows place (omega (arith, low, rows-length scenario cells n n (omega arith))) in
      let other : ℕ = row_at rows place in
      let within : row < n = elim (cases_lt row n) [
        | inl is ↦ is
        | inr isnt ↦ absurd (let up = place-up n row isnt in omega (arith, up, low, from))
      ] in
      let one = place-is n row (omega (arith, within)) in
      let next = place-is n (suc row) (omega (arith, within)) in
      let starts = has.from in
      let ends = has.below in
      elim (cases_lt row other) [
        | inl less ↦ absurd (let grows =
            place-grows rows (suc row) other (omega (arith, less)) in omega (arith, grows, next, below, starts))
        | inr more ↦ elim (cases_lt other row) [
          | inl less ↦ absurd (let grows =
              place-grows rows (suc other) row (omega (arith, less)) in omega (arith, grows, one, from, ends))
          | inr same ↦ omega arith
        ]
      ]

  -- ---- the fate of a frame
  module _ (stream : Stream) (n : ℕ) (i : ℕ) (side : ℕ × ℕ) (there : Some side ≡ slice_get (ruler_of stream).sent i)
      (some : side.0 < side.1) where
    abbrev rows : List StreamRow
    rows = rows_of scenario cells n

    found : IsExtent (extents 0 stream.pieces) i side
    found = extent-at (extents 0 stream.pieces) i side there

    is-fate : fate_at stream.pieces rows i ≡ fate_of stream.pieces rows found.extent
    is-fate = ap (fate_if (fate_of stream.pieces rows)) found.there

    pub late-waits : place_of scenario cells n < side.1 → Waits ≡ fate_at stream.pieces rows i
    late-waits late =
        let isnt : is_carried (length (octets_of_rows rows)) found.extent ≡ false =
        lt-leb found.extent.to (length (octets_of_rows rows))
        (let to = found.to in omega (arith, rows-length scenario cells n n (omega arith), to, late)) in
        sym (is-fate ∙ rw isnt refl)

    pub carried-fate : side.1 ≤ place_of scenario cells n → (first last : ℕ) → place_of scenario cells first ≤ side.0 →
        side.0 < place_of scenario cells (suc first) →
        place_of scenario cells last ≤ side.1 - 1 → side.1 - 1 < place_of scenario cells (suc last) →
        (around : Around) → (first < length rows → IsAround rows first around) →
        fate_around around first last side.0 (settles (ruler_of stream).sent i) ≡ fate_at stream.pieces rows i
    carried-fate carried first last from below last-from last-below around is =
        let e : Extent = found.extent in
        let one : first ≡ row_at rows e.from = row-is n side.0 first (omega (arith, some, carried)) from below
        ∙ ap (row_at rows) found.from in
        let other : last ≡ row_at rows (e.to - 1) =
        row-is n (side.1 - 1) last (omega (arith, some, carried)) last-from last-below
        ∙ ap (λ m. row_at rows (m - 1)) found.to in
        let rising : first ≤ last = elim (cases_lt last first) [
          | inl wrong ↦ absurd (let up = place-up (suc last) first (omega (arith, wrong)) in omega
              (arith, up, from, last-below, some))
          | inr right ↦ right
        ] in
        let within : first < n = elim (cases_lt first n) [
          | inl right ↦ right
          | inr wrong ↦ absurd (let up = place-up n first wrong in omega (arith, up, from, some, carried))
        ] in
        let all = rows-length scenario cells n n (omega arith) in
        let to = found.to in
        let begins = found.from in
        ap (λ m. fate_around around first last m (settles (ruler_of stream).sent i)) found.from
        ∙ around-fate rows (extents 0 stream.pieces) e first last around (settles (ruler_of stream).sent i)
        (is (let count = rows-count n in omega (arith, count, within))) rising
        (λ m. settled-by m 0 (extents 0 stream.pieces) (0 + pieces_size stream.pieces) i e
        (order-of 0 stream.pieces) found.there)
        ∙ ap₂ (fate_by_rows rows (extents 0 stream.pieces) e) one other
        ∙ sym (fate-rows stream.pieces rows e (omega (arith, to, begins, some)) (omega (arith, to, all, carried)))
        ∙ sym is-fate

-- ---- More pieces change no fate of rows that the first ones reach.
-- ---- frames behind a frame don't settle it
behind : (m : ℕ) (e : Extent) (low high : ℕ) (others : List Extent) → All (IsBetween low high) others → e.from ≤ low →
    list_any (is_settled_by m e) others ≡ false
behind m e low high [] all late = refl
behind m e low high (other ∷ others) all late =
    let is = All-head (IsBetween low high) other others all in
    ap₂ ◌||◌ (ap (λ b. nat_le m other.from && b) (le-ltb other.from e.from (omega (arith, is.lower, late)))
    ∙ and_false (nat_le m other.from))
    (behind m e low high others (All-tail (IsBetween low high) other others all) late)

any-front : (test : Extent → Bool) (front more : List Extent) → list_any test more ≡ false →
    list_any test (front ++ more) ≡ list_any test front
any-front test [] more none = none
any-front test (e ∷ front) more none = ap (λ b. test e || b) (any-front test front more none)

-- ---- the same frames settle, the same fate
after-same : (found : Option ℕ) (all other : List Extent) (e : Extent) (r q : ℕ) →
    ((m : ℕ) → list_any (is_settled_by m e) all ≡ list_any (is_settled_by m e) other) →
    fate_after found all e r q ≡ fate_after found other e r q
after-same None all other e r q same = refl
after-same (Some place) all other e r q same = rw (same place) refl

in-same : (first : Bool) (segment : Segment) (all other : List Extent) (e : Extent) (r q : ℕ) →
    ((m : ℕ) → list_any (is_settled_by m e) all ≡ list_any (is_settled_by m e) other) →
    fate_in first segment all e r q ≡ fate_in first segment other e r q
in-same true segment all other e r q same = refl
in-same false segment all other e r q same = after-same (confirmed_in segment) all other e r q same

among-same : (none : Fate) (list : List Segment) (all other : List Extent) (e : Extent) (r q : ℕ) →
    ((m : ℕ) → list_any (is_settled_by m e) all ≡ list_any (is_settled_by m e) other) →
    fate_among none list all e r q ≡ fate_among none list other e r q
unfolding fate_among
among-same none [] all other e r q same = refl
among-same none (segment ∷ list) all other e r q same =
    ap₂ (λ here later. if lies_in segment e then here else later) (in-same segment.first segment all other e r q same)
    (among-same none list all other e r q same)

-- ---- an extent is one of the first, or behind them
front-or-behind : (front more : List Extent) (i : ℕ) →
    (slice_get (front ++ more) i ≡ slice_get front i) ⊎
    ((slice_get front i ≡ None) × ((k : ℕ) × (slice_get (front ++ more) i ≡ slice_get more k)))
front-or-behind [] more zero = inr (refl, (zero, refl))
front-or-behind [] more (suc i) = inr (refl, (suc i, refl))
front-or-behind (e ∷ front) more zero = inl refl
front-or-behind (e ∷ front) more (suc i) = front-or-behind front more i

get-between : (low high : ℕ) (list : List Extent) (k : ℕ) → All (IsBetween low high) list →
    (slice_get list k ≡ None) ⊎ ((e : Extent) × (slice_get list k ≡ Some e) × IsBetween low high e)
get-between low high [] zero all = inl refl
get-between low high [] (suc k) all = inl refl
get-between low high (e ∷ list) zero all = inr (e, refl, All-head (IsBetween low high) e list all)
get-between low high (e ∷ list) (suc k) all = get-between low high list k (All-tail (IsBetween low high) e list all)

module _ (pieces more : List Piece) (rows : List StreamRow)
    (reach : length (octets_of_rows rows) ≤ length (stream_of pieces)) where
  abbrev front : List Extent
  front = extents 0 pieces

  abbrev later : List Extent
  later = extents (0 + length (stream_of pieces)) more

  parts : extents 0 (pieces ++ more) ≡ front ++ later
  parts = extents-append 0 pieces more

  abbrev size : ℕ
  size = 0 + length (stream_of pieces)

  same-fate : (e : Extent) → IsBetween 0 size e → fate_of (pieces ++ more) rows e ≡ fate_of pieces rows e
  same-fate e is =
      elim (cases_Bool (is_carried (length (octets_of_rows rows)) e)) [
        | inr isnt ↦ rw isnt refl
        | inl carried ↦ (
            let settled : (m : ℕ) → list_any (is_settled_by m e) (extents 0 (pieces ++ more)) ≡ list_any
            (is_settled_by m e) front =
            λ m. ap (list_any (is_settled_by m e)) parts
            ∙ any-front (is_settled_by m e) front later
            (behind m e size (size + length (stream_of more)) later (extents-between size more)
            (omega (arith, leb-true e.to (length (octets_of_rows rows)) carried, is.size, reach))) in
            rw carried
            (among-same (Cut (row_at rows e.from) (row_at rows (e.to - 1)) (spoiled_after rows (row_at rows e.from)))
            (segments rows) (extents 0 (pieces ++ more)) front e
            (row_at rows e.from) (row_at rows (e.to - 1)) settled))
      ]

  behind-waits : (e : Extent) (high : ℕ) → IsBetween size high e → fate_of (pieces ++ more) rows e ≡ Waits
  behind-waits e high is =
      let past : is_carried (length (octets_of_rows rows)) e ≡ false =
      lt-leb e.to (length (octets_of_rows rows)) (omega (arith, is.lower, is.size, reach)) in
      rw past refl

  pub made-same : (i : ℕ) → fate_at (pieces ++ more) rows i ≡ fate_at pieces rows i
  made-same i =
      ap (λ all. fate_if (fate_of (pieces ++ more) rows) (slice_get all i)) parts
      ∙ elim (front-or-behind front later i) [
        | inl here ↦ ap (fate_if (fate_of (pieces ++ more) rows)) here
            ∙ elim (get-between 0 size front i (extents-between 0 pieces)) [
              | inl none ↦ ap (fate_if (fate_of (pieces ++ more) rows)) none
                  ∙ sym (ap (fate_if (fate_of pieces rows)) none)
              | inr some ↦ ap (fate_if (fate_of (pieces ++ more) rows)) some.1 ∙ same-fate some.0 some.2
                  ∙ sym (ap (fate_if (fate_of pieces rows)) some.1)
            ]
        | inr past ↦ ap (fate_if (fate_of (pieces ++ more) rows)) past.1.1
            ∙ elim (get-between size (size + length (stream_of more)) later past.1.0 (extents-between size more)) [
              | inl none ↦ ap (fate_if (fate_of (pieces ++ more) rows)) none
                  ∙ sym (ap (fate_if (fate_of pieces rows)) past.0)
              | inr some ↦ ap (fate_if (fate_of (pieces ++ more) rows)) some.1
                  ∙ behind-waits some.0 (size + length (stream_of more)) some.2
                  ∙ sym (ap (fate_if (fate_of pieces rows)) past.0)
            ]
      ]

-- ---- in a session
pub session-made : (scenario : Scenario) (cells : List (Option Told)) (taken t n i : ℕ) → taken ≤ t → t ≤ n →
    fate_at (stream_before scenario cells n).pieces (rows_of scenario cells taken) i ≡ fate_at
    (stream_before scenario cells t).pieces (rows_of scenario cells taken) i
session-made scenario cells taken t n i low high =
    let begins = pieces-begin scenario cells t n high in
    let carries = rows-carry scenario cells taken t low in
    let reach : length (octets_of_rows (rows_of scenario cells taken)) ≤ length
    (stream_of (stream_before scenario cells t).pieces) =
    (let sum = length-append (octets_of_rows (rows_of scenario cells taken)) carries.rest in omega
    (arith, ap length carries.stream, sum)) in
    ap (λ pieces. fate_at pieces (rows_of scenario cells taken) i) begins.1
    ∙ made-same (stream_before scenario cells t).pieces begins.0 (rows_of scenario cells taken) reach i
