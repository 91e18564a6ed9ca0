-- The state of a row, dark or of use: by the first spoiled row after it, and by the mark of its segment.
use Rattle.std.proofs.Common.{◌≡◌, ℕ, zero, suc, ◌+◌, ◌*◌, ◌<◌, ◌≤◌, nat_lt, true, false, List, [], ◌∷◌, ◌++◌, length}
use Rattle.std.proofs.Common.{map, Option, Some, None, refl, ◌∙◌, ap, arith, IfSome, ◌-◌, Bool, drop, All, slice_get}
use Rattle.std.proofs.Common.{sym, inl, inr, drop-drop, sum_by}
use Rattle.std.specs.List.{range_with_len}
use Rattle.std.proofs.lemmas.Bool.{le-leb, lt-leb, cases_Bool, cases_lt, lt-ltb, le-ltb, leb-true, eqb-true, and_parts}
use Rattle.law_model.specs.Common.{StreamRow, octets_of_rows, Leg, Counts, scenario_by, place_of, Scenario, Told}
use Rattle.law_model.specs.Common.{is_whole_row, rows_of}
use Rattle.law_walk.specs.Common.{session_of, session_rows}
use Rattle.fate_engine.specs.Common.{row_at, spoiled_after, row_segments, mark_of_row, spoiled_from, same_cause}
use Rattle.fate_engine.specs.Common.{row_cause, spoiled_then, spoiled_runs, spoiled_of}
use Rattle.fate_engine.proofs.FrameFateAndPieceLaws.{place-up, row-is, rows-count}
use Rattle.law_loss.proofs.SessionStreamLossLaws.{rows-length}
use Rattle.fate_walks.specs.declared.walk_fates.seen_rows.SeenWalk.{SeenWalk}
use Rattle.fate_walks.specs.walk_fates.MadeWalk.{SeesWalk}
use Rattle.fate_walks.proofs.FatesAndSeenRowsLaws.{mark-of-low, reach}
use Rattle.fate_service.specs.declared.row_states.RowState.TheVariants.{Clear, Hunting, Spoiled}
use Rattle.fate_service.specs.RowStates.{state_by_mark, state_of, states_of, is_dark}
use Rattle.std.specs.Prelude.{◌==◌, ◌&&◌, nat_le, if◌then◌else◌, IsSome}
use Rattle.std.proofs.lemmas.List.Elements.{All-nil, All-cons}
use Rattle.std.proofs.lemmas.List.Sums.{sum_by-cons}
use Rattle.law_model.proofs.ListLaws.{slice_get-append}
use Rattle.law_model.specs.rows.SessionStream.{row_of}
use Rattle.fate_engine.specs.declared.fate_law.Cause.{Cause}
use Rattle.fate_engine.specs.declared.fate_law.RowSegment.{RowSegment}
use Rattle.fate_engine.specs.declared.fate_law.SpoiledRun.{SpoiledRun}
use Rattle.fate_engine.proofs.SpoiledRunAndWholeContainerLaws.{cause-whole}
use Rattle.fate_engine.proofs.RowSegmentLookupLaws.{spoiled-within, spoiled-same, look, looked}
use Rattle.fate_service.specs.declared.outages.Outage.{Outage}
use Rattle.fate_service.specs.service_law.OutageRuns.{dark_row, AreOutages}
use Rattle.fate_service.proofs.OutageAndDarkRowLaws.{spoiled_one}

-- ---- What a row is by where it lies, and the row of a mark.
module _ (rows : List StreamRow) (t : ℕ) where
  pub state-spoiled : spoiled_after rows t ≤ t → Spoiled ≡ state_of rows t
  state-spoiled late = rw (le-leb (spoiled_after rows t) t late) refl

  pub state-first : t < spoiled_after rows t → nat_lt t (spoiled_after rows 0) ≡ true → Clear ≡ state_of rows t
  state-first low first = rw (lt-leb (spoiled_after rows t) t low, first) refl

  pub state-later : t < spoiled_after rows t → nat_lt t (spoiled_after rows 0) ≡ false →
      state_by_mark rows t (mark_of_row (row_segments rows) t) ≡ state_of rows t
  state-later low later = rw (lt-leb (spoiled_after rows t) t low, later) refl

  -- by the row of the mark
  pub mark-clear : (place : ℕ) → row_at rows place ≤ t → Clear ≡ state_by_mark rows t (Some place)
  mark-clear place low = rw (le-leb (row_at rows place) t low) refl

  pub mark-hunting : (place : ℕ) → t < row_at rows place → Hunting ≡ state_by_mark rows t (Some place)
  mark-hunting place high = rw (lt-leb (row_at rows place) t high) refl

  low-if : (mark : Option ℕ) → mark_of_row (row_segments rows) t ≡ mark →
      IfSome mark (λ place. place < length (octets_of_rows rows))
  low-if None is = tt
  low-if (Some place) is = mark-of-low rows t place is

  pub mark-low-if : IfSome (mark_of_row (row_segments rows) t) (λ place. place < length (octets_of_rows rows))
  mark-low-if = low-if (mark_of_row (row_segments rows) t) refl

module _ (leg : Leg) (s : Counts) (seen : SeenWalk) (sees : SeesWalk leg s seen) (place : ℕ)
    (low : place < length (octets_of_rows (session_rows leg s.rows))) where
  place-within : place < place_of (scenario_by leg) (session_of leg) s.rows
  place-within =
      omega (arith, low, rows-length (scenario_by leg) (session_of leg) s.rows s.rows (omega arith))

  pub place-reached : place_of (scenario_by leg) (session_of leg) (16 * length seen.rows.packets.active + 24) ≤ place → ⊥
  place-reached beyond =
      let up = place-up (scenario_by leg) (session_of leg) s.rows (16 * length seen.rows.packets.active + 24)
      (reach leg s seen sees) in
      omega (arith, up, place-within, beyond)

  pub place-row : (row : ℕ) → place_of (scenario_by leg) (session_of leg) row ≤ place →
      place < place_of (scenario_by leg) (session_of leg) (suc row) →
      row ≡ row_at (session_rows leg s.rows) place
  place-row row from below = row-is (scenario_by leg) (session_of leg) s.rows place row place-within from below

-- ---- rows one after another
pub range-push : {X : Type 0} (f : ℕ → X) (a n : ℕ) →
    map f (range_with_len a n) ++ f (a + n) ∷ [] ≡ map f (range_with_len a (n + 1))
range-push f a zero = ap (λ k. f k ∷ []) (let e : a + 0 ≡ a = omega arith in e)
range-push f a (suc n) =
    ap (λ l. f a ∷ l) (ap (λ k. map f (range_with_len (a + 1) n) ++ f k ∷ [])
    (let e : a + suc n ≡ a + 1 + n = omega arith in e) ∙ range-push f (a + 1) n)
    ∙ ap (λ k. map f (range_with_len a k)) (let e : suc (n + 1) ≡ suc n + 1 = omega arith in e)

-- ---- What rows are, by where they lie among those that aren't whole, and by marks.
-- ---- the first row from a row on that isn't whole
drop-nil : {X : Type 0} (n : ℕ) → drop {A = X} n [] ≡ []
drop-nil zero = refl
drop-nil (suc n) = refl

again-from : (t : ℕ) (rows : List StreamRow) →
    spoiled_from (spoiled_from t rows) (drop (spoiled_from t rows - t) rows) ≡ spoiled_from t rows
unfolding spoiled_from
again-from t [] = ap (spoiled_from t) (drop-nil (t - t))
again-from t (row ∷ rows) =
    let up = spoiled-within (suc t) rows in
    let low = up.0 in
    elim (cases_Bool row.whole) [
      | inl whole ↦ (
          let rest = again-from (suc t) rows in
          let dropped : spoiled_from (suc t) rows - t ≡ suc (spoiled_from (suc t) rows - suc t) = omega (arith, low) in
          rw (whole, dropped) rest)
      | inr cut ↦ (let none : t - t ≡ 0 = omega arith in rw (cut, none) refl)
    ]

module _ (rows : List StreamRow) where
  pub after-up : (r : ℕ) → r ≤ spoiled_after rows r
  after-up r = (spoiled-within r (drop r rows)).0

  dropped-more : (r t : ℕ) → r ≤ t → drop (t - r) (drop r rows) ≡ drop t rows
  dropped-more r t low =
      drop-drop (t - r) r rows ∙ ap (λ n. drop n rows) (let e : r + (t - r) ≡ t = omega (arith, low) in e)

  pub after-again : (r : ℕ) → spoiled_after rows (spoiled_after rows r) ≡ spoiled_after rows r
  after-again r =
      sym (ap (spoiled_from (spoiled_after rows r)) (dropped-more r (spoiled_after rows r) (after-up r)))
      ∙ again-from r (drop r rows)

  pub after-same : (r t : ℕ) → r ≤ t → t < spoiled_after rows r → spoiled_after rows t ≡ spoiled_after rows r
  after-same r t low high =
      sym (spoiled-same r (drop r rows) t low high ∙ ap (spoiled_from t) (dropped-more r t low))

  -- ---- the state of a row
  pub spoiled-is : (t : ℕ) → spoiled_after rows t ≤ t → state_of rows t ≡ Spoiled
  spoiled-is t late = sym (state-spoiled rows t late)

  pub first-clear : (t : ℕ) → t < spoiled_after rows t → t < spoiled_after rows 0 → dark_row rows t ≡ false
  first-clear t whole first = ap is_dark (sym (state-first rows t whole (lt-ltb t (spoiled_after rows 0) first)))

  pub mark-use : (t place : ℕ) → t < spoiled_after rows t → spoiled_after rows 0 ≤ t →
      mark_of_row (row_segments rows) t ≡ Some place → row_at rows place ≤ t → dark_row rows t ≡ false
  mark-use t place whole later mark low =
      ap is_dark
      (sym (state-later rows t whole (le-ltb t (spoiled_after rows 0) later)) ∙ ap (state_by_mark rows t) mark
      ∙ sym (mark-clear rows t place low))

  -- a row that isn't whole is the first one from itself on
  pub spoiled-dark : (r : ℕ) → dark_row rows (spoiled_after rows r) ≡ true
  spoiled-dark r = ap is_dark (spoiled-is (spoiled_after rows r) (let e = after-again r in omega (arith, e)))

  -- one of use is whole, and comes before all others, or has a mark in its row or before
  pub record IsOfUse (t : ℕ) : Type 0 where
    pub place : ℕ
    pub later : spoiled_after rows 0 ≤ t
    pub mark : mark_of_row (row_segments rows) t ≡ Some place
    pub low : row_at rows place ≤ t

  pub clear-whole : (t : ℕ) → dark_row rows t ≡ false → t < spoiled_after rows t
  clear-whole t clear =
      elim (cases_lt t (spoiled_after rows t)) [
        | inl whole ↦ whole
        | inr late ↦ absurd (let e : true ≡ false = sym (ap is_dark (spoiled-is t late)) ∙ clear in cc)
      ]

  pub clear-use : (t : ℕ) → dark_row rows t ≡ false → spoiled_after rows 0 ≤ t → IsOfUse t
  clear-use t clear later =
      by (mark_of_row (row_segments rows) t) refl
    where
      state : dark_row rows t ≡ is_dark (state_by_mark rows t (mark_of_row (row_segments rows) t))
      state = ap is_dark (sym (state-later rows t (clear-whole t clear) (le-ltb t (spoiled_after rows 0) later)))

      by : (mark : Option ℕ) → mark_of_row (row_segments rows) t ≡ mark → IsOfUse t
      by None is =
          absurd (let e : true ≡ false = sym (state ∙ ap (λ m. is_dark (state_by_mark rows t m)) is) ∙ clear in cc)
      by (Some place) is =
          elim (cases_lt t (row_at rows place)) [
            | inl hunting ↦ absurd (
                let e : true ≡ false =
                sym (state ∙ ap (λ m. is_dark (state_by_mark rows t m)) is
                ∙ ap is_dark (sym (mark-hunting rows t place hunting))) ∙ clear in
                cc)
            | inr low ↦ record { place = place; later = later; mark = is; low = low }
          ]

  -- rows with no other between that isn't whole have one mark
  mark-same : (list : List RowSegment) (r t : ℕ) → r ≤ t → t < (look list r).spoiled →
      mark_of_row list t ≡ mark_of_row list r
  unfolding look mark_of_row
  mark-same [] r t low high = refl
  mark-same (segment ∷ list) r t low high =
      elim (cases_lt r segment.end) [
        | inl here ↦ elim (cases_lt r segment.first) [
          | inl early ↦ absurd (
              let e : t < r = rw (lt-ltb r segment.end here, lt-leb segment.first r early) at high in
              omega (arith, e, low))
          | inr covers ↦ (
              let e : t < segment.end = rw (lt-ltb r segment.end here, le-leb segment.first r covers) at high in
              rw (lt-ltb r segment.end here, lt-ltb t segment.end e) refl)
        ]
        | inr later ↦
            rw (le-ltb r segment.end later, le-ltb t segment.end (omega (arith, later, low)))
            (mark-same list r t low (rw (le-ltb r segment.end later) at high))
      ]

  pub marks-same : (r t : ℕ) → r < length rows → r ≤ t → t < spoiled_after rows r →
      mark_of_row (row_segments rows) t ≡ mark_of_row (row_segments rows) r
  marks-same r t within low high =
      mark-same (row_segments rows) r t low (omega (arith, looked rows r within, high))

  -- ---- where an outage begins
  -- a row that is whole and not of use isn't behind one that is
  whole-behind : (f : ℕ) → suc f < length rows → dark_row rows f ≡ false → suc f < spoiled_after rows (suc f) →
      dark_row rows (suc f) ≡ false
  whole-behind f within clear whole =
      let next : suc f < spoiled_after rows f =
      elim (cases_lt (suc f) (spoiled_after rows f)) [
        | inl less ↦ less
        | inr more ↦ absurd (
            let same : spoiled_after rows f ≡ suc f = omega (arith, clear-whole f clear, more) in
            omega (arith, ap (spoiled_after rows) same, after-again f, whole, same))
      ] in
      elim (cases_lt f (spoiled_after rows 0)) [
        | inl first ↦ (
            first-clear (suc f) whole (omega (arith, after-same 0 f (omega arith) first, next)))
        | inr later ↦ (
            let own_use = clear-use f clear later in
            let low = own_use.low in
            mark-use (suc f) own_use.place whole (omega (arith, later))
            (marks-same f (suc f) (omega (arith, within)) (omega arith) next ∙ own_use.mark) (omega (arith, low)))
      ]

  first-whole : 0 < spoiled_after rows 0 → dark_row rows 0 ≡ false
  first-whole some = first-clear 0 some some

  abbrev pub BeginsSpoiled : Outage → Type 0
  BeginsSpoiled outage = spoiled_after rows outage.first ≤ outage.first

  pub begins-spoiled : (from : ℕ) (outages : List Outage) (end : ℕ) → end ≤ length rows →
      (from < end → 0 < from → dark_row rows from ≡ false) → AreOutages (dark_row rows) from outages end →
      All BeginsSpoiled outages
  unfolding AreOutages
  begins-spoiled from [] end within start are = All-nil BeginsSpoiled
  begins-spoiled from (outage ∷ outages) end within start are =
      let some = are.1 in
      let ends = are.2 in
      let is : dark_row rows outage.first ≡ true = are.4 outage.first (omega arith) some in
      All-cons BeginsSpoiled outage outages
      (elim (cases_lt outage.first (spoiled_after rows outage.first)) [
        | inr spoiled ↦ spoiled
        | inl whole ↦ absurd (wrong outage.first is whole (omega (arith, some, ends, within))
            (λ f same. elim (cases_lt f from) [
              | inr behind ↦ are.3 f behind (omega (arith, same))
              | inl before ↦ absurd (
                  let here : from ≡ outage.first = omega (arith, before, same, are.0) in
                  let clear = start (omega (arith, here, some, ends)) (omega (arith, here, same)) in
                  let e : true ≡ false = sym is ∙ ap (dark_row rows) (sym here) ∙ clear in
                  cc)
            ]))
      ])
      (begins-spoiled outage.end outages end within (λ less positive. are.5 less) are.6)
    where
      wrong : (first : ℕ) → dark_row rows first ≡ true → first < spoiled_after rows first → first < length rows →
          ((f : ℕ) → first ≡ suc f → dark_row rows f ≡ false) → ⊥
      wrong zero is whole low before = (let e : true ≡ false = sym is ∙ first-whole whole in cc)
      wrong (suc f) is whole low before =
          (let e : true ≡ false = sym is ∙ whole-behind f low (before f refl) whole in cc)

-- ---- rows that aren't whole, by their causes
module _ (scenario : Scenario) (cells : List (Option Told)) where
  row-there : (n t : ℕ) → t < n → slice_get (rows_of scenario cells n) t ≡ Some (row_of scenario cells t)
  unfolding rows_of
  row-there zero t low = absurd (omega (arith, low))
  row-there (suc n) t low =
      let count = rows-count scenario cells n in
      elim (cases_lt t n) [
        | inl before ↦ slice_get-append (rows_of scenario cells n) (row_of scenario cells n ∷ []) t (omega (arith, before, count))
            ∙ row-there n t before
        | inr last ↦ (
            let same : t ≡ n = omega (arith, low, last) in
            get-last (rows_of scenario cells n) (row_of scenario cells n) t (omega (arith, same, count))
            ∙ ap (λ k. Some (row_of scenario cells k)) (sym same))
      ]
    where
      get-last : {X : Type 0} (xs : List X) (y : X) (t : ℕ) → t ≡ length xs → slice_get (xs ++ y ∷ []) t ≡ Some y
      get-last [] y zero is = refl
      get-last [] y (suc t) is = absurd (omega (arith, is))
      get-last (x ∷ xs) y zero is = absurd (omega (arith, is))
      get-last (x ∷ xs) y (suc t) is = get-last xs y t (omega (arith, is))

  at-row : (rows : List StreamRow) (t : ℕ) (row : StreamRow) → slice_get rows t ≡ Some row →
      (rest : List StreamRow) × (drop t rows ≡ row ∷ rest)
  at-row [] t row there = absurd cc
  at-row (x ∷ rows) zero row there = let same : x ≡ row = cc in (rows, ap (λ y. y ∷ rows) same)
  at-row (x ∷ rows) (suc t) row there = at-row rows t row there

  -- a row that is whole isn't the first one from itself on that isn't
  by-first : (t : ℕ) (row : StreamRow) (rest : List StreamRow) → (whole : Bool) → row.whole ≡ whole →
      nat_le (spoiled_from t (row ∷ rest)) t ≡ (if whole then false else true)
  unfolding spoiled_from
  by-first t row rest true is =
      rw is (lt-leb (spoiled_from (suc t) rest) t (let up = (spoiled-within (suc t) rest).0 in omega (arith, up)))
  by-first t row rest false is = rw is (le-leb t t (omega arith))

  pub spoiled-row : (n t : ℕ) → t < n →
      nat_le (spoiled_after (rows_of scenario cells n) t) t ≡ (if is_whole_row scenario cells t then false else true)
  spoiled-row n t low =
      let there = at-row (rows_of scenario cells n) t (row_of scenario cells t) (row-there n t low) in
      ap (λ l. nat_le (spoiled_from t l) t) there.1
      ∙ by-first t (row_of scenario cells t) there.0 (is_whole_row scenario cells t) refl

  cause-there : (t : ℕ) → is_whole_row scenario cells t ≡ false → IsSome (row_cause scenario cells t)
  cause-there t lost = by (row_cause scenario cells t) refl
    where
      by : (cause : Option Cause) → row_cause scenario cells t ≡ cause → IsSome cause
      by None is = absurd (let e : true ≡ false = sym ((cause-whole scenario cells t).0 is) ∙ lost in cc)
      by (Some cause) is = refl

  -- a row that begins an outage has a cause
  pub begins-caused : (n t : ℕ) → t < n → spoiled_after (rows_of scenario cells n) t ≤ t →
      IsSome (row_cause scenario cells t)
  begins-caused n t low spoiled =
      cause-there t (elim (cases_Bool (is_whole_row scenario cells t)) [
        | inr lost ↦ lost
        | inl whole ↦ absurd (
            let e : true ≡ false =
            sym (le-leb (spoiled_after (rows_of scenario cells n) t) t spoiled) ∙ spoiled-row n t low
            ∙ ap (λ b. if b then false else true) whole in
            cc)
      ])

  -- ---- as many of them as runs have
  abbrev caused_one : Option Cause → ℕ
  caused_one None = 0
  caused_one (Some cause) = 1

  one-same : (n t : ℕ) → t < n → spoiled_one (state_of (rows_of scenario cells n) t) ≡ caused_one (row_cause scenario cells t)
  one-same n t low =
      let rows : List StreamRow = rows_of scenario cells n in
      elim (cases_Bool (is_whole_row scenario cells t)) [
        | inr lost ↦ (
            let spoiled : nat_le (spoiled_after rows t) t ≡ true =
            spoiled-row n t low ∙ ap (λ b. if b then false else true) lost in
            ap spoiled_one (spoiled-is rows t (leb-true (spoiled_after rows t) t spoiled))
            ∙ sym (some-one (row_cause scenario cells t) (cause-there t lost)))
        | inl whole ↦ (
            let spoiled : nat_le (spoiled_after rows t) t ≡ false =
            spoiled-row n t low ∙ ap (λ b. if b then false else true) whole in
            not-spoiled rows t spoiled ∙ sym (ap caused_one ((cause-whole scenario cells t).1 whole)))
      ]
    where
      some-one : (cause : Option Cause) → IsSome cause → caused_one cause ≡ 1
      some-one None is = absurd cc
      some-one (Some cause) is = refl

      mark-one : (rows : List StreamRow) (t : ℕ) (mark : Option ℕ) → spoiled_one (state_by_mark rows t mark) ≡ 0
      mark-one rows t None = refl
      mark-one rows t (Some place) =
          elim (cases_Bool (nat_le (row_at rows place) t)) [
            | inl low ↦ rw low refl
            | inr high ↦ rw high refl
          ]

      not-spoiled : (rows : List StreamRow) (t : ℕ) → nat_le (spoiled_after rows t) t ≡ false →
          spoiled_one (state_of rows t) ≡ 0
      not-spoiled rows t whole =
          elim (cases_Bool (nat_lt t (spoiled_after rows 0))) [
            | inl first ↦ rw (whole, first) refl
            | inr later ↦ rw (whole, later) (mark-one rows t (mark_of_row (row_segments rows) t))
          ]

  count-same : (n count from : ℕ) → from + count ≤ n →
      sum_by spoiled_one (map (state_of (rows_of scenario cells n)) (range_with_len from count))
      ≡ sum_by caused_one (map (row_cause scenario cells) (range_with_len from count))
  count-same n zero from fits = refl
  count-same n (suc count) from fits =
      let one = sum_by-cons spoiled_one (state_of (rows_of scenario cells n) from)
      (map (state_of (rows_of scenario cells n)) (range_with_len (from + 1) count)) in
      let two = sum_by-cons caused_one (row_cause scenario cells from)
      (map (row_cause scenario cells) (range_with_len (from + 1) count)) in
      let rest = count-same n count (from + 1) (omega (arith, fits)) in
      omega (arith, one-same n from (omega (arith, fits)), rest, one, two)

  abbrev rows_of_run : SpoiledRun → ℕ
  rows_of_run run = run.end - run.first

  -- runs that begin in a row or behind it
  abbrev Begins : ℕ → SpoiledRun → Type 0
  Begins from run = (from ≤ run.first) × (run.first ≤ run.end)

  then-long : (t : ℕ) (cause : Option Cause) (runs : List SpoiledRun) → All (Begins (suc t)) runs →
      (sum_by rows_of_run (spoiled_then t cause runs) ≡ caused_one cause + sum_by rows_of_run runs)
      × All (Begins t) (spoiled_then t cause runs)
  then-long t None runs each = (omega arith, weaker runs each)
    where
      weaker : (runs : List SpoiledRun) → All (Begins (suc t)) runs → All (Begins t) runs
      weaker runs each = λ k d low. let own = each k d low in (omega (arith, own.0), own.1)
  then-long t (Some cause) [] each = (
    omega arith,
    All-cons (Begins t) (record { first = t; end = suc t; cause = cause }) [] (omega arith, omega arith)
        (All-nil (Begins t)),
  )
  then-long t (Some cause) (run ∷ runs) each =
      let own = each 0 run (omega arith) in
      let begins = own.0 in
      let ends = own.1 in
      let rest : All (Begins t) runs =
      λ k d low. let later = each (suc k) d (omega (arith, low)) in (omega (arith, later.0), later.1) in
      let old = sum_by-cons rows_of_run run runs in
      elim (cases_Bool (run.first == suc t && same_cause cause run.cause)) [
        | inl meets ↦ (
            let same : run.first ≡ suc t = eqb-true run.first (suc t)
            (and_parts (run.first == suc t) (same_cause cause run.cause) meets).0 in
            let new : SpoiledRun = record { first = t; end = run.end; cause = run.cause } in
            rw meets (
              omega (arith, old, sum_by-cons rows_of_run new runs, same, ends),
              All-cons (Begins t) new runs (omega arith, omega (arith, begins, ends)) rest,
            ))
        | inr apart ↦ (
            let new : SpoiledRun = record { first = t; end = suc t; cause = cause } in
            rw apart (
              omega (arith, old, sum_by-cons rows_of_run new (run ∷ runs)),
              All-cons (Begins t) new (run ∷ runs) (omega arith, omega arith)
                  (All-cons (Begins t) run runs (omega (arith, begins), ends) rest),
            ))
      ]

  runs-long : (t : ℕ) (causes : List (Option Cause)) →
      (sum_by rows_of_run (spoiled_runs t causes) ≡ sum_by caused_one causes) × All (Begins t) (spoiled_runs t causes)
  unfolding spoiled_runs
  runs-long t [] = (refl, All-nil (Begins t))
  runs-long t (cause ∷ causes) =
      let rest = runs-long (suc t) causes in
      let own = then-long t cause (spoiled_runs (suc t) causes) rest.1 in
      (omega (arith, own.0, rest.0, sum_by-cons caused_one cause causes), own.1)

  pub spoiled-count : (n : ℕ) →
      sum_by spoiled_one (states_of (rows_of scenario cells n))
      ≡ sum_by (λ (run : SpoiledRun). run.end - run.first) (spoiled_of scenario cells n)
  spoiled-count n =
      ap (λ k. sum_by spoiled_one (map (state_of (rows_of scenario cells n)) (range_with_len 0 k)))
      (rows-count scenario cells n)
      ∙ count-same n n 0 (omega arith)
      ∙ sym (runs-long 0 (map (row_cause scenario cells) (range_with_len 0 n))).0
