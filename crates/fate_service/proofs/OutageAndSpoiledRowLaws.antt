-- How many rows of each outage aren't whole: one row more, and all rows.
use Rattle.std.proofs.Common.{◌≡◌, ℕ, zero, suc, ◌+◌, ◌-◌, ◌≤◌, ◌==◌, All, Contains, List, [], ◌∷◌, length, filter}
use Rattle.std.proofs.Common.{refl, sym, ap, arith, inl, inr, map}
use Rattle.std.proofs.lemmas.Bool.{cases_Bool, eqb-true}
use Rattle.std.proofs.lemmas.List.Elements.{All-nil, All-cons, All-head, All-tail, All-contains}
use Rattle.std.specs.List.{range_with_len}
use Rattle.law_model.specs.Common.{StreamRow}
use Rattle.fate_service.specs.declared.outages.Outage.{Outage}
use Rattle.fate_service.specs.declared.row_states.RowState.{RowState}
use Rattle.fate_service.specs.declared.row_states.RowState.TheVariants.{Clear, Hunting, Spoiled}
use Rattle.fate_service.specs.RowStates.{state_of, is_spoiled}
use Rattle.fate_service.specs.Outages.{with_dark, with_state, outages_on, outages_of}
use Rattle.fate_service.specs.service_law.OutageRuns.{row_outages, spoiled_row}
use Rattle.fate_service.proofs.OutageAndDarkRowLaws.{spoiled_one}

module _ (state : ℕ → RowState) where
  abbrev spoiled_in : ℕ → ℕ → ℕ
  spoiled_in first count = length (filter (λ t. is_spoiled (state t)) (range_with_len first count))

  count-first : (first count : ℕ) → spoiled_in first (suc count)
      ≡ spoiled_one (state first) + spoiled_in (first + 1) count
  count-first first count = by (state first) refl
    where
      by : (own : RowState) → state first ≡ own →
          spoiled_in first (suc count) ≡ spoiled_one (state first) + spoiled_in (first + 1) count
      by Clear is = rw is (omega arith)
      by Hunting is = rw is (omega arith)
      by Spoiled is = rw is (omega arith)

  count-last : (first count : ℕ) → spoiled_in first (suc count)
      ≡ spoiled_in first count + spoiled_one (state (first + count))
  count-last first zero =
      let same = ap (λ t. spoiled_one (state t)) (let e : first + zero ≡ first = omega arith in e) in
      omega (arith, count-first first zero, same)
  count-last first (suc count) =
      let same = ap (λ t. spoiled_one (state t)) (let e : first + 1 + count ≡ first + suc count = omega arith in e) in
      omega (arith, count-first first (suc count), count-first first count, count-last (first + 1) count, same)

  abbrev HasSpoiled : Outage → Type 0
  HasSpoiled outage =
      (outage.first ≤ outage.end) × (outage.spoiled ≡ spoiled_in outage.first (outage.end - outage.first))

  begun-spoiled : (row spoiled : ℕ) → spoiled ≡ spoiled_one (state row) →
      HasSpoiled (record { first = row; end = row + 1; spoiled = spoiled })
  begun-spoiled row spoiled is =
      let size = ap (spoiled_in row) (let e : row + 1 - row ≡ suc zero = omega arith in e) in
      (omega arith, omega (arith, is, size, count-first row zero))

  grown-spoiled : (outage : Outage) (row spoiled : ℕ) → outage.end ≡ row → spoiled ≡ spoiled_one (state row) →
      HasSpoiled outage →
      HasSpoiled (record { first = outage.first; end = row + 1; spoiled = outage.spoiled + spoiled })
  grown-spoiled outage row spoiled meets is has =
      let low = has.0 in
      let size = ap (spoiled_in outage.first)
      (let e : row + 1 - outage.first ≡ suc (outage.end - outage.first) = omega (arith, low, meets) in e) in
      let last = ap (λ t. spoiled_one (state t))
      (let e : outage.first + (outage.end - outage.first) ≡ row = omega (arith, low, meets) in e) in (
        omega (arith, low, meets),
        omega (arith, has.1, is, size, count-last outage.first (outage.end - outage.first), last),
      )

  dark-spoiled : (row spoiled : ℕ) (items : List Outage) → spoiled ≡ spoiled_one (state row) → All HasSpoiled items →
      All HasSpoiled (with_dark row spoiled items)
  unfolding with_dark
  dark-spoiled row spoiled [] is has =
      All-cons HasSpoiled (record { first = row; end = row + 1; spoiled = spoiled }) [] (begun-spoiled row spoiled is)
      (All-nil HasSpoiled)
  dark-spoiled row spoiled (own ∷ []) is has =
      let head = All-head HasSpoiled own [] has in
      elim (cases_Bool (own.end == row)) [
        | inl meets ↦ rw meets
            (All-cons HasSpoiled (record { first = own.first; end = row + 1; spoiled = own.spoiled + spoiled }) []
            (grown-spoiled own row spoiled (eqb-true own.end row meets) is head) (All-nil HasSpoiled))
        | inr apart ↦ rw apart
            (All-cons HasSpoiled own (record { first = row; end = row + 1; spoiled = spoiled } ∷ []) head
            (All-cons HasSpoiled (record { first = row; end = row + 1; spoiled = spoiled }) []
            (begun-spoiled row spoiled is) (All-nil HasSpoiled)))
      ]
  dark-spoiled row spoiled (own ∷ next ∷ items) is has =
      All-cons HasSpoiled own (with_dark row spoiled (next ∷ items)) (All-head HasSpoiled own (next ∷ items) has)
      (dark-spoiled row spoiled (next ∷ items) is (All-tail HasSpoiled own (next ∷ items) has))

  state-spoiled : (own : RowState) (row : ℕ) (items : List Outage) → state row ≡ own → All HasSpoiled items →
      All HasSpoiled (with_state row own items)
  state-spoiled Clear row items is has = has
  state-spoiled Hunting row items is has = dark-spoiled row 0 items (sym (ap spoiled_one is)) has
  state-spoiled Spoiled row items is has = dark-spoiled row 1 items (sym (ap spoiled_one is)) has

  each-spoiled : (n row : ℕ) (items : List Outage) → All HasSpoiled items →
      All HasSpoiled (outages_on items row (map state (range_with_len row n)))
  unfolding outages_on
  each-spoiled zero row items has = has
  each-spoiled (suc n) row items has =
      each-spoiled n (row + 1) (with_state row (state row) items) (state-spoiled (state row) row items refl has)

  pub outages-told : (n : ℕ) (outage : Outage) → Contains (outages_of (map state (range_with_len 0 n))) outage →
      outage.spoiled
      ≡ length (filter (λ t. is_spoiled (state t)) (range_with_len outage.first (outage.end - outage.first)))
  outages-told n outage there =
      (All-contains HasSpoiled (outages_of (map state (range_with_len 0 n))) outage
      (each-spoiled n 0 [] (All-nil HasSpoiled)) there).1

pub spoiled-told : (rows : List StreamRow) (outage : Outage) → Contains (row_outages rows) outage →
    outage.spoiled ≡ length (filter (spoiled_row rows) (range_with_len outage.first (outage.end - outage.first)))
spoiled-told rows = outages-told (state_of rows) (length rows)
