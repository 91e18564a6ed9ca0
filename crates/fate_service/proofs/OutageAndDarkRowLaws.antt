-- Outages as the longest runs of dark rows: one row more, the sum of their lengths, and the rows that each has.
use Rattle.std.proofs.Common.{◌≡◌, ℕ, zero, suc, ◌+◌, ◌<◌, ◌≤◌, ◌==◌, true, false, All, List, [], ◌∷◌, ◌++◌, length}
use Rattle.std.proofs.Common.{slice_index_or, slice_set, refl, sym, ◌∙◌, ap, arith, inl, inr, ◌-◌, Bool, map, drop}
use Rattle.std.proofs.Common.{Some, slice_get, subst, sum_by}
use Rattle.std.proofs.lemmas.Bool.{cases_Bool, eqb-true, cases_lt, eqb-false}
use Rattle.std.proofs.lemmas.List.Elements.{All-nil, All-cons, All-head, All-tail}
use Rattle.std.proofs.lemmas.List.FromFn.{length-map-range_with_len}
use Rattle.law_model.specs.Common.{Leg, scenario_by}
use Rattle.law_walk.specs.Common.{session_of, session_rows}
use Rattle.fate_engine.proofs.FrameFateAndPieceLaws.{rows-count}
use Rattle.fate_service.specs.declared.outages.Outage.{Outage}
use Rattle.fate_service.specs.declared.row_states.RowState.{RowState}
use Rattle.fate_service.specs.declared.row_states.RowState.TheVariants.{Clear, Hunting, Spoiled}
use Rattle.fate_service.specs.RowStates.{state_of, states_of, is_dark}
use Rattle.fate_service.specs.Outages.{grown, with_dark, with_state, outages_on, outages_of, HasFewSpoiled, next_first}
use Rattle.std.specs.List.{range_with_len}
use Rattle.std.proofs.lemmas.List.Sums.{sum_by-cons}
use Rattle.fate_service.specs.declared.landed_frames.CarriedFrame.{CarriedFrame}
use Rattle.fate_service.specs.service_law.LinesAsNumbers.{OutageLine, outage_line, outage_lines}
use Rattle.fate_service.specs.service_law.OutageRuns.{AreOutages}
use Rattle.fate_service.proofs.StretchSumAndQueuePeakLaws.{dark_one}

-- ---- A row of no use behind outages before it: it goes on with the last one, or begins one.
-- ---- the last outage
-- the row goes on with it
pub dark-meets : (items : List Outage) (row spoiled i : ℕ) (outage other new : Outage) → i + 1 ≡ length items →
    outage ≡ slice_index_or items i outage → other ≡ slice_index_or items i other → (outage.end == row) ≡ true →
    new ≡ grown other spoiled →
    slice_set items i new ≡ with_dark row spoiled items
unfolding with_dark
dark-meets [] row spoiled i outage other new count there again meets is = absurd (omega arith)
dark-meets (own ∷ []) row spoiled zero outage other new count there again meets is =
    let same : (own.end == row) ≡ true = ap (λ (o : Outage). o.end == row) (sym there) ∙ meets in
    let e : own.end ≡ row = eqb-true own.end row same in
    rw same (ap (λ o. o ∷ []) (is ∙ ap (λ o. grown o spoiled) again
    ∙ ap (λ n. record { first = own.first; end = n + 1; spoiled = own.spoiled + spoiled }) e))
dark-meets (own ∷ []) row spoiled (suc i) outage other new count there again meets is = absurd (omega arith)
dark-meets (own ∷ next ∷ items) row spoiled zero outage other new count there again meets is = absurd (omega arith)
dark-meets (own ∷ next ∷ items) row spoiled (suc i) outage other new count there again meets is =
    ap (λ l. own ∷ l) (dark-meets (next ∷ items) row spoiled i outage other new (omega arith) there again meets is)

-- it doesn't
pub dark-apart : (items : List Outage) (row spoiled : ℕ) →
    ((i : ℕ) → i + 1 ≡ length items → (outage : Outage) × (outage ≡ slice_index_or items i outage) ×
    ((outage.end == row) ≡ false)) →
    items ++ record { first = row; end = row + 1; spoiled = spoiled } ∷ [] ≡ with_dark row spoiled items
unfolding with_dark
dark-apart [] row spoiled apart = refl
dark-apart (own ∷ []) row spoiled apart =
    let last = apart zero (omega arith) in
    let isnt : (own.end == row) ≡ false = ap (λ (o : Outage). o.end == row) (sym last.1) ∙ last.2 in
    rw isnt refl
dark-apart (own ∷ next ∷ items) row spoiled apart =
    ap (λ l. own ∷ l) (dark-apart (next ∷ items) row spoiled (λ i count. apart (suc i) (omega (arith, count))))

-- ---- what is true of each outage
pub dark-few : (row spoiled : ℕ) (items : List Outage) → spoiled ≤ 1 → All HasFewSpoiled items →
    All HasFewSpoiled (with_dark row spoiled items)
unfolding with_dark
dark-few row spoiled [] one few =
    All-cons HasFewSpoiled (record { first = row; end = row + 1; spoiled = spoiled }) [] (omega (arith, one))
    (All-nil HasFewSpoiled)
dark-few row spoiled (own ∷ []) one few =
    let head : own.spoiled ≤ own.end = All-head HasFewSpoiled own [] few in
    elim (cases_Bool (own.end == row)) [
      | inl meets ↦ rw meets
          (All-cons HasFewSpoiled (record { first = own.first; end = row + 1; spoiled = own.spoiled + spoiled }) []
          (let e = eqb-true own.end row meets in omega (arith, head, one, e)) (All-nil HasFewSpoiled))
      | inr apart ↦ rw apart
          (All-cons HasFewSpoiled own (record { first = row; end = row + 1; spoiled = spoiled } ∷ []) head
          (All-cons HasFewSpoiled (record { first = row; end = row + 1; spoiled = spoiled }) [] (omega (arith, one))
          (All-nil HasFewSpoiled)))
    ]
dark-few row spoiled (own ∷ next ∷ items) one few =
    All-cons HasFewSpoiled own (with_dark row spoiled (next ∷ items)) (All-head HasFewSpoiled own (next ∷ items) few)
    (dark-few row spoiled (next ∷ items) one (All-tail HasFewSpoiled own (next ∷ items) few))

-- its first row is one of so many
abbrev pub Begins : ℕ → Outage → Type 0
Begins n outage = outage.first < n

dark-begins : (n row spoiled : ℕ) (items : List Outage) → row < n → All (Begins n) items →
    All (Begins n) (with_dark row spoiled items)
unfolding with_dark
dark-begins n row spoiled [] low begins =
    All-cons (Begins n) (record { first = row; end = row + 1; spoiled = spoiled }) [] low (All-nil (Begins n))
dark-begins n row spoiled (own ∷ []) low begins =
    let head : own.first < n = All-head (Begins n) own [] begins in
    elim (cases_Bool (own.end == row)) [
      | inl meets ↦ rw meets
          (All-cons (Begins n) (record { first = own.first; end = row + 1; spoiled = own.spoiled + spoiled }) [] head
          (All-nil (Begins n)))
      | inr apart ↦ rw apart
          (All-cons (Begins n) own (record { first = row; end = row + 1; spoiled = spoiled } ∷ []) head
          (All-cons (Begins n) (record { first = row; end = row + 1; spoiled = spoiled }) [] low (All-nil (Begins n))))
    ]
dark-begins n row spoiled (own ∷ next ∷ items) low begins =
    All-cons (Begins n) own (with_dark row spoiled (next ∷ items)) (All-head (Begins n) own (next ∷ items) begins)
    (dark-begins n row spoiled (next ∷ items) low (All-tail (Begins n) own (next ∷ items) begins))

state-begins : (n row : ℕ) (state : RowState) (items : List Outage) → row < n → All (Begins n) items →
    All (Begins n) (with_state row state items)
state-begins n row Clear items low begins = begins
state-begins n row Hunting items low begins = dark-begins n row 0 items low begins
state-begins n row Spoiled items low begins = dark-begins n row 1 items low begins

outages-begin : (n : ℕ) (items : List Outage) (row : ℕ) (states : List RowState) → row + length states ≤ n →
    All (Begins n) items → All (Begins n) (outages_on items row states)
unfolding outages_on
outages-begin n items row [] low begins = begins
outages-begin n items row (state ∷ states) low begins =
    outages-begin n (with_state row state items) (row + 1) states (omega (arith, low))
    (state-begins n row state items (omega (arith, low)) begins)

pub states-count : (leg : Leg) (rows : ℕ) → length (states_of (session_rows leg rows)) ≡ rows
states-count leg rows =
    length-map-range_with_len (state_of (session_rows leg rows)) 0 (length (session_rows leg rows))
    ∙ rows-count (scenario_by leg) (session_of leg) rows

pub survey-begins : (leg : Leg) (rows : ℕ) → All (Begins rows) (outages_of (states_of (session_rows leg rows)))
survey-begins leg rows =
    outages-begin rows [] 0 (states_of (session_rows leg rows))
    (let count = states-count leg rows in omega (arith, count)) (All-nil (Begins rows))

-- ---- Outages are the longest runs of dark rows; what they add up to.
-- ---- one more row
module _ (dark : ℕ → Bool) where
  pub clear-more : (from : ℕ) (outages : List Outage) (row : ℕ) → dark row ≡ false → AreOutages dark from outages row →
      AreOutages dark from outages (row + 1)
  unfolding AreOutages
  clear-more from [] row clear are =
      λ t low high. elim (cases_lt t row) [
        | inl before ↦ are t low before
        | inr behind ↦ ap dark (let e : t ≡ row = omega (arith, behind, high) in e) ∙ clear
      ]
  clear-more from (outage ∷ outages) row clear are =
      let ends = are.2 in (
        are.0,
        are.1,
        omega (arith, ends),
        are.3,
        are.4,
        (λ less. elim (cases_lt outage.end row) [
          | inl before ↦ are.5 before
          | inr behind ↦ ap dark (let e : outage.end ≡ row = omega (arith, behind, ends) in e) ∙ clear
        ]),
        clear-more outage.end outages row clear are.6,
      )

  begun-dark : (from row spoiled : ℕ) → dark row ≡ true → from ≤ row → ((t : ℕ) → from ≤ t → t < row → dark t ≡ false) →
      AreOutages dark from (record { first = row; end = row + 1; spoiled = spoiled } ∷ []) (row + 1)
  unfolding AreOutages
  begun-dark from row spoiled is low before = (
    low,
    omega arith,
    omega arith,
    before,
    (λ t least less. ap dark (let e : t ≡ row = omega (arith, least, less) in e) ∙ is),
    (λ less. absurd (omega (arith, less))),
    (λ t least less. absurd (omega (arith, least, less))),
  )

  pub dark-more : (from : ℕ) (outages : List Outage) (row spoiled : ℕ) → dark row ≡ true → from ≤ row →
      AreOutages dark from outages row → AreOutages dark from (with_dark row spoiled outages) (row + 1)
  unfolding AreOutages with_dark
  dark-more from [] row spoiled is low are = begun-dark from row spoiled is low are
  dark-more from (outage ∷ []) row spoiled is low are =
      let ends = are.2 in
      elim (cases_Bool (outage.end == row)) [
        | inl meets ↦ (
            let same : outage.end ≡ row = eqb-true outage.end row meets in
            rw meets (
              are.0,
              omega (arith, are.1, same),
              omega arith,
              are.3,
              (λ t least less. elim (cases_lt t outage.end) [
                | inl before ↦ are.4 t least before
                | inr behind ↦ ap dark (let e : t ≡ row = omega (arith, behind, less, same) in e) ∙ is
              ]),
              (λ less. absurd (omega (arith, less))),
              (λ t least less. absurd (omega (arith, least, less))),
            ))
        | inr apart ↦ (
            let other = eqb-false outage.end row apart in
            let before : outage.end < row =
            elim (cases_lt outage.end row) [
              | inl less ↦ less
              | inr more ↦ absurd (other (omega (arith, more, ends)))
            ] in
            rw apart (
              are.0,
              are.1,
              omega (arith, ends),
              are.3,
              are.4,
              (λ less. are.5 before),
              begun-dark outage.end row spoiled is ends are.6,
            ))
      ]
  dark-more from (outage ∷ next ∷ outages) row spoiled is low are =
      let ends = are.2 in
      let later = are.6 in
      let last = later.2 in (
        are.0,
        are.1,
        omega (arith, ends),
        are.3,
        are.4,
        (λ less. are.5 (omega (arith, later.0, later.1, last))),
        dark-more outage.end (next ∷ outages) row spoiled is ends are.6,
      )

  -- ---- the lengths of outages
  abbrev pub rows_in : Outage → ℕ
  rows_in outage = outage.end - outage.first

  long-more : (from : ℕ) (outages : List Outage) (row spoiled : ℕ) → AreOutages dark from outages row →
      sum_by rows_in (with_dark row spoiled outages) ≡ sum_by rows_in outages + 1
  unfolding AreOutages with_dark
  long-more from [] row spoiled are = omega arith
  long-more from (outage ∷ []) row spoiled are =
      elim (cases_Bool (outage.end == row)) [
        | inl meets ↦ (let same : outage.end ≡ row = eqb-true outage.end row meets in
            rw meets (omega (arith, are.1, same)))
        | inr apart ↦ rw apart (omega arith)
      ]
  long-more from (outage ∷ next ∷ outages) row spoiled are =
      let one = sum_by-cons rows_in outage (with_dark row spoiled (next ∷ outages)) in
      let two = sum_by-cons rows_in outage (next ∷ outages) in
      omega (arith, long-more outage.end (next ∷ outages) row spoiled are.6, one, two)

spoiled-more : (outages : List Outage) (row spoiled : ℕ) →
    sum_by (λ (outage : Outage). outage.spoiled) (with_dark row spoiled outages)
    ≡ sum_by (λ (outage : Outage). outage.spoiled) outages + spoiled
unfolding with_dark
spoiled-more [] row spoiled = omega arith
spoiled-more (outage ∷ []) row spoiled =
    elim (cases_Bool (outage.end == row)) [
      | inl meets ↦ rw meets (omega arith)
      | inr apart ↦ rw apart (omega arith)
    ]
spoiled-more (outage ∷ next ∷ outages) row spoiled =
    let one = sum_by-cons (λ (outage : Outage). outage.spoiled) outage (with_dark row spoiled (next ∷ outages)) in
    let two = sum_by-cons (λ (outage : Outage). outage.spoiled) outage (next ∷ outages) in
    omega (arith, spoiled-more (next ∷ outages) row spoiled, one, two)

-- ---- row by row
abbrev pub spoiled_one : RowState → ℕ
spoiled_one Clear = 0
spoiled_one Hunting = 0
spoiled_one Spoiled = 1

module _ (state : ℕ → RowState) where
  abbrev pub dark_at : ℕ → Bool
  dark_at t = is_dark (state t)

  state-more : (own : RowState) (outages : List Outage) (row : ℕ) → state row ≡ own → AreOutages dark_at 0 outages row →
      AreOutages dark_at 0 (with_state row own outages) (row + 1)
  state-more Clear outages row is are = clear-more dark_at 0 outages row (ap is_dark is) are
  state-more Hunting outages row is are = dark-more dark_at 0 outages row 0 (ap is_dark is) (omega arith) are
  state-more Spoiled outages row is are = dark-more dark_at 0 outages row 1 (ap is_dark is) (omega arith) are

  state-long : (own : RowState) (outages : List Outage) (row : ℕ) → AreOutages dark_at 0 outages row →
      sum_by (rows_in dark_at) (with_state row own outages) ≡ sum_by (rows_in dark_at) outages + dark_one own
  state-long Clear outages row are = omega arith
  state-long Hunting outages row are = long-more dark_at 0 outages row 0 are
  state-long Spoiled outages row are = long-more dark_at 0 outages row 1 are

  state-spoiled_rows : (own : RowState) (outages : List Outage) (row : ℕ) →
      sum_by (λ (outage : Outage). outage.spoiled) (with_state row own outages)
      ≡ sum_by (λ (outage : Outage). outage.spoiled) outages + spoiled_one own
  state-spoiled_rows Clear outages row = omega arith
  state-spoiled_rows Hunting outages row = spoiled-more outages row 0
  state-spoiled_rows Spoiled outages row = spoiled-more outages row 1

  on-are : (n row : ℕ) (outages : List Outage) → AreOutages dark_at 0 outages row →
      AreOutages dark_at 0 (outages_on outages row (map state (range_with_len row n))) (row + n)
  unfolding outages_on
  on-are zero row outages are =
      subst (AreOutages dark_at 0 outages) (let e : row ≡ row + zero = omega arith in e) are
  on-are (suc n) row outages are =
      subst (AreOutages dark_at 0 (outages_on (with_state row (state row) outages) (row + 1)
      (map state (range_with_len (row + 1) n)))) (let e : row + 1 + n ≡ row + suc n = omega arith in e)
      (on-are n (row + 1) (with_state row (state row) outages) (state-more (state row) outages row refl are))

  on-long : (n row : ℕ) (outages : List Outage) → AreOutages dark_at 0 outages row →
      sum_by (rows_in dark_at) (outages_on outages row (map state (range_with_len row n)))
      ≡ sum_by (rows_in dark_at) outages + sum_by dark_one (map state (range_with_len row n))
  unfolding outages_on
  on-long zero row outages are = omega arith
  on-long (suc n) row outages are =
      let rest = on-long n (row + 1) (with_state row (state row) outages)
      (state-more (state row) outages row refl are) in
      let sum = sum_by-cons dark_one (state row) (map state (range_with_len (row + 1) n)) in
      omega (arith, state-long (state row) outages row are, rest, sum)

  on-spoiled : (n row : ℕ) (outages : List Outage) →
      sum_by (λ (outage : Outage). outage.spoiled) (outages_on outages row (map state (range_with_len row n)))
      ≡ sum_by (λ (outage : Outage). outage.spoiled) outages
      + sum_by spoiled_one (map state (range_with_len row n))
  unfolding outages_on
  on-spoiled zero row outages = omega arith
  on-spoiled (suc n) row outages =
      let rest = on-spoiled n (row + 1) (with_state row (state row) outages) in
      let sum = sum_by-cons spoiled_one (state row) (map state (range_with_len (row + 1) n)) in
      omega (arith, state-spoiled_rows (state row) outages row, rest, sum)

  none-yet : AreOutages dark_at 0 [] 0
  unfolding AreOutages
  none-yet = λ t low high. absurd (omega (arith, high))

  pub outages-are : (n : ℕ) → AreOutages dark_at 0 (outages_of (map state (range_with_len 0 n))) n
  outages-are n =
      subst (AreOutages dark_at 0 (outages_of (map state (range_with_len 0 n))))
      (let e : 0 + n ≡ n = omega arith in e) (on-are n 0 [] none-yet)

  pub outages-long : (n : ℕ) → sum_by (λ (outage : Outage). outage.end - outage.first)
      (outages_of (map state (range_with_len 0 n))) ≡ sum_by dark_one (map state (range_with_len 0 n))
  outages-long n = let e = on-long n 0 [] none-yet in omega (arith, e)

  pub outages-spoiled : (n : ℕ) → sum_by (λ (outage : Outage). outage.spoiled)
      (outages_of (map state (range_with_len 0 n))) ≡ sum_by spoiled_one (map state (range_with_len 0 n))
  outages-spoiled n = let e = on-spoiled n 0 [] in omega (arith, e)

-- ---- the lines of outages
pub lines-sum : (column : Outage → ℕ) (carried : List CarriedFrame) (rows : ℕ) (outages : List Outage) →
    sum_by (λ (line : OutageLine). column line.outage) (outage_lines carried rows outages) ≡ sum_by column outages
unfolding outage_lines
lines-sum column carried rows [] = refl
lines-sum column carried rows (outage ∷ later) =
    let one = sum_by-cons (λ (line : OutageLine). column line.outage) (outage_line carried rows outage later)
    (outage_lines carried rows later) in
    omega (arith, lines-sum column carried rows later, one, sum_by-cons column outage later)

pub lines-count : (carried : List CarriedFrame) (rows : ℕ) (outages : List Outage) →
    length (outage_lines carried rows outages) ≡ length outages
unfolding outage_lines
lines-count carried rows [] = refl
lines-count carried rows (outage ∷ later) = ap suc (lines-count carried rows later)

pub lines-each : (P : Outage → Type 0) (carried : List CarriedFrame) (rows : ℕ) (outages : List Outage) →
    All P outages → All (λ (line : OutageLine). P line.outage) (outage_lines carried rows outages)
unfolding outage_lines
lines-each P carried rows [] each = All-nil (λ (line : OutageLine). P line.outage)
lines-each P carried rows (outage ∷ later) each =
    All-cons (λ (line : OutageLine). P line.outage) (outage_line carried rows outage later)
    (outage_lines carried rows later) (All-head P outage later each)
    (lines-each P carried rows later (All-tail P outage later each))

-- ---- which rows they have
-- the first row of the first outage, or of all rows behind
pub first-up : (dark : ℕ → Bool) (from : ℕ) (outages : List Outage) (end : ℕ) → from ≤ end →
    AreOutages dark from outages end → (from ≤ next_first end outages) × (next_first end outages ≤ end)
unfolding AreOutages
first-up dark from [] end low are = (low, omega arith)
first-up dark from (outage ∷ outages) end low are = (are.0, omega (arith, are.1, are.2))

-- no row before it is dark
pub first-dark : (dark : ℕ → Bool) (from : ℕ) (outages : List Outage) (end t : ℕ) → AreOutages dark from outages end →
    from ≤ t → t < end → dark t ≡ true → next_first end outages ≤ t
unfolding AreOutages
first-dark dark from [] end t are low high is = absurd (let e : true ≡ false = sym is ∙ are t low high in cc)
first-dark dark from (outage ∷ outages) end t are low high is =
    elim (cases_lt t outage.first) [
      | inl before ↦ absurd (let e : true ≡ false = sym is ∙ are.3 t low before in cc)
      | inr behind ↦ behind
    ]

pub before-clear : (dark : ℕ → Bool) (from : ℕ) (outages : List Outage) (end t : ℕ) → AreOutages dark from outages end →
    from ≤ t → t < next_first end outages → dark t ≡ false
unfolding AreOutages
before-clear dark from [] end t are low high = are t low high
before-clear dark from (outage ∷ outages) end t are low high = are.3 t low high

abbrev pub next_outages : ℕ → List Outage → List Outage
next_outages number outages = drop (suc number) outages

-- what is known of an outage with a number, and of the rows behind it
pub record Stands (dark : ℕ → Bool) (outages : List Outage) (end number : ℕ) (outage : Outage) : Type 0 where
  pub some : outage.first < outage.end
  pub ends : outage.end ≤ next_first end (next_outages number outages)
  pub within : next_first end (next_outages number outages) ≤ end
  pub begins : dark outage.first ≡ true
  pub behind : (t : ℕ) → outage.end ≤ t → t < next_first end (next_outages number outages) → dark t ≡ false

pub outage-stands : (dark : ℕ → Bool) (from : ℕ) (outages : List Outage) (end number : ℕ) (outage : Outage) →
    AreOutages dark from outages end → slice_get outages number ≡ Some outage → Stands dark outages end number outage
unfolding AreOutages
outage-stands dark from [] end number outage are there = absurd cc
outage-stands dark from (own ∷ outages) end zero outage are there =
    let same : own ≡ outage = cc in
    let some = are.1 in
    let ends = are.2 in
    let up = first-up dark own.end outages end ends are.6 in
    subst (Stands dark (own ∷ outages) end zero) same (record {
      some = some;
      ends = up.0;
      within = up.1;
      begins = are.4 own.first (omega arith) some;
      behind = λ t low high. before-clear dark own.end outages end t are.6 low high;
    })
outage-stands dark from (own ∷ outages) end (suc number) outage are there =
    let rest = outage-stands dark own.end outages end number outage are.6 there in
    record {
      some = rest.some;
      ends = rest.ends;
      within = rest.within;
      begins = rest.begins;
      behind = rest.behind;
    }
