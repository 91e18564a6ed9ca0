-- Rows governed by the same packet (AreAlike) have the same used lines and are spared alike; tests of a range.
use Rattle.std.proofs.Common.{◌≡◌, ℕ, ◌+◌, ◌-◌, ◌/◌, ◌%◌, ◌<◌, ◌≤◌, ◌==◌, nat_lt, Bool, true, false, List, [], ◌∷◌}
use Rattle.std.proofs.Common.{length, Option, refl, sym, ◌∙◌, ap, ap₂, arith, ◌&&◌, ◌||◌, not, Some, None, inl, inr}
use Rattle.std.proofs.Common.{zero, suc, filter, subst, zero-add}
use Rattle.std.specs.Prelude.{if◌then◌else◌, is_some}
use Rattle.std.specs.List.{list_any, list_all, range_with_len, find}
use Rattle.std.proofs.lemmas.Bool.{lt-ltb, le-ltb, eqb-true, cases_Bool, ltb-false, cases_lt}
use Rattle.law_model.specs.Common.{Scenario, Told, active, table_of, is_good, carried_by, is_read, is_heard}
use Rattle.law_model.specs.Common.{are_inferred, is_whole_under, is_whole_row}
use Rattle.fate_check.specs.UsedLines.{used_lines, is_used, has_payload, AreAlike}
use Rattle.fate_engine.specs.declared.fate_law.Cause.{Cause}
use Rattle.fate_engine.specs.Common.{row_cause}
use Rattle.fate_engine.proofs.SpoiledRunAndWholeContainerLaws.{cause-whole}
use Rattle.fate_check.specs.IdleWindows.{is_spared}
use Rattle.std.proofs.lemmas.List.Folds.{list_all_at}
use Rattle.std.proofs.lemmas.List.FromFn.{length-range_with_len, get_or-range_with_len}
use Rattle.law_row.proofs.LastWordAndReturnPacketLaws.{all-at, all-from}

-- ---- Rows that are governed by the same packet have the same lines that carry payload.
-- before the first row that a packet governs
pub alike-early : (t row : ℕ) → row < 24 → t < 24 → AreAlike t row
alike-early t row low also = record {
  early = lt-ltb t 24 also ∙ sym (lt-ltb row 24 low);
  packet = (let e : (t - 24) / 16 ≡ (row - 24) / 16 = omega (arith, low, also) in e);
}

-- up to the next one that another packet does
pub alike-late : (t row : ℕ) → 24 ≤ row → row ≤ t → t < row + 16 - (row - 24) % 16 → AreAlike t row
alike-late t row late low high = record {
  early = le-ltb t 24 (omega (arith, late, low)) ∙ sym (le-ltb row 24 late);
  packet = (let e : (t - 24) / 16 ≡ (row - 24) / 16 = omega (arith, late, low, high) in e);
}

-- ---- what they have in common
module _ (scenario : Scenario) (cells : List (Option Told)) (t row : ℕ) (alike : AreAlike t row) where
  pub alike-lines : used_lines scenario cells t ≡ used_lines scenario cells row
  alike-lines = ap₂ (λ (b : Bool) (k : ℕ). if b then [] else active (table_of scenario cells k)) alike.early alike.packet

  pub alike-used : (line : ℕ) → is_used scenario cells line t ≡ is_used scenario cells line row
  alike-used line = ap (list_any (λ used. used == line)) alike-lines

  pub alike-payload : has_payload scenario cells t ≡ has_payload scenario cells row
  alike-payload = ap (λ lines. nat_lt 0 (length lines)) alike-lines

-- ---- a row by its packet
pub early-lines : (scenario : Scenario) (cells : List (Option Told)) (t : ℕ) → t < 24 →
    used_lines scenario cells t ≡ []
early-lines scenario cells t low = rw (lt-ltb t 24 low) refl

pub late-lines : (scenario : Scenario) (cells : List (Option Told)) (t : ℕ) → 24 ≤ t →
    used_lines scenario cells t ≡ active (table_of scenario cells ((t - 24) / 16))
late-lines scenario cells t high = rw (le-ltb t 24 high) refl

-- ---- how many there are
some-lines : (lines : List ℕ) → (length lines == 0) ≡ false → nat_lt 0 (length lines) ≡ true
some-lines [] some = absurd (let e : true ≡ false = some in cc)
some-lines (line ∷ lines) some = lt-ltb 0 (length (line ∷ lines)) (omega arith)

none-lines : (lines : List ℕ) → (length lines == 0) ≡ true → nat_lt 0 (length lines) ≡ false
none-lines [] none = refl
none-lines (line ∷ lines) none =
    absurd (let few = eqb-true (length (line ∷ lines)) 0 none in omega (arith, few))

pub some-by-length : (lines : List ℕ) (scenario : Scenario) (cells : List (Option Told)) (t : ℕ) →
    lines ≡ used_lines scenario cells t → (length lines == 0) ≡ false → has_payload scenario cells t ≡ true
some-by-length lines scenario cells t is some = ap (λ l. nat_lt 0 (length l)) (sym is) ∙ some-lines lines some

pub none-by-length : (lines : List ℕ) (scenario : Scenario) (cells : List (Option Told)) (t : ℕ) →
    lines ≡ used_lines scenario cells t → (length lines == 0) ≡ true → has_payload scenario cells t ≡ false
none-by-length lines scenario cells t is none = ap (λ l. nat_lt 0 (length l)) (sym is) ∙ none-lines lines none

-- ---- Rows that are governed by the same packet are spared alike.
-- ---- rows in which no line carries payload
no-lines : (lines : List ℕ) → nat_lt 0 (length lines) ≡ false → lines ≡ []
no-lines [] none = refl
no-lines (line ∷ lines) none =
    absurd (let few = ltb-false 0 (length (line ∷ lines)) none in omega (arith, few))

-- they are whole if the packet of some line could be read
bare-whole : (scenario : Scenario) (cells : List (Option Told)) (k t : ℕ) →
    active (table_of scenario cells k) ≡ [] → is_whole_under scenario cells k t ≡ ((is_heard scenario k && true) && true)
bare-whole scenario cells k t none =
    ap (λ lines. (is_heard scenario k
    && (list_all (λ line. is_read scenario line k) lines || (scenario.options.infers && are_inferred scenario cells k)))
    && list_all (λ line. is_good (carried_by scenario line) t) lines) none

row-under : (scenario : Scenario) (cells : List (Option Told)) (t : ℕ) → 24 ≤ t →
    is_whole_row scenario cells t ≡ is_whole_under scenario cells ((t - 24) / 16) t
row-under scenario cells t late = rw (le-ltb t 24 late) refl

bare-row : (scenario : Scenario) (cells : List (Option Told)) (t : ℕ) → 24 ≤ t → has_payload scenario cells t ≡ false →
    is_whole_row scenario cells t ≡ ((is_heard scenario ((t - 24) / 16) && true) && true)
bare-row scenario cells t late none =
    row-under scenario cells t late
    ∙ bare-whole scenario cells ((t - 24) / 16) t
    (sym (late-lines scenario cells t late) ∙ no-lines (used_lines scenario cells t) none)

module _ (scenario : Scenario) (cells : List (Option Told)) (t row : ℕ) (alike : AreAlike t row) where
  bare-alike : has_payload scenario cells row ≡ false →
      is_whole_row scenario cells t ≡ is_whole_row scenario cells row
  bare-alike none =
      elim (cases_Bool (nat_lt row 24)) [
        | inl low ↦ (
            let also : nat_lt t 24 ≡ true = alike.early ∙ low in
            rw (also, low) refl)
        | inr high ↦ (
            let late : 24 ≤ row = ltb-false row 24 high in
            let also : 24 ≤ t = ltb-false t 24 (alike.early ∙ high) in
            bare-row scenario cells t also (alike-payload scenario cells t row alike ∙ none)
            ∙ ap (λ k. (is_heard scenario k && true) && true) alike.packet ∙ sym (bare-row scenario cells row late none))
      ]

  pub alike-spared : (line : ℕ) → is_spared scenario cells line t ≡ is_spared scenario cells line row
  alike-spared line =
      ap (λ b. if b then not (is_used scenario cells line t) else is_whole_row scenario cells t)
      (alike-payload scenario cells t row alike)
      ∙ elim (cases_Bool (has_payload scenario cells row)) [
        | inl some ↦ rw some (ap not (alike-used scenario cells t row alike line))
        | inr none ↦ rw none (bare-alike none)
      ]

-- ---- a row by what was found of it
pub spared-bare : (scenario : Scenario) (cells : List (Option Told)) (line t : ℕ) →
    has_payload scenario cells t ≡ false → is_spared scenario cells line t ≡ is_whole_row scenario cells t
spared-bare scenario cells line t none = rw none refl

pub spared-used : (scenario : Scenario) (cells : List (Option Told)) (line t : ℕ) →
    has_payload scenario cells t ≡ true → is_spared scenario cells line t ≡ not (is_used scenario cells line t)
spared-used scenario cells line t some = rw some refl

-- it has no cause exactly if it is whole
pub whole-by-cause : (scenario : Scenario) (cells : List (Option Told)) (t : ℕ) (cause : Option Cause) (none : Bool) →
    cause ≡ row_cause scenario cells t → is_some cause ≡ not none → none ≡ is_whole_row scenario cells t
whole-by-cause scenario cells t None true is isnt = sym ((cause-whole scenario cells t).0 (sym is))
whole-by-cause scenario cells t None false is isnt = absurd (let e : false ≡ true = isnt in cc)
whole-by-cause scenario cells t (Some cause) true is isnt = absurd (let e : true ≡ false = isnt in cc)
whole-by-cause scenario cells t (Some cause) false is isnt =
    elim (cases_Bool (is_whole_row scenario cells t)) [
      | inl whole ↦ absurd (let e : Some cause ≡ None = is ∙ (cause-whole scenario cells t).1 whole in cc)
      | inr cut ↦ sym cut
    ]

-- ---- Tests of numbers in turn: what one of them, or each of them, says of the list.
-- ---- all pass that are picked
-- of each of them: it isn't picked, or it passes
each-picked : (picks test : ℕ → Bool) (ts : List ℕ) →
    list_all test (filter picks ts) ≡ list_all (λ t. not (picks t) || test t) ts
each-picked picks test [] = refl
each-picked picks test (t ∷ ts) =
    elim (cases_Bool (picks t)) [
      | inl picked ↦ rw picked (ap (λ b. test t && b) (each-picked picks test ts))
      | inr other ↦ rw other (each-picked picks test ts)
    ]

pub all-picked : (picks test : ℕ → Bool) (n : ℕ) → ((t : ℕ) → t < n → picks t ≡ true → test t ≡ true) →
    list_all test (filter picks (range_with_len 0 n)) ≡ true
all-picked picks test n all =
    each-picked picks test (range_with_len 0 n)
    ∙ all-from (λ t. not (picks t) || test t) 0 n
    (λ t low high. passes (picks t) (test t) (all t (omega (arith, high))))
  where
    passes : (picked b : Bool) → (picked ≡ true → b ≡ true) → (not picked || b) ≡ true
    passes true b is = is refl
    passes false b is = refl

pub fails-range : (test : ℕ → Bool) (n t : ℕ) → t < n → test t ≡ false → list_all test (range_with_len 0 n) ≡ false
fails-range test n t low isnt =
    list_all_at test (range_with_len 0 n) t 0 (omega (arith, low, length-range_with_len 0 n))
    (ap test (get_or-range_with_len 0 n t 0 low ∙ zero-add t) ∙ isnt)

pub fails-picked : (picks test : ℕ → Bool) (n t : ℕ) → t < n → picks t ≡ true → test t ≡ false →
    list_all test (filter picks (range_with_len 0 n)) ≡ false
fails-picked picks test n t low picked isnt =
    each-picked picks test (range_with_len 0 n)
    ∙ fails-range (λ t. not (picks t) || test t) n t low (ap₂ (λ a b. not a || b) picked isnt)

-- each that is picked passes, where all do
pub picked-passes : (picks test : ℕ → Bool) (n t : ℕ) →
    list_all test (filter picks (range_with_len 0 n)) ≡ true → t < n → picks t ≡ true → test t ≡ true
picked-passes picks test n t all low picked =
    ap (λ b. not b || test t) (sym picked)
    ∙ all-at (λ t. not (picks t) || test t) 0 n (sym (each-picked picks test (range_with_len 0 n)) ∙ all) t
    (omega arith) (omega (arith, low))

-- ---- the first that passes
pub finds-none : (test : ℕ → Bool) (from n : ℕ) → ((t : ℕ) → from ≤ t → t < from + n → test t ≡ false) →
    find test (range_with_len from n) ≡ None
finds-none test from zero none = refl
finds-none test from (suc n) none =
    let first : test from ≡ false = none from (omega arith) (omega arith) in
    rw first (finds-none test (from + 1) n (λ t low high. none t (omega (arith, low)) (omega (arith, high))))

pub finds-first : (test : ℕ → Bool) (from n t : ℕ) → from ≤ t → t < from + n →
    ((u : ℕ) → from ≤ u → u < t → test u ≡ false) → test t ≡ true → find test (range_with_len from n) ≡ Some t
finds-first test from zero t low high before is = absurd (omega (arith, low, high))
finds-first test from (suc n) t low high before is =
    elim (cases_lt from t) [
      | inl later ↦ (
          let none : test from ≡ false = before from (omega arith) later in
          rw none (finds-first test (from + 1) n t (omega (arith, later)) (omega (arith, high))
          (λ u from_u below. before u (omega (arith, from_u)) below) is))
      | inr here ↦ (
          let e : t ≡ from = omega (arith, low, here) in
          let first : test from ≡ true = subst (λ u. test u ≡ true) e is in
          rw first (ap Some (sym e)))
    ]
