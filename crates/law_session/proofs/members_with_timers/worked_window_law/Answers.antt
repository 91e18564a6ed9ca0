-- Failures in containers, computed.
use Rattle.std.proofs.Common.{◌≡◌, ℕ, zero, suc, ◌+◌, ◌*◌, ◌<◌, ◌≤◌, nat_le, nat_lt, ◌&&◌, max, true, false}
use Rattle.std.proofs.Common.{if◌then◌else◌, inl, inr, List, [], ◌∷◌, length, get_or, refl, arith}
use Rattle.std.proofs.lemmas.Bool.{cases_lt, le-leb, le-ltb, lt-leb, lt-ltb}
use Rattle.law_model.specs.declared.window_types.Window.{Window}
use Rattle.law_model.specs.declared.window_types.Carried.TheVariants.{Whole, Fails, Vanishes}
use Rattle.law_model.specs.members.Damage.{carried}
use Rattle.law_model.specs.Common.{are_whole, carried_by, carried_in}
use Rattle.law_session.specs.WorkedFlaps.{flapping}
use Rattle.law_session.proofs.members_with_timers.worked_window_law.Goals as goal

pub returns-clause-alone : goal.returns-clause-alone
unfolding carried
returns-clause-alone c = λ n low high apart. elim apart [
  | inl before ↦
      let test : nat_le 1024 n ≡ false = lt-leb 1024 n before in rw test refl
  | inr behind ↦
      let test : nat_lt n 1040 ≡ false = le-ltb n 1040 behind in
      elim (nat_le 1024 n) as (λ b. (if b && nat_lt n 1040 then carried_in
      (record { first = 1024; «end» = 1040; slip = 0 }) n else Whole) ≡ Whole) [ true ↦ rw test refl | false ↦ refl ]
]

pub returns-clause-three : goal.returns-clause-three
unfolding carried are_whole
returns-clause-three c = refl

pub returns-clause-count : goal.returns-clause-count
unfolding carried are_whole
returns-clause-count c = refl

-- a container of a window doesn't arrive whole
window-fails : (window : Window) (n : ℕ) → carried_in window n ≡ Whole → ⊥
window-fails window n e =
    elim (nat_lt (n + window.slip) window.end) as (λ b. (if b then Fails else Vanishes) ≡ Whole → ⊥) [
      | true ↦ λ e. cc
      | false ↦ λ e. cc
    ] e

some-fails : (windows : List Window) (place : ℕ) (window : Window) (n : ℕ) → get_or windows place window ≡ window →
    place < length windows → window.first ≤ n → n < window.end → carried windows n ≡ Whole → ⊥
unfolding carried
some-fails [] place window n is inside low high e = omega arith
some-fails (first ∷ windows) zero window n is inside low high e =
    let below : nat_le first.first n ≡ true = rw is (le-leb window.first n low) in
    let above : nat_lt n first.end ≡ true = rw is (lt-ltb n window.end high) in
    let here : carried_in first n ≡ Whole = rw (below, above) at e in
    window-fails first n here
some-fails (first ∷ windows) (suc place) window n is inside low high e =
    elim (nat_le first.first n && nat_lt n first.end)
    as (λ b. (if b then carried_in first n else carried windows n) ≡ Whole → ⊥) [
      | true ↦ λ here. window-fails first n here
      | false ↦ λ rest. some-fails windows place window n is (omega arith) low high rest
    ] e

-- the windows by number
abbrev nth : ℕ → Window
nth i = record { first = 1000 + 400 * i; «end» = 1100 + 400 * i; slip = 0 }

fails-in : (i n : ℕ) → i < 5 → 1000 + 400 * i ≤ n → n < 1100 + 400 * i → carried_by flapping 1 n ≡ Whole → ⊥
fails-in zero n few low high = some-fails _ 0 (nth 0) n refl (omega arith) low high
fails-in (suc zero) n few low high = some-fails _ 1 (nth 1) n refl (omega arith) low high
fails-in (suc (suc zero)) n few low high = some-fails _ 2 (nth 2) n refl (omega arith) low high
fails-in (suc (suc (suc zero))) n few low high = some-fails _ 3 (nth 3) n refl (omega arith) low high
fails-in (suc (suc (suc (suc zero)))) n few low high = some-fails _ 4 (nth 4) n refl (omega arith) low high
fails-in (suc (suc (suc (suc (suc i))))) n few low high = absurd (omega arith)

-- where none is hit before a window, its first container is, and else the one that is there
hit : (i from : ℕ) → i < 5 → 700 + 400 * i ≤ from → from < 1100 + 400 * i →
    (x : ℕ) × (from ≤ x) × (x < from + 16 * 19 + 8) × (carried_by flapping 1 x ≡ Whole → ⊥)
hit i from few low high = (
  max from (1000 + 400 * i),
  omega arith,
  omega arith,
  fails-in i (max from (1000 + 400 * i)) few (omega arith)
      (omega arith),
)

pub returns-clause-often : goal.returns-clause-often
returns-clause-often c = λ from low high. elim (cases_lt from 1100) [
  | inl first ↦ (from, omega arith, omega arith, fails-in 0 from (omega arith) (omega arith) (omega arith))
  | inr past ↦ elim (cases_lt from 1500) [
    | inl next ↦ hit 1 from (omega arith) (omega arith) (omega arith)
    | inr past_next ↦ elim (cases_lt from 1900) [
      | inl third ↦ hit 2 from (omega arith) (omega arith) (omega arith)
      | inr past_third ↦ elim (cases_lt from 2300) [
        | inl fourth ↦ hit 3 from (omega arith) (omega arith) (omega arith)
        | inr last ↦ hit 4 from (omega arith) (omega arith) (omega arith)
      ]
    ]
  ]
]
