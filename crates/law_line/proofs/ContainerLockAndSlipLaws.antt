-- At which containers a line is locked and good, and how far its numbers may be behind: never further than its slip.
use Rattle.std.proofs.Common.{◌≡◌, ℕ, zero, suc, ◌+◌, ◌-◌, ◌*◌, ◌%◌, ◌<◌, ◌≤◌, nat_le, Bool, true, false, ◌&&◌}
use Rattle.std.proofs.Common.{if◌then◌else◌, inl, inr, refl, sym, subst, arith, nat_lt, ◌⊎◌, List, [], ◌∷◌, ◌∙◌}
use Rattle.std.proofs.lemmas.Bool.{cases_lt, cases_eq, cases_Bool, le-leb, leb-true, false_from_ne_true}
use Rattle.law_model.specs.Common.{is_whole, are_whole, lock_of, is_good, is_readable, carried_in, AreWindows}
use Rattle.law_model.specs.Common.{slip_after, slip_of}
use Rattle.law_model.specs.declared.window_types.Carried.{Carried}
use Rattle.law_model.specs.declared.window_types.Carried.TheVariants.{Whole, Fails, Vanishes}
use Rattle.law_model.specs.declared.window_types.Window.{Window}
use Rattle.law_model.specs.members.Damage.{carried}
use Rattle.law_model.proofs.WindowAndPathLaws.{carried-in, carried-before, carried-after}

-- ---- Which frames a line that has locked tells, over what comes of each container.
-- ---- a run of whole containers
and-left : (a b : Bool) → (a && b) ≡ true → a ≡ true
and-left true b e = refl
and-left false b e = e

and-right : (a b : Bool) → (a && b) ≡ true → b ≡ true
and-right true b e = e
and-right false b e = absurd (let f : false ≡ true = e in cc)

-- the containers from one up to another are whole
abbrev pub AreWhole : (ℕ → Carried) → ℕ → ℕ → Type 0
AreWhole carries from to = (k : ℕ) → from ≤ k → k < to → is_whole (carries k) ≡ true

pub are_whole-each : (carries : ℕ → Carried) (from count : ℕ) → are_whole carries from count ≡ true →
    AreWhole carries from (from + count)
unfolding are_whole
are_whole-each carries from zero e k low high = absurd (omega arith)
are_whole-each carries from (suc count) e k low high =
    elim (cases_eq k (from + count)) [
      | inl last ↦ subst (λ k. is_whole (carries k) ≡ true) (sym last)
          (and-right (are_whole carries from count) (is_whole (carries (from + count))) e)
      | inr other ↦ are_whole-each carries from count
          (and-left (are_whole carries from count) (is_whole (carries (from + count))) e) k low (omega arith)
    ]

pub each-are_whole : (carries : ℕ → Carried) (from count : ℕ) → AreWhole carries from (from + count) →
    are_whole carries from count ≡ true
unfolding are_whole
each-are_whole carries from zero each = refl
each-are_whole carries from (suc count) each =
    rw (
      each-are_whole carries from count (λ k low high. each k low (omega arith)),
      each (from + count) (omega arith) (omega arith),
    ) refl

-- ---- locked after n containers, and good at one
pub record IsLocked (carries : ℕ → Carried) (n : ℕ) : Type 0 where
  pub two : 2 ≤ n
  pub whole : AreWhole carries (lock_of n) n

pub record IsGood (carries : ℕ → Carried) (t : ℕ) : Type 0 where
  pub locked : IsLocked carries t
  pub whole : is_whole (carries t) ≡ true

pub is_good-IsGood : (carries : ℕ → Carried) (t : ℕ) → is_good carries t ≡ true → IsGood carries t
is_good-IsGood carries t e =
    let from : ℕ = lock_of t in
    let two : 2 ≤ t = leb-true 2 t (and-left (nat_le 2 t) (are_whole carries from (t + 1 - from)) e) in
    let below : from + (t + 1 - from) ≡ t + 1 = omega arith in
    let each : AreWhole carries from (from + (t + 1 - from)) =
    are_whole-each carries from (t + 1 - from)
    (and-right (nat_le 2 t) (are_whole carries from (t + 1 - from)) e) in
    record {
      locked = record { two = two; whole = λ k low high. each k low (omega arith) };
      whole = each t (omega arith) (omega arith);
    }

pub IsGood-is_good : (carries : ℕ → Carried) (t : ℕ) → IsGood carries t → is_good carries t ≡ true
IsGood-is_good carries t good =
    let from : ℕ = lock_of t in
    let two : 2 ≤ t = good.locked.two in
    let below : from + (t + 1 - from) ≡ t + 1 = omega arith in
    rw (le-leb 2 t two) (each-are_whole carries from (t + 1 - from) (λ k low high.
    elim (cases_eq k t) [
      | inl last ↦ subst (λ k. is_whole (carries k) ≡ true) (sym last) good.whole
      | inr other ↦ good.locked.whole k low (omega arith)
    ]))

pub not_good : (carries : ℕ → Carried) (t : ℕ) → (IsGood carries t → ⊥) → is_good carries t ≡ false
not_good carries t never = false_from_ne_true (is_good carries t) (λ e. never (is_good-IsGood carries t e))

-- ---- one more container
lock_rises : (n : ℕ) → lock_of n ≤ lock_of (suc n)
lock_rises n = omega arith

-- a good one leaves the line locked
pub IsGood-locked : (carries : ℕ → Carried) (n : ℕ) → IsGood carries n → IsLocked carries (suc n)
IsGood-locked carries n good =
    let two : 2 ≤ n = good.locked.two in
    let rises = lock_rises n in
    record {
      two = omega arith;
      whole = λ k low high.
          elim (cases_eq k n) [
            | inl last ↦ subst (λ k. is_whole (carries k) ≡ true) (sym last) good.whole
            | inr other ↦ good.locked.whole k (omega arith) (omega arith)
          ];
    }

lock_last : (n : ℕ) → 1 ≤ n → lock_of (suc n) ≤ n - 1
lock_last n h = omega arith

-- a container after which the line is locked is whole, and so is the one before it
pub IsLocked-last : (carries : ℕ → Carried) (n : ℕ) → IsLocked carries (suc n) → is_whole (carries n) ≡ true
IsLocked-last carries n locked = let two = locked.two in let low = lock_last n (omega arith) in
    locked.whole n (omega arith) (omega arith)

pub IsLocked-before : (carries : ℕ → Carried) (k : ℕ) → IsLocked carries (suc (suc k)) → is_whole (carries k) ≡ true
IsLocked-before carries k locked = let low = lock_last (suc k) (omega arith) in
    locked.whole k (omega arith) (omega arith)

lock_same : (k : ℕ) → (k % 16 ≡ 0 → ⊥) → (1 ≤ k) × (lock_of (suc k) ≡ lock_of (suc (suc k)))
lock_same k other = (omega arith, omega arith)

-- it was locked before, unless the container before has MFI1 0
pub IsLocked-earlier : (carries : ℕ → Carried) (k : ℕ) → (k % 16 ≡ 0 → ⊥) → IsLocked carries (suc (suc k)) →
    IsLocked carries (suc k)
IsLocked-earlier carries k other locked =
    let same = lock_same k other in
    record { two = omega (arith, same.0); whole = λ j low high. locked.whole j (omega (arith, same.1)) (omega arith) }

lock_here : (k : ℕ) → k % 16 ≡ 0 → lock_of (suc (suc k)) ≡ k
lock_here k h = omega arith

-- the first two of a multiframe lock
pub IsLocked-two : (carries : ℕ → Carried) (k : ℕ) → k % 16 ≡ 0 → is_whole (carries k) ≡ true →
    is_whole (carries (suc k)) ≡ true → IsLocked carries (suc (suc k))
IsLocked-two carries k h first second =
    let here = lock_here k h in
    record {
      two = omega arith;
      whole = λ j low high.
          elim (cases_eq j k) [
            | inl same ↦ subst (λ j. is_whole (carries j) ≡ true) (sym same) first
            | inr other ↦ subst (λ j. is_whole (carries j) ≡ true)
                (let e : suc k ≡ j = omega (arith, here, low, high, other) in e) second
          ];
    }

-- ---- seventeen whole containers lock
-- how many containers before container n are whole in a row
unfoldable pub steady : (ℕ → Carried) → ℕ → ℕ
steady carries zero = 0
steady carries (suc n) = if is_whole (carries n) then suc (steady carries n) else 0

pub steady-whole : (carries : ℕ → Carried) (n k : ℕ) → k < n → n ≤ k + steady carries n → is_whole (carries k) ≡ true
unfolding steady
steady-whole carries zero k before within = absurd (omega arith)
steady-whole carries (suc n) k before within =
    elim (cases_Bool (is_whole (carries n))) [
      | inl yes' ↦
          elim (cases_eq k n) [
            | inl last ↦ subst (λ k. is_whole (carries k) ≡ true) (sym last) yes'
            | inr other ↦ steady-whole carries n k (omega arith) (let within' = rw yes' at within in omega arith)
          ]
      | inr not' ↦ absurd (let within' = rw not' at within in omega arith)
    ]

seventeen : (n k : ℕ) → 17 ≤ n → lock_of n ≤ k → n ≤ k + 17
seventeen n k h low = omega arith

steady-most : (carries : ℕ → Carried) (n : ℕ) → steady carries n ≤ n
unfolding steady
steady-most carries zero = omega arith
steady-most carries (suc n) =
    elim (cases_Bool (is_whole (carries n))) [
      | inl yes' ↦ rw yes' (let h = steady-most carries n in omega arith)
      | inr not' ↦ rw not' (omega arith)
    ]

pub IsLocked-steady : (carries : ℕ → Carried) (n : ℕ) → 17 ≤ steady carries n → IsLocked carries n
IsLocked-steady carries n h =
    let most = steady-most carries n in
    record {
      two = omega arith;
      whole = λ k low high. steady-whole carries n k high (let e = seventeen n k (omega arith) low in omega arith);
    }

-- ---- how far the numbers may be after
abbrev pub vanished : Carried → ℕ
vanished Whole = 0
vanished Fails = 0
vanished Vanishes = 1

-- how many containers have vanished before container n since the last seventeen whole ones in a row
unfoldable pub lost : (ℕ → Carried) → ℕ → ℕ
lost carries zero = 0
lost carries (suc n) = if nat_le 17 (steady carries (suc n)) then 0 else lost carries n + vanished (carries n)

-- ---- packets
multiframe : (k t : ℕ) → 16 * k + 8 ≤ t → t < 16 * k + 24 → 16 * k ≤ lock_of t
multiframe k t low high = omega arith

pub readable-good : (carries : ℕ → Carried) (k : ℕ) → is_readable carries k ≡ true → (t : ℕ) → 16 * k + 8 ≤ t →
    t < 16 * k + 24 → is_good carries t ≡ true
readable-good carries k readable t low high =
    let each = are_whole-each carries (16 * k) 24 readable in
    let from = multiframe k t low high in
    IsGood-is_good carries t (record {
      locked = record { two = omega arith; whole = λ j low' high'. each j (omega arith) (omega arith) };
      whole = each t (omega arith) (omega arith);
    })

middle : (k : ℕ) → lock_of (16 * k + 17) ≡ 16 * k
middle k = omega arith

final : (k : ℕ) → lock_of (16 * k + 23) ≡ 16 * k + 16
final k = omega arith

pub good-readable : (carries : ℕ → Carried) (k : ℕ) →
    ((t : ℕ) → 16 * k + 8 ≤ t → t < 16 * k + 24 → is_good carries t ≡ true) → is_readable carries k ≡ true
good-readable carries k all =
    let first : IsGood carries (16 * k + 17) =
    is_good-IsGood carries (16 * k + 17) (all (16 * k + 17) (omega arith) (omega arith)) in
    let last : IsGood carries (16 * k + 23) =
    is_good-IsGood carries (16 * k + 23) (all (16 * k + 23) (omega arith) (omega arith)) in
    let begins = middle k in
    let goes_on = final k in
    each-are_whole carries (16 * k) 24 (λ j low high.
    elim (cases_lt j (16 * k + 17)) [
      | inl early ↦ first.locked.whole j (omega arith) early
      | inr late ↦
          elim (cases_lt j (16 * k + 23)) [
            | inl inside ↦ last.locked.whole j (omega arith) inside
            | inr ends ↦ subst (λ j. is_whole (carries j) ≡ true) (let e : 16 * k + 23 ≡ j = omega arith in e)
                last.whole
          ]
    ])

-- ---- How far the numbers of a line may be after, by its windows.
-- ---- what a window does to a container
broken-in : (b : Bool) → is_whole (if b then Fails else Vanishes) ≡ false
broken-in true = refl
broken-in false = refl

pub vanishes-in : (window : Window) (n : ℕ) → carried_in window n ≡ Vanishes → window.end ≤ n + window.slip
vanishes-in window n fate =
    elim (cases_lt (n + window.slip) window.end) [
      | inl fails ↦ absurd (let f : nat_lt (n + window.slip) window.end ≡ true = grind (arith, fails) in
          let e : Fails ≡ Vanishes = rw f at fate in cc)
      | inr other ↦ other
    ]

-- a container is in a window or not
cases_in : (window : Window) (n : ℕ) → ((window.first ≤ n) × (n < window.end)) ⊎ ((n < window.first) ⊎ (window.end ≤ n))
cases_in window n =
    elim (cases_lt n window.first) [
      | inl before ↦ inr (inl before)
      | inr from ↦ elim (cases_lt n window.end) [ inl inside ↦ inl (from, inside) | inr past ↦ inr (inr past) ]
    ]

broken-more : (window : Window) (windows : List Window) (k : ℕ) → is_whole (carried windows k) ≡ false →
    is_whole (carried (window ∷ windows) k) ≡ false
broken-more window windows k broken =
    elim (cases_in window k) [
      | inl inside ↦ rw (carried-in window windows k inside.0 inside.1)
          (broken-in (nat_lt (k + window.slip) window.end))
      | inr outside ↦ elim outside [
        | inl before ↦ rw (carried-before window windows k before) broken
        | inr past ↦ rw
            (carried-after window windows k past) broken
      ]
    ]

-- no container vanishes first, nor at once after a whole one
abbrev HasSign : List Window → ℕ → Type 0
HasSign windows n = (k : ℕ) × (n ≡ suc k) × (is_whole (carried windows k) ≡ false)

sign-more : (window : Window) (windows : List Window) (n : ℕ) → HasSign windows n → HasSign (window ∷ windows) n
sign-more window windows n (k, e, broken) = (k, e, broken-more window windows k broken)

sign-in : (window : Window) (windows : List Window) (n : ℕ) → window.slip + window.first < window.end →
    window.first ≤ n → n < window.end → window.end ≤ n + window.slip → HasSign (window ∷ windows) n
sign-in window windows zero sign low high late = absurd (omega arith)
sign-in window windows (suc k) sign low high late = (
  k,
  refl,
  rw (carried-in window windows k (omega arith) (omega arith))
      (broken-in (nat_lt (k + window.slip) window.end)),
)

pub signs_of : (from : ℕ) (windows : List Window) (n : ℕ) → AreWindows from windows → carried windows n ≡ Vanishes →
    HasSign windows n
unfolding AreWindows carried
signs_of from [] n are fate = absurd (let e : Whole ≡ Vanishes = fate in cc)
signs_of from (window ∷ windows) n are fate =
    elim (cases_in window n) [
      | inl inside ↦
          sign-in window windows n are.1 inside.0 inside.1
          (vanishes-in window n (sym (carried-in window windows n inside.0 inside.1) ∙ fate))
      | inr outside ↦
          sign-more window windows n (signs_of window.end windows n are.2
          (elim outside [
            | inl before ↦ sym (carried-before window windows n before)
                ∙ fate
            | inr past ↦ sym (carried-after window windows n past) ∙ fate
          ]))
    ]

-- ---- how many containers are lost
-- whole containers
whole-lost : (carries : ℕ → Carried) (n : ℕ) → carries n ≡ Whole → lost carries (suc n) ≤ lost carries n
unfolding lost
whole-lost carries n fate =
    elim (cases_Bool (nat_le 17 (steady carries (suc n)))) [
      | inl many ↦ rw many (omega arith)
      | inr few ↦ rw (few, fate) (omega arith)
    ]

whole-steady : (carries : ℕ → Carried) (n : ℕ) → carries n ≡ Whole → steady carries (suc n) ≡ suc (steady carries n)
unfolding steady
whole-steady carries n fate = rw fate refl

stretch-lost : (carries : ℕ → Carried) (from count : ℕ) → ((k : ℕ) → from ≤ k → k < from + count → carries k ≡ Whole) →
    lost carries (from + count) ≤ lost carries from
stretch-lost carries from zero each = rw (let e : from + 0 ≡ from = omega arith in e) (omega arith)
stretch-lost carries from (suc count) each =
    let before = stretch-lost carries from count (λ k low high. each k low (omega arith)) in
    let next = whole-lost carries (from + count) (each (from + count) (omega arith) (omega arith)) in
    rw (let e : from + suc count ≡ suc (from + count) = omega arith in e) (omega (arith, before, next))

stretch-steady : (carries : ℕ → Carried) (from count : ℕ) →
    ((k : ℕ) → from ≤ k → k < from + count → carries k ≡ Whole) → count ≤ steady carries (from + count)
stretch-steady carries from zero each = omega arith
stretch-steady carries from (suc count) each =
    let before = stretch-steady carries from count (λ k low high. each k low (omega arith)) in
    let next = whole-steady carries (from + count) (each (from + count) (omega arith) (omega arith)) in
    rw (let e : from + suc count ≡ suc (from + count) = omega arith in e) (omega (arith, before, next))

-- seventeen of them make good what was lost
steady-lost : (carries : ℕ → Carried) (n : ℕ) → 17 ≤ steady carries n → lost carries n ≡ 0
unfolding lost steady
steady-lost carries zero many = absurd (omega arith)
steady-lost carries (suc n) many =
    rw (let e : nat_le 17 (steady carries (suc n)) ≡ true = grind (arith, many) in e) refl

-- a container of a window
broken-lost : (carries : ℕ → Carried) (n : ℕ) → is_whole (carries n) ≡ false →
    lost carries (suc n) ≡ lost carries n + vanished (carries n)
unfolding lost steady
broken-lost carries n broken = rw broken refl

window-lost : (carries : ℕ → Carried) (window : Window) (j : ℕ) →
    ((k : ℕ) → window.first ≤ k → k < window.first + j → carries k ≡ carried_in window k) →
    window.first + j ≤ window.end → window.slip + window.first < window.end →
    lost carries (window.first + j) ≤ lost carries window.first + ((window.first + j + window.slip) - window.end)
window-lost carries window zero each within sign =
    rw (let e : window.first + 0 ≡ window.first = omega arith in e) (omega arith)
window-lost carries window (suc j) each within sign =
    let n : ℕ = window.first + j in
    let before = window-lost carries window j (λ k low high. each k low (omega arith)) (omega arith) sign in
    let here : carries n ≡ carried_in window n = each n (omega arith) (omega arith) in
    let lose = broken-lost carries n (rw here (broken-in (nat_lt (n + window.slip) window.end))) in
    rw (let e : window.first + suc j ≡ suc n = omega arith in e)
    (elim (cases_lt (n + window.slip) window.end) [
      | inl fails ↦
          let test : nat_lt (n + window.slip) window.end ≡ true = grind (arith, fails) in
          let none : vanished (carries n) ≡ 0 = rw (here, test) refl in
          omega (arith, before, lose, none)
      | inr late ↦
          let test : nat_lt (n + window.slip) window.end ≡ false = grind (arith, late) in
          let one : vanished (carries n) ≡ 1 = rw (here, test) refl in
          omega (arith, before, lose, one, late)
    ])

pub run-most : (run end : ℕ) (windows : List Window) → run ≤ slip_after run end windows
unfolding slip_after
run-most run end [] = omega arith
run-most run end (window ∷ windows) = omega arith

-- before the first of them no window damages
pub carried-early : (from : ℕ) (windows : List Window) (n : ℕ) → AreWindows from windows → n < from →
    carried windows n ≡ Whole
unfolding AreWindows carried
carried-early from [] n are before = refl
carried-early from (window ∷ windows) n are before =
    carried-before window windows n (let first = are.0 in omega arith)
    ∙ carried-early window.end windows n are.2 (let first = are.0 in let sign = are.1 in omega arith)

-- the sum of the run that a window ends
abbrev run_with : ℕ → ℕ → Window → ℕ
run_with run end window = if nat_lt window.first (end + 17) then run + window.slip else window.slip

lost-first : (carries : ℕ → Carried) (run end : ℕ) (window : Window) → end ≤ window.first → lost carries end ≤ run →
    ((k : ℕ) → end ≤ k → k < window.first → carries k ≡ Whole) →
    (lost carries window.first ≤ run) × (lost carries window.first + window.slip ≤ run_with run end window)
lost-first carries run end window first lose whole =
    let count : ℕ = window.first - end in
    let all : end + count ≡ window.first = omega arith in
    let fewer : lost carries window.first ≤ lost carries end =
    subst (λ n. lost carries n ≤ lost carries end) all
    (stretch-lost carries end count (λ k low high. whole k low (omega arith))) in
    let many : count ≤ steady carries window.first =
    subst (λ n. count ≤ steady carries n) all
    (stretch-steady carries end count (λ k low high. whole k low (omega arith))) in (
      omega (arith, fewer, lose),
      elim (cases_lt window.first (end + 17)) [
        | inl near ↦ rw (let test : nat_lt window.first (end + 17) ≡ true = grind (arith, near) in test)
            (omega (arith, fewer, lose))
        | inr far ↦
            rw (let test : nat_lt window.first (end + 17) ≡ false = grind (arith, far) in test)
            (let none = steady-lost carries window.first (omega (arith, many, far)) in omega (arith, none))
      ],
    )

pub lost-slip : (carries : ℕ → Carried) (run end : ℕ) (windows : List Window) →
    ((k : ℕ) → end ≤ k → carries k ≡ carried windows k) → AreWindows end windows → lost carries end ≤ run →
    (n : ℕ) → end ≤ n → lost carries n ≤ slip_after run end windows
unfolding carried AreWindows slip_after
lost-slip carries run end [] same are lose n from =
    let fewer = stretch-lost carries end (n - end) (λ k low high. same k low) in
    let all : end + (n - end) ≡ n = omega arith in
    let fewer : lost carries n ≤ lost carries end = rw all at fewer in
    omega (arith, fewer, lose)
lost-slip carries run end (window ∷ windows) same are lose n from =
    let first : end ≤ window.first = are.0 in
    let sign : window.slip + window.first < window.end = are.1 in
    let whole : (k : ℕ) → end ≤ k → k < window.first → carries k ≡ Whole =
    λ k low high. same k low ∙ carried-early window.first (window ∷ windows) k (omega arith, sign, are.2) high in
    let run' : ℕ = run_with run end window in
    let at_first = lost-first carries run end window first lose whole in
    let inside : (j : ℕ) → window.first + j ≤ window.end →
    lost carries (window.first + j) ≤ lost carries window.first +
    ((window.first + j + window.slip) - window.end) =
    λ j within. window-lost carries window j
    (λ k low high. same k (omega arith) ∙ carried-in window windows k low (omega arith)) within sign in
    let most = run-most run' window.end windows in
    elim (cases_lt n window.end) [
      | inl before ↦
          elim (cases_lt n window.first) [
            | inl early ↦
                let all : end + (n - end) ≡ n = omega arith in
                let fewer : lost carries n ≤ lost carries end =
                subst (λ n. lost carries n ≤ lost carries end) all
                (stretch-lost carries end (n - end) (λ k low high. whole k low (omega arith))) in
                omega (arith, fewer, lose)
            | inr late ↦
                let all : window.first + (n - window.first) ≡ n = omega arith in
                let more : lost carries n ≤ lost carries window.first + ((n + window.slip) - window.end) =
                subst (λ n. lost carries n ≤ lost carries window.first + ((n + window.slip) - window.end)) all
                (inside (n - window.first) (omega arith)) in
                let last = at_first.1 in
                omega (arith, more, last, most, before)
          ]
      | inr past ↦
          let all : window.first + (window.end - window.first) ≡ window.end = omega arith in
          let more : lost carries window.end ≤ lost carries window.first + ((window.end + window.slip) - window.end) =
          subst (λ n. lost carries n ≤ lost carries window.first + ((n + window.slip) - window.end)) all
          (inside (window.end - window.first) (omega arith)) in
          let last = at_first.1 in
          let rest = lost-slip carries run' window.end windows
          (λ k low. same k (omega arith) ∙ carried-after window windows k low) are.2
          (omega (arith, more, last)) n past in
          omega (arith, rest)
    ]

-- the numbers of a line are never further after than its slip
lost-none : (carries : ℕ → Carried) → lost carries 0 ≡ 0
unfolding lost
lost-none carries = refl

pub lost-slip_of : (windows : List Window) (n : ℕ) → AreWindows 0 windows → lost (carried windows) n ≤ slip_of windows
lost-slip_of windows n are = lost-slip (carried windows) 0 0 windows (λ k low. refl) are
    (omega (arith, lost-none (carried windows))) n (omega arith)
