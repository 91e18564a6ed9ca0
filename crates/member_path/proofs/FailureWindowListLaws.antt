-- Lists of failure windows: what is carried, open and closed windows, faults of lists, and sums of slips.
use Rattle.std.proofs.Common.{◌≡◌, ℕ, ◌+◌, ◌<◌, ◌≤◌, ◌&&◌, nat_le, nat_lt, true, false, if◌then◌else◌, fold, inl, inr}
use Rattle.std.proofs.Common.{List, [], ◌∷◌, ◌++◌, length, refl, sym, ◌∙◌, ap, subst, arith, append-nil, max, zero}
use Rattle.std.proofs.Common.{suc, drop, slice_get, slice_index_or, Some, None, ◌-◌, Bool, Option, ◌⊎◌, sum_by}
use Rattle.std.proofs.lemmas.Bool.{cases_Bool, cases_lt}
use Rattle.law_model.specs.Common.{carried_in, AreWindows, slip_after, slip_of, is_damaged}
use Rattle.law_model.specs.declared.window_types.Window.{Window}
use Rattle.law_model.specs.declared.window_types.Carried.TheVariants.{Whole, Fails, Vanishes}
use Rattle.law_model.specs.members.Damage.{carried}
use Rattle.law_model.proofs.WindowAndPathLaws.{carried-in, carried-after, carried-before}
use Rattle.member_path.specs.failure_window.OpenWindows.{CanClose, closed_at, failure, last_end, opened_at}
use Rattle.law_line.proofs.ContainerLockAndSlipLaws.{carried-early, run-most}
use Rattle.member_path.specs.failure_window.WindowsAbove.{IsFirstAbove}
use Rattle.std.specs.Prelude.{Contains}
use Rattle.std.proofs.lemmas.List.{at_drop_more, at_drop_all}
use Rattle.member_path.specs.declared.failure_window.window_fault.WindowFault.{WindowFault}
use Rattle.member_path.specs.declared.failure_window.window_fault.WindowFault.TheVariants.{Empty, Overlap, SlipTooLong}
use Rattle.member_path.specs.failure_window.FaultOfList.{fault_of, fault_or, fault_from}
use Rattle.member_path.specs.failure_window.NearWindows.{AreNear, IsRun}

-- ---- What comes of containers where the last window of a list is opened or closed.
-- where the last of some windows ends, if one that stands before them ends here
abbrev pub end_after : ℕ → List Window → ℕ
end_after from windows = fold (λ end window. window.end) from windows

-- ---- the windows stand in order, apart
pub end-rises : (from : ℕ) (windows : List Window) → AreWindows from windows → from ≤ end_after from windows
unfolding AreWindows
end-rises from [] are = omega arith
end-rises from (window ∷ windows) are =
    let first = are.0 in
    let sign = are.1 in
    let rest = end-rises window.end windows are.2 in
    omega (arith, first, sign, rest)

pub are-append : (from : ℕ) (windows : List Window) (window : Window) → AreWindows from windows →
    end_after from windows ≤ window.first → window.slip + window.first < window.end →
    AreWindows from (windows ++ window ∷ [])
unfolding AreWindows
are-append from [] window are after sign = (after, sign, tt)
are-append from (own ∷ windows) window are after sign =
    (are.0, are.1, are-append own.end windows window are.2 after sign)

-- the windows before the last one, where that begins, and its sign
pub are-front : (from : ℕ) (windows : List Window) (window : Window) → AreWindows from (windows ++ window ∷ []) →
    AreWindows from windows × (end_after from windows ≤ window.first) × (window.slip + window.first < window.end)
unfolding AreWindows
are-front from [] window are = (tt, are.0, are.1)
are-front from (own ∷ windows) window are =
    let rest = are-front own.end windows window are.2 in ((are.0, are.1, rest.0), rest.1, rest.2)

pub end-append : (from : ℕ) (windows : List Window) (window : Window) →
    end_after from (windows ++ window ∷ []) ≡ window.end
end-append from [] window = refl
end-append from (own ∷ windows) window = end-append own.end windows window

-- ---- what comes of a container
-- windows that damage it alike do so behind others
pub carried-append : (windows these those : List Window) (t : ℕ) → carried these t ≡ carried those t →
    carried (windows ++ these) t ≡ carried (windows ++ those) t
unfolding carried
carried-append [] these those t same = same
carried-append (window ∷ windows) these those t same =
    ap (λ c. if nat_le window.first t && nat_lt t window.end then carried_in window t else c)
    (carried-append windows these those t same)

-- windows behind which it lies don't damage it
pub carried-past : (from : ℕ) (windows these : List Window) (t : ℕ) → AreWindows from windows →
    end_after from windows ≤ t → carried (windows ++ these) t ≡ carried these t
unfolding AreWindows
carried-past from [] these t are past = refl
carried-past from (window ∷ windows) these t are past =
    let rises = end-rises window.end windows are.2 in
    carried-after window (windows ++ these) t (omega (arith, rises, past))
    ∙ carried-past window.end windows these t are.2 past

-- one window
one-outside : (window : Window) (t : ℕ) → (nat_le window.first t && nat_lt t window.end) ≡ false →
    carried (window ∷ []) t ≡ Whole
unfolding carried
one-outside window t outside = rw outside refl

pub one-before : (window : Window) (t : ℕ) → t < window.first → carried (window ∷ []) t ≡ Whole
one-before window t low = one-outside window t (grind (arith, low))

pub one-after : (window : Window) (t : ℕ) → window.end ≤ t → carried (window ∷ []) t ≡ Whole
one-after window t high = one-outside window t (grind (arith, high))

pub one-fails : (window : Window) (t : ℕ) → window.first ≤ t → t < window.end → window.slip ≡ 0 →
    carried (window ∷ []) t ≡ Fails
one-fails window t low high none =
    let fails : nat_lt (t + window.slip) window.end ≡ true = grind (arith, high, none) in
    carried-in window [] t low high ∙ rw fails refl

-- none
pub none-whole : (t : ℕ) → carried [] t ≡ Whole
unfolding carried
none-whole t = refl

-- ---- a window is opened
pub opened-as : (windows : List Window) (first total t : ℕ) →
    carried (record { first = first; end = total; slip = 0 } ∷ []) t ≡ Whole →
    carried (opened_at windows first total) t ≡ carried windows t
opened-as windows first total t whole =
    carried-append windows (record { first = first; end = total; slip = 0 } ∷ []) [] t (whole ∙ sym (none-whole t))
    ∙ ap (λ l. carried l t) (append-nil windows)

pub opened-before : (windows : List Window) (first total t : ℕ) → t < first →
    carried (opened_at windows first total) t ≡ carried windows t
opened-before windows first total t low =
    opened-as windows first total t (one-before (record { first = first; end = total; slip = 0 }) t low)

-- ---- a window is closed
pub closed-append : (before : List Window) (window : Window) (end : ℕ) →
    closed_at (before ++ window ∷ []) end ≡ before ++ failure window.first end
unfolding closed_at
closed-append [] window end = refl
closed-append (own ∷ []) window end = refl
closed-append (own ∷ (next ∷ before)) window end = ap (λ l. own ∷ l) (closed-append (next ∷ before) window end)

-- of its last window something is left, or nothing
pub closed-some : (windows before : List Window) (window : Window) (end : ℕ) → windows ≡ before ++ window ∷ [] →
    window.first < end →
    before ++ record { first = window.first; end = end; slip = 0 } ∷ [] ≡ closed_at windows end
closed-some windows before window end are some =
    let test : nat_lt window.first end ≡ true = grind (arith, some) in
    rw are (sym (closed-append before window end ∙ rw test refl))

pub closed-none : (windows before : List Window) (window : Window) (end : ℕ) → windows ≡ before ++ window ∷ [] →
    end ≤ window.first → before ≡ closed_at windows end
closed-none windows before window end are empty =
    let test : nat_lt window.first end ≡ false = grind (arith, empty) in
    rw are (sym (closed-append before window end ∙ rw test (append-nil before)))

-- its windows are those before the last one, and what is left of that
pub closed-is : (windows : List Window) (end : ℕ) (runs : CanClose windows end) →
    closed_at windows end ≡ runs.before ++ failure runs.window.first end
closed-is windows end runs =
    ap (λ l. closed_at l end) runs.are ∙ closed-append runs.before runs.window end

pub failure-before : (window : Window) (end t : ℕ) → window.first ≤ end → end < window.end → window.slip ≡ 0 →
    t < end → carried (failure window.first end) t ≡ carried (window ∷ []) t
failure-before window end t begun lasts none low =
    elim (cases_lt window.first end) [
      | inr empty ↦
          let test : nat_lt window.first end ≡ false = grind (arith, empty) in
          rw test (none-whole t ∙ sym (one-before window t (omega (arith, empty, low))))
      | inl some ↦
          let test : nat_lt window.first end ≡ true = grind (arith, some) in
          let left : Window = record { first = window.first; end = end; slip = 0 } in
          elim (cases_lt t window.first) [
            | inl early ↦ rw test (one-before left t early ∙ sym (one-before window t early))
            | inr from ↦
                rw test (one-fails left t from low refl
                ∙ sym (one-fails window t from (omega (arith, low, lasts)) none))
          ]
    ]

pub failure-after : (first end t : ℕ) → end ≤ t → carried (failure first end) t ≡ Whole
failure-after first end t high =
    elim (cases_lt first end) [
      | inr empty ↦ (let test : nat_lt first end ≡ false = grind (arith, empty) in rw test (none-whole t))
      | inl some ↦
          let test : nat_lt first end ≡ true = grind (arith, some) in
          rw test (one-after (record { first = first; end = end; slip = 0 }) t high)
    ]

pub closed-before : (windows : List Window) (end t : ℕ) → CanClose windows end → t < end →
    carried (closed_at windows end) t ≡ carried windows t
closed-before windows end t runs low =
    ap (λ l. carried l t) (closed-is windows end runs)
    ∙ carried-append runs.before (failure runs.window.first end) (runs.window ∷ []) t
    (failure-before runs.window end t runs.begun runs.lasts runs.slip low)
    ∙ ap (λ l. carried l t) (sym runs.are)

-- the windows before an open one
front : (windows : List Window) (end : ℕ) (runs : CanClose windows end) → AreWindows 0 windows →
    AreWindows 0 runs.before × (last_end runs.before ≤ runs.window.first) ×
    (runs.window.slip + runs.window.first < runs.window.end)
front windows end runs are = are-front 0 runs.before runs.window (subst (λ l. AreWindows 0 l) runs.are are)

pub closed-whole : (windows : List Window) (end t : ℕ) → AreWindows 0 windows → CanClose windows end → end ≤ t →
    carried (closed_at windows end) t ≡ Whole
closed-whole windows end t are runs high =
    let apart = front windows end runs are in
    let begun = runs.begun in
    ap (λ l. carried l t) (closed-is windows end runs)
    ∙ carried-past 0 runs.before (failure runs.window.first end) t apart.0 (let last = apart.1 in omega arith)
    ∙ failure-after runs.window.first end t high

-- ---- the list that is left
are-failure : (before : List Window) (first end : ℕ) → AreWindows 0 before → last_end before ≤ first →
    AreWindows 0 (before ++ failure first end)
are-failure before first end are last =
    elim (cases_lt first end) [
      | inr empty ↦
          let test : nat_lt first end ≡ false = grind (arith, empty) in
          rw test (subst (λ l. AreWindows 0 l) (sym (append-nil before)) are)
      | inl some ↦
          let test : nat_lt first end ≡ true = grind (arith, some) in
          rw test (are-append 0 before (record { first = first; end = end; slip = 0 }) are last (omega (arith, some)))
    ]

pub closed-are : (windows : List Window) (end : ℕ) → AreWindows 0 windows → CanClose windows end →
    AreWindows 0 (closed_at windows end)
closed-are windows end are runs =
    let apart = front windows end runs are in
    subst (λ l. AreWindows 0 l) (sym (closed-is windows end runs))
    (are-failure runs.before runs.window.first end apart.0 apart.1)

last-failure : (before : List Window) (first end : ℕ) → last_end before ≤ first → first ≤ end →
    last_end (before ++ failure first end) ≤ end
last-failure before first end last begun =
    elim (cases_lt first end) [
      | inr empty ↦
          let test : nat_lt first end ≡ false = grind (arith, empty) in
          rw test (rw (append-nil before) (omega (arith, last, begun)))
      | inl some ↦
          let test : nat_lt first end ≡ true = grind (arith, some) in
          let is = end-append 0 before (record { first = first; end = end; slip = 0 }) in
          rw test (omega (arith, is))
    ]

pub closed-last : (windows : List Window) (end : ℕ) → AreWindows 0 windows → CanClose windows end →
    last_end (closed_at windows end) ≤ end
closed-last windows end are runs =
    let apart = front windows end runs are in
    rw (closed-is windows end runs) (last-failure runs.before runs.window.first end apart.1 runs.begun)

length-failure : (first end : ℕ) → length (failure first end) ≤ 1
length-failure first end =
    elim (cases_lt first end) [
      | inr empty ↦ (let test : nat_lt first end ≡ false = grind (arith, empty) in rw test (omega arith))
      | inl some ↦ (let test : nat_lt first end ≡ true = grind (arith, some) in rw test (omega arith))
    ]

pub closed-count : (windows : List Window) (end : ℕ) → length (closed_at windows end) ≤ length windows
unfolding closed_at
closed-count [] end = omega arith
closed-count (window ∷ []) end = length-failure window.first end
closed-count (window ∷ (next ∷ windows)) end =
    let rest = closed-count (next ∷ windows) end in omega (arith, rest)

-- ---- a window without slip changes no slip
slip-append : (run end : ℕ) (windows : List Window) (window : Window) → window.slip ≡ 0 →
    slip_after run end (windows ++ window ∷ []) ≡ slip_after run end windows
unfolding slip_after
slip-append run end [] window none =
    elim (cases_Bool (nat_lt window.first (end + 17)))
    [ inl near ↦ rw near (omega arith) | inr far ↦ rw far (omega arith) ]
slip-append run end (own ∷ windows) window none =
    ap (max run) (slip-append (if nat_lt own.first (end + 17) then run + own.slip else own.slip) own.end windows window none)

pub opened-slip : (windows : List Window) (first total : ℕ) → slip_of (opened_at windows first total) ≡ slip_of windows
opened-slip windows first total = slip-append 0 0 windows (record { first = first; end = total; slip = 0 }) refl

slip-failure : (before : List Window) (first end : ℕ) → slip_of (before ++ failure first end) ≡ slip_of before
slip-failure before first end =
    elim (cases_lt first end) [
      | inr empty ↦
          let test : nat_lt first end ≡ false = grind (arith, empty) in rw test (ap slip_of (append-nil before))
      | inl some ↦ (let test : nat_lt first end ≡ true = grind (arith, some) in rw test (opened-slip before first end))
    ]

pub closed-slip : (windows : List Window) (end : ℕ) → CanClose windows end →
    slip_of (closed_at windows end) ≡ slip_of windows
closed-slip windows end runs =
    ap slip_of (closed-is windows end runs)
    ∙ slip-failure runs.before runs.window.first end
    ∙ sym (slip-append 0 0 runs.before runs.window runs.slip)
    ∙ ap slip_of (sym runs.are)

-- ---- What a window at the front of a list does to a container.
-- the windows after the first ones begin after the end of the last of these
pub are-drop : (from : ℕ) (windows : List Window) (i : ℕ) → AreWindows from windows → (end : ℕ) ×
    AreWindows end (drop i windows)
unfolding AreWindows
are-drop from windows zero are = (from, are)
are-drop from [] (suc i) are = (from, are)
are-drop from (window ∷ windows) (suc i) are = are-drop window.end windows i are.2

-- windows that end before a container don't damage it
pub carried-drop : (windows : List Window) (n i : ℕ) →
    ((k : ℕ) (d : Window) → k < i → k < length windows → (slice_index_or windows k d).end ≤ n) →
    carried windows n ≡ carried (drop i windows) n
carried-drop windows n zero ended = refl
carried-drop [] n (suc i) ended = refl
carried-drop (window ∷ windows) n (suc i) ended =
    carried-after window windows n (ended 0 window (omega arith) (omega arith))
    ∙ carried-drop windows n i (λ k d before within. ended (suc k) d (omega arith) (omega arith))

-- the end of each is above where the first of them may begin
end-before : (from : ℕ) (windows : List Window) (j : ℕ) (d : Window) → AreWindows from windows → j < length windows →
    from ≤ (slice_index_or windows j d).end
unfolding AreWindows
end-before from [] j d are within = absurd (omega arith)
end-before from (window ∷ windows) zero d are within = let first = are.0 in let sign = are.1 in omega arith
end-before from (window ∷ windows) (suc j) d are within =
    let first = are.0 in
    let sign = are.1 in
    let rest = end-before window.end windows j d are.2 (omega arith) in
    omega (arith, rest)

-- their ends rise
pub ends-rise : (from : ℕ) (windows : List Window) (i j : ℕ) (d : Window) → AreWindows from windows → i ≤ j →
    j < length windows →
    (slice_index_or windows i d).end ≤ (slice_index_or windows j d).end
unfolding AreWindows
ends-rise from [] i j d are before within = absurd (omega arith)
ends-rise from (window ∷ windows) zero zero d are before within = omega arith
ends-rise from (window ∷ windows) (suc i) zero d are before within = absurd (omega arith)
ends-rise from (window ∷ windows) zero (suc j) d are before within =
    end-before window.end windows j d are.2 (omega arith)
ends-rise from (window ∷ windows) (suc i) (suc j) d are before within =
    ends-rise window.end windows i j d are.2 (omega arith) (omega arith)

-- the first window that ends above a container says what comes of it
pub first-ends : (windows : List Window) (n : ℕ) (window : Window) → IsFirstAbove n windows →
    Some window ≡ slice_get windows 0 → n < window.end
unfolding IsFirstAbove
first-ends [] n window above is = absurd cc
first-ends (own ∷ windows) n window above is = (let same : window ≡ own = cc in rw same above.0)

pub first-in : (windows : List Window) (n : ℕ) (window : Window) → IsFirstAbove n windows →
    Some window ≡ slice_get windows 0 →
    window.first ≤ n → carried windows n ≡ carried_in window n
unfolding IsFirstAbove
first-in [] n window above is low = absurd cc
first-in (own ∷ windows) n window above is low =
    let same : window ≡ own = cc in
    let from : own.first ≤ n = rw same at low in
    let high = above.0 in
    carried-in own windows n from high ∙ ap (λ w. carried_in w n) (sym same)

pub first-before : (windows : List Window) (n : ℕ) (window : Window) → IsFirstAbove n windows →
    Some window ≡ slice_get windows 0 →
    n < window.first → Whole ≡ carried windows n
unfolding IsFirstAbove
first-before [] n window above is low = absurd cc
first-before (own ∷ windows) n window above is low =
    let same : window ≡ own = cc in
    let before : n < own.first = rw same at low in
    let high = above.0 in
    sym (carried-before own windows n before ∙ carried-early own.end windows n above.1 high)

pub first-none : (windows : List Window) (n : ℕ) → None ≡ slice_get windows 0 → Whole ≡ carried windows n
unfolding carried
first-none [] n is = refl
first-none (window ∷ windows) n is = absurd cc

pub first-above : (from : ℕ) (windows : List Window) (n i : ℕ) → AreWindows from windows → i ≤ length windows →
    ((k : ℕ) (d : Window) → i ≤ k → k < length windows → n < (slice_index_or windows k d).end) →
    IsFirstAbove n (drop i windows)
unfolding AreWindows IsFirstAbove
first-above from [] n zero are within above = tt
first-above from [] n (suc i) are within above = tt
first-above from (window ∷ windows) n zero are within above = (above 0 window (omega arith) (omega arith), are.2)
first-above from (window ∷ windows) n (suc i) are within above =
    first-above window.end windows n i are.2 (omega arith)
    (λ k d from within. above (suc k) d (omega arith) (omega arith))

-- ---- Which containers are damaged, and how.
broken : (b : Bool) → (if b then Fails else Vanishes) ≡ Whole → ⊥
broken true same = cc
broken false same = cc

-- a container arrives where no window names it, and nowhere else
pub whole-undamaged : (windows : List Window) (t : ℕ) → carried windows t ≡ Whole → is_damaged windows t ≡ false
unfolding carried
whole-undamaged [] t whole = refl
whole-undamaged (window ∷ windows) t whole =
    elim (cases_Bool (nat_le window.first t && nat_lt t window.end)) [
      | inl inside ↦ absurd (broken (nat_lt (t + window.slip) window.end) (rw inside at whole))
      | inr outside ↦ rw outside (whole-undamaged windows t (rw outside at whole))
    ]

pub undamaged-whole : (windows : List Window) (t : ℕ) → is_damaged windows t ≡ false → carried windows t ≡ Whole
unfolding carried
undamaged-whole [] t none = refl
undamaged-whole (window ∷ windows) t none =
    elim (cases_Bool (nat_le window.first t && nat_lt t window.end)) [
      | inl inside ↦ absurd (let e : true ≡ false = rw inside at none in cc)
      | inr outside ↦ rw outside (undamaged-whole windows t (rw outside at none))
    ]

-- in a list without a fault the window that names a container says what comes of it
named : (from : ℕ) (windows : List Window) (k : ℕ) (d : Window) (t : ℕ) → AreWindows from windows → k < length windows →
    (slice_index_or windows k d).first ≤ t → t < (slice_index_or windows k d).end →
    (from ≤ t) × (carried windows t ≡ carried_in (slice_index_or windows k d) t)
unfolding AreWindows
named from [] k d t are within low high = absurd (omega arith)
named from (window ∷ windows) zero d t are within low high =
    let first = are.0 in (omega arith, carried-in window windows t low high)
named from (window ∷ windows) (suc k) d t are within low high =
    let rest = named window.end windows k d t are.2 (omega arith) low high in
    let first = are.0 in
    let sign = are.1 in
    let late = rest.0 in
    (omega arith, carried-after window windows t late ∙ rest.1)

signed : (from : ℕ) (windows : List Window) (k : ℕ) (d : Window) → AreWindows from windows → k < length windows →
    (slice_index_or windows k d).slip + (slice_index_or windows k d).first < (slice_index_or windows k d).end
unfolding AreWindows
signed from [] k d are within = absurd (omega arith)
signed from (window ∷ windows) zero d are within = are.1
signed from (window ∷ windows) (suc k) d are within = signed window.end windows k d are.2 (omega arith)

pub contained-fails : (windows : List Window) (window : Window) (t : ℕ) → AreWindows 0 windows →
    Contains windows window →
    window.first ≤ t → t < window.end - window.slip → carried windows t ≡ Fails
contained-fails windows window t are (k, within, is) low high =
    let sign : window.slip + window.first < window.end = rw is at (signed 0 windows k window are within) in
    let here : carried windows t ≡ carried_in window t =
    rw is at ((named 0 windows k window t are within (rw is low) (rw is (omega arith))).1) in
    let test : nat_lt (t + window.slip) window.end ≡ true = grind (arith, sign, high) in
    here ∙ rw test refl

pub contained-vanishes : (windows : List Window) (window : Window) (t : ℕ) → AreWindows 0 windows →
    Contains windows window →
    window.end - window.slip ≤ t → t < window.end → carried windows t ≡ Vanishes
contained-vanishes windows window t are (k, within, is) low high =
    let sign : window.slip + window.first < window.end = rw is at (signed 0 windows k window are within) in
    let here : carried windows t ≡ carried_in window t =
    rw is at ((named 0 windows k window t are within (rw is (omega arith)) (rw is high)).1) in
    let test : nat_lt (t + window.slip) window.end ≡ false = grind (arith, sign, low) in
    here ∙ rw test refl

-- ---- Lists without a fault.
-- a window without a fault stands after the one before it and gives a sign
fine : (i end : ℕ) (window : Window) → fault_of i end window ≡ None → (end ≤ window.first) ×
    (window.slip + window.first < window.end)
fine i end window none =
    elim (cases_lt window.first window.end) [
      | inr empty ↦ absurd (let test : nat_le window.end window.first ≡ true = grind (arith, empty) in
          let e : Some (Empty i) ≡ None = rw test at none in cc)
      | inl some ↦
          let test : nat_le window.end window.first ≡ false = grind (arith, some) in
          elim (cases_lt window.first end) [
            | inl over ↦ absurd (let other : nat_lt window.first end ≡ true = grind (arith, over) in
                let e : Some (Overlap i) ≡ None = rw (test, other) at none in cc)
            | inr apart ↦
                let other : nat_lt window.first end ≡ false = grind (arith, apart) in
                elim (cases_lt window.slip (window.end - window.first)) [
                  | inr long ↦ absurd (
                      let last : nat_le (window.end - window.first) window.slip ≡ true = grind (arith, long) in
                      let e : Some (SlipTooLong i) ≡ None = rw (test, other, last) at none in cc)
                  | inl short ↦ (omega arith, omega arith)
                ]
          ]
    ]

no_fault : (i end : ℕ) (window : Window) → end ≤ window.first → window.slip + window.first < window.end →
    fault_of i end window ≡ None
no_fault i end window apart sign =
    let some : nat_le window.end window.first ≡ false = grind (arith, sign) in
    let other : nat_lt window.first end ≡ false = grind (arith, apart) in
    let last : nat_le (window.end - window.first) window.slip ≡ false = grind (arith, sign) in
    rw (some, other, last) refl

none-both : (first later : Option WindowFault) → fault_or first later ≡ None → (first ≡ None) × (later ≡ None)
none-both (Some fault) later none = absurd cc
none-both None later none = (refl, none)

pub none-are : (i end : ℕ) (windows : List Window) → fault_from i end windows ≡ None → AreWindows end windows
unfolding fault_from AreWindows
none-are i end [] none = tt
none-are i end (window ∷ windows) none =
    let both = none-both (fault_of i end window) (fault_from (suc i) window.end windows) none in
    let own = fine i end window both.0 in
    (own.0, own.1, none-are (suc i) window.end windows both.1)

pub are-none : (i end : ℕ) (windows : List Window) → AreWindows end windows → fault_from i end windows ≡ None
unfolding fault_from AreWindows
are-none i end [] are = refl
are-none i end (window ∷ windows) are =
    rw (no_fault i end window are.0 are.1) (are-none (suc i) window.end windows are.2)

-- one window on: it has no fault, or its fault is the first one
pub fault-more : (i end : ℕ) (windows : List Window) (d : Window) → i < length windows →
    fault_of i end (slice_index_or windows i d) ≡ None →
    fault_from i end (drop i windows) ≡ fault_from (i + 1) (slice_index_or windows i d).end (drop (i + 1) windows)
unfolding fault_from
fault-more i end windows d within none =
    at_drop_more (fault_from i end) windows i d within
    ∙ rw none (ap (λ n. fault_from n (slice_index_or windows i d).end (drop (i + 1) windows))
    (let e : suc i ≡ i + 1 = omega arith in e))

pub fault-here : (i end : ℕ) (windows : List Window) (d : Window) (fault : WindowFault) → i < length windows →
    fault_of i end (slice_index_or windows i d) ≡ Some fault → fault_from i end (drop i windows) ≡ Some fault
unfolding fault_from
fault-here i end windows d fault within is = at_drop_more (fault_from i end) windows i d within ∙ rw is refl

pub fault-end : (i end : ℕ) (windows : List Window) → length windows ≤ i → fault_from i end (drop i windows) ≡ None
unfolding fault_from
fault-end i end windows past = at_drop_all (fault_from i end) windows i past

-- ---- Sums of slips over runs of windows each near the one before.
-- the sum of the slips of windows, after a sum so far
abbrev pub sum_after : ℕ → List Window → ℕ
sum_after so_far windows = fold (λ a window. a + window.slip) so_far windows

-- the sum of the run that a window ends
abbrev pub run_with : ℕ → ℕ → Window → ℕ
run_with run end window = if nat_lt window.first (end + 17) then run + window.slip else window.slip

sum-grows : (a b : ℕ) (windows : List Window) → a ≤ b → sum_after a windows ≤ sum_after b windows
sum-grows a b [] less = less
sum-grows a b (window ∷ windows) less = sum-grows (a + window.slip) (b + window.slip) windows (omega arith)

later-most : (run end : ℕ) (window : Window) (windows : List Window) →
    slip_after (run_with run end window) window.end windows ≤ slip_after run end (window ∷ windows)
unfolding slip_after
later-most run end window windows = omega arith

-- a run that goes on
near-most : (so_far end : ℕ) (run later : List Window) → AreNear end run →
    sum_after so_far run ≤ slip_after so_far end (run ++ later)
unfolding AreNear
near-most so_far end [] later near = run-most so_far end later
near-most so_far end (window ∷ run) later near =
    let rest = near-most (so_far + window.slip) window.end run later near.1 in
    let all = later-most so_far end window (run ++ later) in
    let test : nat_lt window.first (end + 17) ≡ true = (let first = near.0 in grind (arith, first)) in
    omega (arith, rest, rw test at all)

run_with-most : (so_far end : ℕ) (window : Window) → window.slip ≤ run_with so_far end window
run_with-most so_far end window =
    elim (cases_Bool (nat_lt window.first (end + 17)))
    [ inl near ↦ rw near (omega arith) | inr far ↦ rw far (omega arith) ]

-- a run that begins
run-first : (so_far end : ℕ) (run later : List Window) → IsRun run →
    sum_by (λ window. window.slip) run ≤ slip_after so_far end (run ++ later)
run-first so_far end [] later near = omega arith
run-first so_far end (window ∷ run) later near =
    let more = sum-grows (0 + window.slip) (run_with so_far end window) run
    (omega (arith, run_with-most so_far end window)) in
    let rest = near-most (run_with so_far end window) window.end run later near in
    omega (arith, more, rest, later-most so_far end window (run ++ later))

pub slip-most : (so_far end : ℕ) (before run later : List Window) → IsRun run →
    sum_by (λ window. window.slip) run ≤ slip_after so_far end (before ++ (run ++ later))
slip-most so_far end [] run later near = run-first so_far end run later near
slip-most so_far end (window ∷ before) run later near =
    let rest = slip-most (run_with so_far end window) window.end before run later near in
    omega (arith, rest, later-most so_far end window (before ++ (run ++ later)))

-- where the greatest sum comes from: the run so far goes on, or another one begins
pub record GoesOn (so_far end : ℕ) (windows : List Window) : Type 0 where
  pub run : List Window
  pub later : List Window
  pub are : windows ≡ run ++ later
  pub near : AreNear end run
  pub sum : slip_after so_far end windows ≡ sum_after so_far run

pub record Begins (greatest : ℕ) (windows : List Window) : Type 0 where
  pub before : List Window
  pub run : List Window
  pub later : List Window
  pub are : windows ≡ before ++ (run ++ later)
  pub near : IsRun run
  pub sum : greatest ≡ sum_by (λ window. window.slip) run

-- the run so far ends here with the greatest sum
ends-here : (so_far end : ℕ) (windows : List Window) → slip_after so_far end windows ≡ so_far →
    GoesOn so_far end windows
unfolding AreNear
ends-here so_far end windows same = record { run = []; later = windows; are = refl; near = tt; sum = same }

one-more : (so_far end : ℕ) (window : Window) (windows : List Window) (near : Bool) →
    nat_lt window.first (end + 17) ≡ near →
    slip_after so_far end (window ∷ windows) ≡ slip_after (run_with so_far end window) window.end windows →
    GoesOn (if near then so_far + window.slip else window.slip) window.end windows →
    GoesOn so_far end (window ∷ windows) ⊎ Begins (slip_after so_far end (window ∷ windows)) (window ∷ windows)
unfolding AreNear
one-more so_far end window windows true test same on = inl (record {
  run = window ∷ on.run;
  later = on.later;
  are = ap (λ l. window ∷ l) on.are;
  near = ((let first : window.first < end + 17 = grind (arith, test) in first), on.near);
  sum = same ∙ rw test on.sum;
})
one-more so_far end window windows false test same on = inr (record {
  before = [];
  run = window ∷ on.run;
  later = on.later;
  are = ap (λ l. window ∷ l) on.are;
  near = on.near;
  sum = same ∙ rw test (on.sum ∙ ap (λ a. sum_after a on.run)
      (let e : window.slip ≡ 0 + window.slip = omega arith in e));
})

pub greatest : (so_far end : ℕ) (windows : List Window) →
    GoesOn so_far end windows ⊎ Begins (slip_after so_far end windows) windows
unfolding slip_after
greatest so_far end [] = inl (ends-here so_far end [] refl)
greatest so_far end (window ∷ windows) =
    let run : ℕ = run_with so_far end window in
    elim (cases_lt (slip_after run window.end windows) so_far) [
      | inl less ↦ inl (ends-here so_far end (window ∷ windows) (omega arith))
      | inr most ↦
          let same : slip_after so_far end (window ∷ windows) ≡ slip_after run window.end windows = omega arith in
          elim (greatest run window.end windows) [
            | inl on ↦ one-more so_far end window windows (nat_lt window.first (end + 17)) refl same on
            | inr other ↦ inr (record {
              before = window ∷ other.before;
              run = other.run;
              later = other.later;
              are = ap (λ l. window ∷ l) other.are;
              near = other.near;
              sum = same ∙ other.sum;
            })
          ]
    ]

is-run : (end : ℕ) (run : List Window) → AreNear end run → IsRun run
unfolding AreNear
is-run end [] near = tt
is-run end (window ∷ run) near = near.1

pub slip-reached : (windows : List Window) → Begins (slip_of windows) windows
slip-reached windows = elim (greatest 0 0 windows) [
  | inl on ↦ record {
    before = [];
    run = on.run;
    later = on.later;
    are = on.are;
    near = is-run 0 on.run on.near;
    sum =
        on.sum;
  }
  | inr other ↦ other
]

-- one window on
pub slip-step : (run end most : ℕ) (windows : List Window) (i : ℕ) (d : Window) (next greatest : ℕ) →
    i < length windows → run ≤ most →
    next ≡ run_with run end (slice_index_or windows i d) → greatest ≡ max next most →
    max greatest (slip_after next (slice_index_or windows i d).end (drop (i + 1) windows)) ≡ max most
    (slip_after run end (drop i windows))
unfolding slip_after
slip-step run end most windows i d next greatest within less sum is =
    let window : Window = slice_index_or windows i d in
    let step = at_drop_more (slip_after run end) windows i d within in
    let first = run-most next window.end (drop (i + 1) windows) in
    let same : slip_after (run_with run end window) window.end (drop (i + 1) windows) ≡ slip_after next window.end
    (drop (i + 1) windows) =
    ap (λ n. slip_after n window.end (drop (i + 1) windows)) (sym sum) in
    omega (arith, step, first, same)

pub slip-end : (run end most : ℕ) (windows : List Window) (i : ℕ) → length windows ≤ i → run ≤ most →
    max most (slip_after run end (drop i windows)) ≡ most
unfolding slip_after
slip-end run end most windows i past less = let last = at_drop_all (slip_after run end) windows i past in
    omega (arith, last)

pub are-more : (end : ℕ) (windows : List Window) (i : ℕ) (d : Window) → i < length windows →
    AreWindows end (drop i windows) →
    (end ≤ (slice_index_or windows i d).first) ×
    ((slice_index_or windows i d).slip + (slice_index_or windows i d).first < (slice_index_or windows i d).end) ×
    AreWindows (slice_index_or windows i d).end (drop (i + 1) windows)
unfolding AreWindows
are-more end windows i d within are =
    let next : drop i windows ≡ slice_index_or windows i d ∷ drop (i + 1) windows =
    at_drop_more (λ l. l) windows i d within in
    rw next at are
