-- How many alarms the cells of a line raise, by its containers and windows.
use Rattle.std.proofs.Common.{◌≡◌, ℕ, suc, ◌+◌, ◌*◌, ◌<◌, ◌≤◌, ◌-◌, nat_lt, Bool, true, false, if◌then◌else◌, List, []}
use Rattle.std.proofs.Common.{◌∷◌, ◌++◌, length, take, refl, sym, ap, ◌∙◌, arith, append_assoc, length-append}
use Rattle.std.proofs.lemmas.List.{append-nil}
use Rattle.law_line.proofs.ContainerLockAndSlipLaws.{carried-early}
use native.Mathlib.Decide.{dec_le}
use Rattle.law_model.specs.Common.{Container, Cell, Good, Fail, End, carried_in, AreWindows, cells_of, path, end_of}
use Rattle.law_model.specs.declared.window_types.Window.{Window}
use Rattle.law_model.specs.declared.window_types.Carried.{Carried}
use Rattle.law_model.specs.declared.window_types.Carried.TheVariants.{Whole, Fails, Vanishes}
use Rattle.law_model.specs.members.Damage.{carried}
use Rattle.law_model.proofs.WindowAndPathLaws.{carried-in, carried-after}
use Rattle.thread_rings.specs.declared.alarm_kinds.Alarm.{Alarm}
use Rattle.thread_rings.specs.declared.alarm_kinds.AlarmKind.TheVariants.{Ends}
use Rattle.thread_rings.specs.LineAlarms.{alarm_at, return_of, failure_of, alarms_from, alarms_of_line}
use Rattle.thread_alarms.specs.alarm_law.AlarmCounts.{AreFew, AreKept}

-- The number of alarms of a line, by its containers: before a window, and within one.
-- ---- more cells
pub kept-from : (m i : ℕ) (failed : Bool) (sent more : List Cell)
    → (later : List Alarm) × (alarms_from m i failed (sent ++ more) ≡ alarms_from m i failed sent ++ later)
unfolding alarms_from
kept-from m i failed [] more = (alarms_from m i failed more, refl)
kept-from m i failed (Good c ∷ sent) more =
    let h = kept-from m (suc i) false sent more in (
      h.0,
      ap (λ l. return_of m i failed ++ l) h.1
          ∙ sym (append_assoc (return_of m i failed) (alarms_from m (suc i) false sent) h.0),
    )
kept-from m i failed (Fail ∷ sent) more =
    let h = kept-from m (suc i) true sent more in (
      h.0,
      ap (λ l. failure_of m i failed ++ l) h.1
          ∙ sym (append_assoc (failure_of m i failed) (alarms_from m (suc i) true sent) h.0),
    )
kept-from m i failed (End ∷ sent) more = let h = kept-from m (suc i) false sent more in
    (h.0, ap (λ l. alarm_at m i Ends ∷ l) h.1)

pub are_kept : AreKept
are_kept m sent more = kept-from m 0 false sent more

end-more : (m i : ℕ) (failed : Bool) (sent : List Cell) → length (alarms_from m i failed (sent ++ End ∷ []))
    ≡ length (alarms_from m i failed sent) + 1
unfolding alarms_from
end-more m i failed [] = refl
end-more m i failed (Good c ∷ sent) =
    let a = length-append (return_of m i failed) (alarms_from m (suc i) false (sent ++ End ∷ [])) in
    let b = length-append (return_of m i failed) (alarms_from m (suc i) false sent) in
    let h = end-more m (suc i) false sent in
    omega (arith, a, b, h)
end-more m i failed (Fail ∷ sent) =
    let a = length-append (failure_of m i failed) (alarms_from m (suc i) true (sent ++ End ∷ [])) in
    let b = length-append (failure_of m i failed) (alarms_from m (suc i) true sent) in
    let h = end-more m (suc i) true sent in
    omega (arith, a, b, h)
end-more m i failed (End ∷ sent) = let h = end-more m (suc i) false sent in omega (arith, h)

-- ---- the cells of containers
abbrev one_if : Bool → ℕ
one_if true = 1
one_if false = 0

return-size : (m i : ℕ) (failed : Bool) → length (return_of m i failed) ≡ one_if failed
return-size m i true = refl
return-size m i false = refl

failure-size : (m i : ℕ) (failed : Bool) → length (failure_of m i failed) + one_if failed ≡ 1
failure-size m i true = refl
failure-size m i false = refl

whole-size : (carries : ℕ → Carried) (m n i : ℕ) (failed : Bool) (c : Container) (cs : List Container)
    → carries n ≡ Whole
    → length (alarms_from m i failed (path carries n (c ∷ cs)))
    ≡ one_if failed + length (alarms_from m (suc i) false (path carries (suc n) cs))
unfolding alarms_from path
whole-size carries m n i failed c cs e =
    ap (λ x. length (alarms_from m i failed (cells_of x c ++ path carries (suc n) cs))) e
    ∙ length-append (return_of m i failed) (alarms_from m (suc i) false (path carries (suc n) cs))
    ∙ ap (λ k. k + length (alarms_from m (suc i) false (path carries (suc n) cs))) (return-size m i failed)

fails-size : (carries : ℕ → Carried) (m n i : ℕ) (failed : Bool) (c : Container) (cs : List Container)
    → carries n ≡ Fails
    → length (alarms_from m i failed (path carries n (c ∷ cs)))
    ≡ length (failure_of m i failed) + length (alarms_from m (suc i) true (path carries (suc n) cs))
unfolding alarms_from path
fails-size carries m n i failed c cs e =
    ap (λ x. length (alarms_from m i failed (cells_of x c ++ path carries (suc n) cs))) e
    ∙ length-append (failure_of m i failed) (alarms_from m (suc i) true (path carries (suc n) cs))

vanishes-size : (carries : ℕ → Carried) (m n i : ℕ) (failed : Bool) (c : Container) (cs : List Container)
    → carries n ≡ Vanishes
    → length (alarms_from m i failed (path carries n (c ∷ cs)))
    ≡ length (alarms_from m i failed (path carries (suc n) cs))
unfolding alarms_from path
vanishes-size carries m n i failed c cs e =
    ap (λ x. length (alarms_from m i failed (cells_of x c ++ path carries (suc n) cs))) e

none-size : (carries : ℕ → Carried) (m n i : ℕ) (failed : Bool)
    → length (alarms_from m i failed (path carries n [])) ≡ 0
unfolding alarms_from path
none-size carries m n i failed = refl

-- no window that is left has begun
abbrev IsAhead : ℕ → List Window → Type 0
IsAhead n [] = Unit {0}
IsAhead n (w ∷ ws) = n ≤ w.first

abbrev Ahead : (ℕ → Carried) → ℕ → ℕ → List Container → Type 0
Ahead carries m n cs = (i from : ℕ) (ws : List Window) (failed : Bool) → ((k : ℕ) → n ≤ k → carries k ≡ carried ws k)
    → AreWindows from ws → IsAhead n ws
    → length (alarms_from m i failed (path carries n cs)) ≤ 2 * length ws + one_if failed

abbrev Inside : (ℕ → Carried) → ℕ → ℕ → List Container → Type 0
Inside carries m n cs = (i from : ℕ) (w : Window) (rest : List Window)
    → ((k : ℕ) → n ≤ k → carries k ≡ carried (w ∷ rest) k) → AreWindows from (w ∷ rest)
    → w.first < n → n < w.end → length (alarms_from m i true (path carries n cs)) ≤ 2 * length rest + 1

ahead-of : (end n : ℕ) (rest : List Window) → AreWindows end rest → n ≤ end → IsAhead n rest
unfolding AreWindows
ahead-of end n [] are le = tt
ahead-of end n (w ∷ rest) are le = let first = are.0 in omega (arith, first, le)

-- after a container of a window
goes-on : (carries : ℕ → Carried) (m n : ℕ) (cs : List Container)
    → Ahead carries m (suc n) cs × Inside carries m (suc n) cs
    → (i from : ℕ) (w : Window) (rest : List Window) → ((k : ℕ) → n ≤ k → carries k ≡ carried (w ∷ rest) k)
    → AreWindows from (w ∷ rest)
    → w.first ≤ n → n < w.end → length (alarms_from m i true (path carries (suc n) cs)) ≤ 2 * length rest + 1
unfolding AreWindows
goes-on carries m n cs next i from w rest same are low high = elim (dec_le w.end (suc n)) [
  | yes over ↦ next.0 i w.end rest true (λ k above. same k (omega (arith, above))
      ∙ carried-after w rest k (omega (arith, above, over))) are.2
      (ahead-of w.end (suc n) rest are.2 (omega (arith, high)))
  | no within ↦ next.1 i from w rest (λ k above. same k (omega (arith, above))) are (omega (arith, low))
      (omega (arith, within))
]

in-fails : (w : Window) (n : ℕ) → n + w.slip < w.end → carried_in w n ≡ Fails
in-fails w n below = let test : nat_lt (n + w.slip) w.end ≡ true = grind (arith, below) in rw test refl

in-vanishes : (w : Window) (n : ℕ) → w.end ≤ n + w.slip → carried_in w n ≡ Vanishes
in-vanishes w n above = let test : nat_lt (n + w.slip) w.end ≡ false = grind (arith, above) in rw test refl

ahead-step : (carries : ℕ → Carried) (m n : ℕ) (c : Container) (cs : List Container)
    → Ahead carries m (suc n) cs × Inside carries m (suc n) cs → Ahead carries m n (c ∷ cs)
unfolding AreWindows carried
ahead-step carries m n c cs next i from [] failed same are ahead =
    let size = whole-size carries m n i failed c cs (same n (omega arith)) in
    let rest = next.0 (suc i) from [] false (λ k above. same k (omega (arith, above))) are tt in
    omega (arith, size, rest)
ahead-step carries m n c cs next i from (w ∷ ws) failed same are ahead = elim (dec_le w.first n) [
  | yes at ↦
      let sign = are.1 in
      let here : carries n ≡ Fails = same n (omega arith) ∙ carried-in w ws n at (omega (arith, ahead, sign))
      ∙ in-fails w n (omega (arith, ahead, sign)) in
      let size = fails-size carries m n i failed c cs here in
      let one = failure-size m i failed in
      let rest = goes-on carries m n cs next (suc i) from w ws same are at (omega (arith, ahead, sign)) in
      omega (arith, size, one, rest)
  | no before ↦
      let here : carries n ≡ Whole = same n (omega arith) ∙ carried-early w.first (w ∷ ws) n
      (let z : w.first ≤ w.first = omega arith in (z, are.1, are.2)) (omega (arith, before)) in
      let size = whole-size carries m n i failed c cs here in
      let rest = next.0 (suc i) from (w ∷ ws) false (λ k above. same k (omega (arith, above))) are
      (omega (arith, before)) in
      omega (arith, size, rest)
]

inside-step : (carries : ℕ → Carried) (m n : ℕ) (c : Container) (cs : List Container)
    → Ahead carries m (suc n) cs × Inside carries m (suc n) cs → Inside carries m n (c ∷ cs)
inside-step carries m n c cs next i from w ws same are low high =
    let here = same n (omega arith) ∙ carried-in w ws n (omega (arith, low)) high in
    elim (dec_le w.end (n + w.slip)) [
      | yes last ↦
          let size = vanishes-size carries m n i true c cs (here ∙ in-vanishes w n last) in
          let rest = goes-on carries m n cs next i from w ws same are (omega (arith, low)) high in
          omega (arith, size, rest)
      | no sign ↦
          let size = fails-size carries m n i true c cs (here ∙ in-fails w n (omega (arith, sign))) in
          let rest = goes-on carries m n cs next (suc i) from w ws same are (omega (arith, low)) high in
          omega (arith, size, rest)
    ]

few-from : (carries : ℕ → Carried) (m n : ℕ) (cs : List Container) → Ahead carries m n cs × Inside carries m n cs
few-from carries m n [] = (
  (λ i from ws failed same are ahead. let h = none-size carries m n i failed in omega (arith, h)),
  (λ i from w rest same are low high. let h = none-size carries m n i true in omega (arith, h)),
)
few-from carries m n (c ∷ cs) = let next = few-from carries m (suc n) cs in
    (ahead-step carries m n c cs next, inside-step carries m n c cs next)

ahead-all : (ws : List Window) → IsAhead 0 ws
ahead-all [] = tt
ahead-all (w ∷ ws) = omega arith

with-end : (m total n : ℕ) (sent : List Cell) → length (alarms_of_line m (sent ++ end_of total n)) ≤ length
    (alarms_of_line m sent) + 1
with-end m total n sent =
    elim (nat_lt total n) as (λ b. length (alarms_of_line m (sent ++ (if b then End ∷ [] else []))) ≤ length
    (alarms_of_line m sent) + 1) [
      | true ↦ let h = end-more m 0 false sent in omega (arith, h)
      | false ↦ let h = ap (λ l. length (alarms_of_line m l)) (append-nil sent) in omega (arith, h)
    ]

pub are_few : AreFew
are_few m delay total i windows containers are =
    let line = path (carried windows) 0 (take (i - delay) containers) in
    let few = (few-from (carried windows) m 0 (take (i - delay) containers)).0 0 0 windows false (λ k _. refl) are
    (ahead-all windows) in
    let all = with-end m total (i - delay) line in
    omega (arith, few, all)
