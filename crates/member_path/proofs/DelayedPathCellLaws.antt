-- The cells of a delayed path: what a push, a flush, a carry, a cut, a mend and the end add to them.
use Rattle.std.proofs.Common.{◌≡◌, ℕ, suc, ◌+◌, ◌-◌, ◌<◌, ◌≤◌, min, List, [], ◌∷◌, ◌++◌, length, take, refl, sym, ap}
use Rattle.std.proofs.Common.{ap₂, arith, length-take, slice_get, Some, ◌∙◌, le-ltb, append-nil, zero, get_or}
use Rattle.std.proofs.Common.{slice_index_or, length-append, Contains, lt-ltb, drop}
use Rattle.law_model.specs.Common.{Container, cells_of, path, end_of, cells, Cell, End}
use Rattle.law_model.specs.declared.window_types.Carried.{Carried}
use Rattle.law_model.specs.declared.window_types.Window.{Window}
use Rattle.law_model.specs.members.Damage.{carried}
use Rattle.member_path.specs.failure_window.AgreeingWindows.{AgreeBelow}
use Rattle.member_path.specs.failure_window.OpenWindows.{CanClose, opened_at, closed_at}
use Rattle.member_path.specs.path_delay.CallsOnDelayedLine.{Calls, carries_of, path_cells, with_windows, and_cut}
use Rattle.member_path.specs.path_delay.CallsOnDelayedLine.{and_mend, Line, and_push, and_flush, DelayStands}
use Rattle.member_path.proofs.FailureWindowListLaws.{opened-before, closed-before}
use Rattle.std.proofs.lemmas.Option.{slice_get_within}
use Rattle.law_model.proofs.ListLaws.{take-next}
use Rattle.law_model.proofs.WindowAndPathLaws.{path-append}
use Rattle.std.proofs.lemmas.List.{get_or-append_right, drop-append-le, take-append-le}
use Rattle.law_model.specs.declared.window_types.Carried.TheVariants.{Whole, Fails, Vanishes}
use Rattle.circular_buffer.proofs.Places.{slice_get-drop, slice_get-some}

-- ---- The cells of a path under windows that agree below a number.
path-agree : (these those : ℕ → Carried) (n : ℕ) (containers : List Container) →
    ((t : ℕ) → n ≤ t → t < n + length containers → these t ≡ those t) →
    path these n containers ≡ path those n containers
unfolding path
path-agree these those n [] same = refl
path-agree these those n (container ∷ containers) same =
    ap₂ (λ c l. cells_of c container ++ l) (same n (omega arith) (omega arith))
    (path-agree these those (suc n) containers (λ t low high. same t (omega arith) (omega arith)))

pub cells-agree : (windows others : List Window) (delay total i n : ℕ) (containers : List Container) →
    AgreeBelow windows others n → min (i - delay) (length containers) ≤ n →
    cells (carried windows) delay total containers i ≡ cells (carried others) delay total containers i
cells-agree windows others delay total i n containers agree out =
    let size = length-take (i - delay) containers in
    ap (λ l. l ++ end_of total (i - delay))
    (path-agree (carried windows) (carried others) 0 (take (i - delay) containers)
    (λ t low high. agree t (omega (arith, size, high, out))))

pub calls-agree : (calls : Calls) (others : List Window) (n : ℕ) → AgreeBelow calls.windows others n →
    length calls.containers ≤ n → path_cells (with_windows calls others) ≡ path_cells calls
calls-agree calls others n agree pushed =
    sym (cells-agree calls.windows others calls.delay calls.total (carries_of calls) n calls.containers agree
    (omega (arith, pushed)))

-- ---- a line that is cut, and one that is mended
pub cut-cells : (calls : Calls) (first : ℕ) → length calls.containers ≤ first →
    path_cells (and_cut calls first) ≡ path_cells calls
cut-cells calls first pushed =
    calls-agree calls (opened_at calls.windows first calls.total) first
    (λ t low. sym (opened-before calls.windows first calls.total t low)) pushed

pub mend-cells : (calls : Calls) (end : ℕ) → CanClose calls.windows end → length calls.containers ≤ end →
    path_cells (and_mend calls end) ≡ path_cells calls
mend-cells calls end runs pushed =
    calls-agree calls (closed_at calls.windows end) end
    (λ t low. sym (closed-before calls.windows end t runs low)) pushed

-- ---- What a carry adds to the cells of a path.
path-one : (carries : ℕ → Carried) (n : ℕ) (container : Container) →
    path carries n (container ∷ []) ≡ cells_of (carries n) container
unfolding path
path-one carries n container = append-nil (cells_of (carries n) container)

-- what comes of a container
pub cells-next : (carries : ℕ → Carried) (delay total : ℕ) (containers : List Container) (i : ℕ)
    (container : Container) →
    delay ≤ i → i - delay < total → slice_get containers (i - delay) ≡ Some container →
    cells carries delay total containers (suc i) ≡ cells carries delay total containers i ++ cells_of
    (carries (i - delay)) container
cells-next carries delay total containers i container filled before here =
    let n : ℕ = i - delay in
    let next : suc i - delay ≡ suc n = omega arith in
    let inside = slice_get_within containers n container here in
    let size : length (take n containers) ≡ n = length-take n containers
    ∙ (let e : min n (length containers) ≡ n = omega arith in e) in
    rw (next, le-ltb total (suc n) (omega arith), le-ltb total n (omega arith))
    (append-nil (path carries 0 (take (suc n) containers))
    ∙ ap (path carries 0) (take-next containers n container here)
    ∙ path-append carries 0 (take n containers) (container ∷ [])
    ∙ ap (λ m. path carries 0 (take n containers) ++ path carries m (container ∷ []))
    (let e : 0 + length (take n containers) ≡ n = omega (arith, size) in e)
    ∙ ap (λ l. path carries 0 (take n containers) ++ l) (path-one carries n container)
    ∙ ap (λ l. l ++ cells_of (carries n) container) (sym (append-nil (path carries 0 (take n containers)))))

-- ---- End is among the cells of a path exactly where its carry was made.
-- no cell of these is End
NoEnd : List Cell → Type 0
NoEnd cells = (k : ℕ) → k < length cells → slice_index_or cells k End ≡ End → ⊥

no_end-more : (fate : Carried) (container : Container) (rest : List Cell) → NoEnd rest →
    NoEnd (cells_of fate container ++ rest)
unfolding NoEnd
no_end-more Whole container rest none zero within is = cc
no_end-more Whole container rest none (suc k) within is = none k (omega arith) is
no_end-more Fails container rest none zero within is = cc
no_end-more Fails container rest none (suc k) within is = none k (omega arith) is
no_end-more Vanishes container rest none k within is = none k within is

path-no_end : (carries : ℕ → Carried) (n : ℕ) (containers : List Container) → NoEnd (path carries n containers)
unfolding path NoEnd
path-no_end carries n [] k within is = omega arith
path-no_end carries n (container ∷ containers) k within is =
    unfold NoEnd in no_end-more (carries n) container (path carries (suc n) containers)
    (path-no_end carries (suc n) containers) k within is

pub end-given : (carries : ℕ → Carried) (delay total : ℕ) (containers : List Container) (i : ℕ) → total < i - delay →
    Contains (cells carries delay total containers i) End
end-given carries delay total containers i past =
    let before : List Cell = path carries 0 (take (i - delay) containers) in
    rw (lt-ltb total (i - delay) past) (
      length before,
      omega (arith, length-append before (End ∷ [])),
      get_or-append_right before (End ∷ []) (length before) (length before) End refl (omega arith)
          ∙ ap (λ n. get_or (End ∷ []) n End) (let e : length before - length before ≡ 0 = omega arith in e),
    )

pub end-open : (carries : ℕ → Carried) (delay total : ℕ) (containers : List Container) (i : ℕ) → i - delay ≤ total →
    Contains (cells carries delay total containers i) End → ⊥
unfolding NoEnd
end-open carries delay total containers i early has =
    let before : List Cell = path carries 0 (take (i - delay) containers) in
    let (k, within, is) = rw (le-ltb total (i - delay) early, append-nil before) at has in
    path-no_end carries 0 (take (i - delay) containers) k within is

-- ---- What a line holds after one more call, and what the cells of its path grow by.
drop-one : {X : Type 0} (n : ℕ) (xs : List X) → drop 1 (drop n xs) ≡ drop (suc n) xs
drop-one zero xs = refl
drop-one (suc n) [] = refl
drop-one (suc n) (x ∷ xs) = drop-one n xs

-- ---- a push into a full store
pub push-stored : (line : Line) (calls : Calls) (container : Container) → DelayStands line calls → line.flushed ≡ 0 →
    line.delay ≤ line.pushed →
    drop 1 (line.stored ++ container ∷ []) ≡ drop (carries_of (and_push calls container) - calls.delay)
    (calls.containers ++ container ∷ [])
push-stored line calls container stands none filled =
    let n : ℕ = carries_of calls - calls.delay in
    let within : n ≤ length calls.containers = omega (arith, stands.pushed, stands.flushed, stands.delay) in
    let next : carries_of (and_push calls container) - calls.delay ≡ suc n =
    omega (arith, length-append calls.containers (container ∷ []), stands.pushed, stands.flushed, stands.delay)
    in
    ap (λ l. drop 1 (l ++ container ∷ [])) stands.stored
    ∙ ap (drop 1) (sym (drop-append-le n calls.containers (container ∷ []) within))
    ∙ drop-one n (calls.containers ++ container ∷ [])
    ∙ ap (λ k. drop k (calls.containers ++ container ∷ [])) (sym next)

-- more containers change no carry up to here
pushed-same : (carries : ℕ → Carried) (delay total : ℕ) (containers more : List Container) (i : ℕ) →
    i ≤ delay + length containers →
    cells carries delay total (containers ++ more) i ≡ cells carries delay total containers i
pushed-same carries delay total containers more i within =
    ap (λ l. path carries 0 l ++ end_of total (i - delay)) (take-append-le (i - delay) containers more (omega arith))

pub push-cells : (line : Line) (calls : Calls) (container : Container) (fate : Carried) (got : List Cell) →
    DelayStands line calls → line.flushed ≡ 0 → line.delay ≤ line.pushed →
    line.pushed < line.total → fate ≡ carried line.windows (line.pushed - line.delay) →
    ((x : Container) → slice_get (line.stored ++ container ∷ []) 0 ≡ Some x → got ≡ cells_of fate x) →
    path_cells (and_push calls container) ≡ path_cells calls ++ got
push-cells line calls container fate got stands none filled more is gives =
    let i : ℕ = carries_of calls in
    let n : ℕ = i - calls.delay in
    let all : List Container = calls.containers ++ container ∷ [] in
    let within : n ≤ length calls.containers = omega (arith, stands.pushed, stands.flushed, stands.delay) in
    let next : carries_of (and_push calls container) ≡ suc i =
    omega (arith, length-append calls.containers (container ∷ [])) in
    let size : n < length all = omega (arith, length-append calls.containers (container ∷ [])) in
    let (x, there) = slice_get-some all n size in
    let oldest : slice_get (line.stored ++ container ∷ []) 0 ≡ Some x =
    ap (λ l. slice_get (l ++ container ∷ []) 0) stands.stored
    ∙ ap (λ l. slice_get l 0) (sym (drop-append-le n calls.containers (container ∷ []) within))
    ∙ slice_get-drop n all 0 n (omega arith) ∙ there in
    let own : carried calls.windows n ≡ fate =
    ap₂ carried (sym stands.windows)
    (let e : n ≡ line.pushed - line.delay = omega (arith, stands.pushed, stands.flushed, stands.delay) in e)
    ∙ sym is in
    ap (cells (carried calls.windows) calls.delay calls.total all) next
    ∙ cells-next (carried calls.windows) calls.delay calls.total all i x
    (omega (arith, stands.pushed, stands.flushed, stands.delay))
    (omega (arith, stands.pushed, stands.flushed, stands.delay, stands.total)) there
    ∙ ap₂ (λ a b. a ++ b) (pushed-same (carried calls.windows) calls.delay calls.total calls.containers
    (container ∷ []) i (omega arith))
    (ap (λ f. cells_of f x) own ∙ sym (gives x oldest))

-- ---- a flush that lets a container go
pub flush-stored : (line : Line) (calls : Calls) → DelayStands line calls → line.delay ≤ line.pushed + line.flushed →
    drop 1 line.stored ≡ drop (carries_of (and_flush calls) - calls.delay) calls.containers
flush-stored line calls stands filled =
    let n : ℕ = carries_of calls - calls.delay in
    let next : carries_of (and_flush calls) - calls.delay ≡ suc n =
    omega (arith, stands.pushed, stands.flushed, stands.delay) in
    ap (drop 1) stands.stored ∙ drop-one n calls.containers ∙ ap (λ k. drop k calls.containers) (sym next)

pub flush-cells : (line : Line) (calls : Calls) (fate : Carried) (got : List Cell) → DelayStands line calls →
    line.delay ≤ line.pushed + line.flushed →
    line.pushed + line.flushed - line.delay < line.pushed → line.pushed ≤ line.total →
    fate ≡ carried line.windows (line.pushed + line.flushed - line.delay) →
    ((x : Container) → slice_get line.stored 0 ≡ Some x → got ≡ cells_of fate x) →
    path_cells (and_flush calls) ≡ path_cells calls ++ got
flush-cells line calls fate got stands filled before within is gives =
    let i : ℕ = carries_of calls in
    let n : ℕ = i - calls.delay in
    let next : carries_of (and_flush calls) ≡ suc i = omega arith in
    let size : n < length calls.containers = omega (arith, stands.pushed, stands.flushed, stands.delay) in
    let (x, there) = slice_get-some calls.containers n size in
    let oldest : slice_get line.stored 0 ≡ Some x =
    ap (λ l. slice_get l 0) stands.stored ∙ slice_get-drop n calls.containers 0 n (omega arith) ∙ there in
    let own : carried calls.windows n ≡ fate =
    ap₂ carried (sym stands.windows)
    (let e : n ≡ line.pushed + line.flushed - line.delay =
    omega (arith, stands.pushed, stands.flushed, stands.delay) in e) ∙ sym is in
    ap (cells (carried calls.windows) calls.delay calls.total calls.containers) next
    ∙ cells-next (carried calls.windows) calls.delay calls.total calls.containers i x
    (omega (arith, stands.pushed, stands.flushed, stands.delay))
    (omega (arith, stands.pushed, stands.flushed, stands.delay, stands.total)) there
    ∙ ap (λ l. path_cells calls ++ l) (ap (λ f. cells_of f x) own ∙ sym (gives x oldest))

-- while containers are to come no flush was made
pub none-flushed : (pushed total flushed : ℕ) → (0 < flushed → pushed ≡ total) → pushed < total → flushed ≡ 0
none-flushed pushed total zero order more = refl
none-flushed pushed total (suc n) order more = absurd (let all = order (omega arith) in omega arith)
