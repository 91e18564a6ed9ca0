-- For which line a Take waits, and what the send, receive and return rings and the inbox hold by the counts.
use Rattle.std.proofs.Common.{IsSome, ◌↔◌, ◌≡◌, ℕ, zero, suc, ◌+◌, ◌<◌, ◌≤◌, nat_le, Bool, true, false, inl, inr, List}
use Rattle.std.proofs.Common.{[], ◌∷◌, map, take, length, slice_get, slice_index_or, Option, Some, None, is_none, refl}
use Rattle.std.proofs.Common.{sym, ◌∙◌, ap, ap₂, subst, arith, leb-true, leb-false, ◌-◌, min, ◌++◌, drop, ◌*◌, ◌/◌}
use Rattle.std.proofs.Common.{◌%◌, ◌==◌, ◌&&◌, nat_lt, if◌then◌else◌, option_map, ltb-true, ltb-false, eqb-true}
use Rattle.std.proofs.Common.{append-nil, take-append-drop, take_all}
use Rattle.std.specs.List.{range_with_len, position_from}
use Rattle.std.proofs.lemmas.Bool.{cases_Bool, cases_lt, eqb-false, lt-ltb}
use Rattle.std.proofs.lemmas.Option.{slice_get_within, same_Some, slice_get-map}
use Rattle.law_model.proofs.ListLaws.{some-none, slice_get-drop, take-next, drop-next, at-range}
use Rattle.law_model.specs.Common.{Container, Cell, Leg, verdict, scenario_by, carried_by, session_cells, first_open}
use Rattle.law_model.specs.Common.{LinePath, LineCounts, popped_line, pop_lines, cells, container_of, containers_of}
use Rattle.law_model.specs.Common.{Counts, told_in, return_cell, cells_before, return_at, used_in, steps_in, orders_at}
use Rattle.law_model.specs.Common.{Source, after, source_at}
use Rattle.law_progress.proofs.LinePathInNumbersLaws.{is_decided, is_path}
use Rattle.law_terminal.proofs.ContainerPayloadLaws.{containers-size, container-at}
use Rattle.law_walk.specs.Common.{sent_on, walk_plan, CanWalk, counts_at, popped_on, popped_cells, path_on, delay_on}
use Rattle.law_walk.specs.Common.{line_cells, AreDecidedBefore, IsWalked, sent_at, taken_by, cells_by, send_by}
use Rattle.law_walk.specs.Common.{receive_by, all_lines, said_packet, back_cell, return_ring, inbox, landed_scenario}
use Rattle.law_walk.specs.Common.{told_before, last_packet, table_in}
use Rattle.law_walk.proofs.WalkPlanAndPoppedCellLaws.{has-paths, line-path, fits, has-lines, cells-decide}
use Rattle.std.proofs.lemmas.List.{drop-append-le, length-drop, length-take}
use Rattle.std.proofs.lemmas.List.FromFn.{take-map-range_with_len, length-map-range_with_len, map-range_with_len_more}
use Rattle.check_nibbles.proofs.CellsInStepLaws.{slice_get-append}
use Rattle.law_line.proofs.ReadingVerdictLaws.{cells-part}
use Rattle.law_progress.specs.Progress.{Each}
use Rattle.law_terminal.proofs.ArrivedCellAndRowLaws.{given-whole, is-line}
use Rattle.law_model.specs.session.Scenario.{packets, packets_in}
use Rattle.law_line.specs.StableRows.{IsLonger, AreDecidedAt}
use Rattle.law_line.proofs.DecidedPacketAndRowLaws.{returns_stay}
use Rattle.law_terminal.specs.SessionLines.{ComesOfLine, ComeOfLines}
use Rattle.law_terminal.specs.Course.{packet_by}
use Rattle.law_terminal.proofs.ContainerPayloadLaws.{range-at}
use Rattle.law_terminal.proofs.ArrivedCellAndRowLaws.{back-told, packet-told}
use Rattle.law_terminal.proofs.SessionCourseLaws.{next-cell}
use Rattle.law_session.proofs.ReturnCellAndLineWordLaws.{asked_all-table}
use Rattle.law_walk.proofs.LandedItemRefusalAndTotalLaws.{told-tables}

-- ---- For which line a Take waits.
pub popped-decides : (leg : Leg) (line y t : ℕ) → t < leg.config.ticks →
    IsSome (verdict (take y (line_cells leg line)) t) ↔ (t < (path_on leg line).decided y)
popped-decides leg line y t low =
    let size = containers-size (scenario_by leg) (session_cells (scenario_by leg)) line leg.config.ticks in
    is_decided (carried_by (scenario_by leg) line) (sent_on (scenario_by leg) line) (delay_on leg line) y t
    (omega arith)

-- ---- line by line
unfoldable cells_from : (ℕ → List Cell) → ℕ → List LineCounts → List (List Cell)
cells_from all m [] = []
cells_from all m (line ∷ lines) = take line.popped (all m) ∷ cells_from all (suc m) lines

abbrev no_counts : LineCounts
no_counts = record { carried = 0; popped = 0 }

map-from : (f all : ℕ → List Cell) (from : ℕ) (lines : List LineCounts) →
    ((k : ℕ) → k < length lines → f (from + k) ≡ take (slice_index_or lines k no_counts).popped (all (from + k))) →
    map f (range_with_len from (length lines)) ≡ cells_from all from lines
unfolding cells_from
map-from f all from [] same = refl
map-from f all from (line ∷ lines) same =
    let here : from + 0 ≡ from = omega arith in
    let next : from + 1 ≡ suc from = omega arith in
    ap₂ (λ own rest. own ∷ rest) (subst (λ m. f m ≡ take line.popped (all m)) here (same 0 (omega arith)))
    (ap (λ m. map f (range_with_len m (length lines))) next
    ∙ map-from f all (suc from) lines
    (λ k low. subst (λ m. f m ≡ take (slice_index_or lines k no_counts).popped (all m))
    (let e : from + suc k ≡ suc from + k = omega arith in e) (same (suc k) (omega arith))))

popped-list : (leg : Leg) (lines : List LineCounts) → length lines ≡ length leg.config.windows →
    popped_cells leg lines ≡ cells_from (line_cells leg) 0 lines
popped-list leg lines size =
    ap (λ n. map (popped_on leg lines) (range_with_len 0 n)) (sym size)
    ∙ map-from (popped_on leg lines) (line_cells leg) 0 lines
    (λ k low. let e : 0 + k ≡ k = omega arith in
    subst (λ m. popped_on leg lines m ≡ take (slice_index_or lines k no_counts).popped (line_cells leg m))
    (sym e) refl)

-- the paths from one on say which numbers the cells decide
unfoldable Decide : ℕ → (ℕ → List Cell) → ℕ → List LinePath → Type 0
Decide t all m [] = Unit {0}
Decide t all m (path ∷ paths) = ((y : ℕ) → IsSome (verdict (take y (all m)) t) ↔ (t < path.decided y)) ×
    Decide t all (suc m) paths

is-open : (v : Option (Option Container)) → (IsSome v → ⊥) → is_none v ≡ true
is-open None h = refl
is-open (Some told) h = absurd (h refl)

abbrev is_open : ℕ → List Cell → Bool
is_open t own = is_none (verdict own t)

first-waits : (t : ℕ) (all : ℕ → List Cell) (m : ℕ) (paths : List LinePath) (lines : List LineCounts) →
    length lines ≡ length paths → Decide t all m paths →
    position_from (is_open t) m (cells_from all m (pop_lines t m paths lines).lines) ≡
    (pop_lines t m paths lines).waiting
unfolding Decide cells_from pop_lines
first-waits t all m [] [] size decide = refl
first-waits t all m [] (line ∷ lines) size decide = absurd (omega arith)
first-waits t all m (path ∷ paths) [] size decide = absurd (omega arith)
first-waits t all m (path ∷ paths) (line ∷ lines) size decide =
    let y : ℕ = (popped_line path t line).popped in
    let next : m + 1 ≡ suc m = omega arith in
    elim (cases_Bool (nat_le (path.decided (popped_line path t line).popped) t)) [
      | inl e ↦
          let low : path.decided y ≤ t = leb-true (path.decided y) t e in
          let none : is_none (verdict (take (popped_line path t line).popped (all m)) t) ≡ true =
          is-open (verdict (take y (all m)) t) (λ some. let past = (decide.0 y).0 some in omega arith) in
          rw (e, none) refl
      | inr e ↦
          let past : t < path.decided y = leb-false (path.decided y) t e in
          let told : is_none (verdict (take (popped_line path t line).popped (all m)) t) ≡ false =
          some-none (verdict (take y (all m)) t) ((decide.0 y).1 past) in
          rw (e, told) (ap (λ k. position_from (is_open t) k
          (cells_from all (suc m) (pop_lines t (suc m) paths lines).lines)) next
          ∙ first-waits t all (suc m) paths lines (omega arith) decide.1)
    ]

decide-from : (t : ℕ) (all : ℕ → List Cell) (m : ℕ) (paths : List LinePath) →
    ((k : ℕ) (path : LinePath) → slice_get paths k ≡ Some path → (y : ℕ) →
    IsSome (verdict (take y (all (m + k))) t) ↔ (t < path.decided y)) →
    Decide t all m paths
unfolding Decide
decide-from t all m [] each = tt
decide-from t all m (path ∷ paths) each =
    let here : m + 0 ≡ m = omega arith in (
      λ y. subst (λ i. IsSome (verdict (take y (all i)) t) ↔ (t < path.decided y)) here (each 0 path refl y),
      decide-from t all (suc m) paths
          (λ k other there y. let e : m + suc k ≡ suc m + k = omega arith in
          subst (λ i. IsSome (verdict (take y (all i)) t) ↔ (t < other.decided y)) e (each (suc k) other there y)),
    )

pop-size : (t m : ℕ) (paths : List LinePath) (lines : List LineCounts) → length lines ≡ length paths →
    length (pop_lines t m paths lines).lines ≡ length lines
unfolding pop_lines
pop-size t m [] lines size = refl
pop-size t m (path ∷ paths) [] size = refl
pop-size t m (path ∷ paths) (line ∷ lines) size =
    elim (cases_Bool (nat_le (path.decided (popped_line path t line).popped) t)) [
      | inl e ↦ rw e refl
      | inr e ↦ rw e (ap suc (pop-size t (suc m) paths lines (omega arith)))
    ]

pub take-waits : (leg : Leg) (lines : List LineCounts) (t : ℕ) → CanWalk leg →
    length lines ≡ length leg.config.windows → t < leg.config.ticks →
    first_open (popped_cells leg (pop_lines t 0 (walk_plan leg).paths lines).lines) t ≡
    (pop_lines t 0 (walk_plan leg).paths lines).waiting
take-waits leg lines t can size low =
    let paths : List LinePath = (walk_plan leg).paths in
    let count = has-paths leg can in
    let after : List LineCounts = (pop_lines t 0 (walk_plan leg).paths lines).lines in
    ap (λ cells. first_open cells t) (popped-list leg after (pop-size t 0 paths lines (size ∙ sym count) ∙ size))
    ∙ first-waits t (line_cells leg) 0 paths lines (size ∙ sym count)
    (decide-from t (line_cells leg) 0 paths (λ k path there y.
    let inside = slice_get_within paths k path there in
    let same : path_on leg k ≡ path =
    same_Some (path_on leg k) path (sym (line-path leg can k (omega arith)) ∙ there) in
    let e : 0 + k ≡ k = omega arith in
    subst (λ i. IsSome (verdict (take y (line_cells leg i)) t) ↔ (t < path.decided y)) (sym e)
    (subst (λ p. IsSome (verdict (take y (line_cells leg k)) t) ↔ (t < p.decided y)) same
    (popped-decides leg k y t low))))

-- ---- the first line whose cells don't decide a row, where those before it do
told-line : (leg : Leg) (lines : List LineCounts) (i t : ℕ) → t < leg.config.ticks →
    t < (path_on leg i).decided (counts_at lines i).popped →
    is_none (verdict (popped_on leg lines i) t) ≡ false
told-line leg lines i t low past =
    some-none (verdict (popped_on leg lines i) t) ((popped-decides leg i (counts_at lines i).popped t low).1 past)

position-at : (test : List Cell → Bool) (f : ℕ → List Cell) (from n m : ℕ) → m < n →
    ((i : ℕ) → i < m → test (f (from + i)) ≡ false) → test (f (from + m)) ≡ true →
    position_from test from (map f (range_with_len from n)) ≡ Some (from + m)
position-at test f from zero m inside before here = absurd (omega arith)
position-at test f from (suc n) zero inside before here =
    let e : from + 0 ≡ from = omega arith in rw (e, subst (λ i. test (f i) ≡ true) e here) refl
position-at test f from (suc n) (suc m) inside before here =
    let e : from + 0 ≡ from = omega arith in
    let first : test (f from) ≡ false = subst (λ i. test (f i) ≡ false) e (before 0 (omega arith)) in
    rw first (position-at test f (from + 1) n m (omega arith)
    (λ i low. subst (λ k. test (f k) ≡ false) (let g : from + suc i ≡ from + 1 + i = omega arith in g)
    (before (suc i) (omega arith)))
    (subst (λ k. test (f k) ≡ true) (let g : from + suc m ≡ from + 1 + m = omega arith in g) here)
    ∙ ap Some (let g : from + 1 + m ≡ from + suc m = omega arith in g))

position-none : (test : List Cell → Bool) (f : ℕ → List Cell) (from n : ℕ) →
    ((i : ℕ) → i < n → test (f (from + i)) ≡ false) →
    position_from test from (map f (range_with_len from n)) ≡ None
position-none test f from zero before = refl
position-none test f from (suc n) before =
    let e : from + 0 ≡ from = omega arith in
    let first : test (f from) ≡ false = subst (λ i. test (f i) ≡ false) e (before 0 (omega arith)) in
    rw first (position-none test f (from + 1) n
    (λ i low. subst (λ k. test (f k) ≡ false) (let g : from + suc i ≡ from + 1 + i = omega arith in g)
    (before (suc i) (omega arith))))

position-least : (test : List Cell → Bool) (f : ℕ → List Cell) (from n k : ℕ) →
    position_from test from (map f (range_with_len from n)) ≡ Some k → from ≤ k
position-least test f from zero k is = absurd cc
position-least test f from (suc n) k is =
    elim (cases_Bool (test (f from))) [
      | inl e ↦ let same : Some from ≡ Some k = rw e at is in let g : from ≡ k = cc in omega arith
      | inr e ↦ let rest = position-least test f (from + 1) n k (rw e at is) in omega arith
    ]

-- a position beyond those at which the test fails isn't among them
position-past : (test : List Cell → Bool) (f : ℕ → List Cell) (from n m k : ℕ) → m < n →
    ((i : ℕ) → i ≤ m → test (f (from + i)) ≡ false) →
    position_from test from (map f (range_with_len from n)) ≡ Some k → from + m < k
position-past test f from zero m k inside before is = absurd (omega arith)
position-past test f from (suc n) zero k inside before is =
    let e : from + 0 ≡ from = omega arith in
    let first : test (f from) ≡ false = subst (λ i. test (f i) ≡ false) e (before 0 (omega arith)) in
    let low = position-least test f (from + 1) n k (rw first at is) in
    omega arith
position-past test f from (suc n) (suc m) k inside before is =
    let e : from + 0 ≡ from = omega arith in
    let first : test (f from) ≡ false = subst (λ i. test (f i) ≡ false) e (before 0 (omega arith)) in
    let rest = position-past test f (from + 1) n m k (omega arith)
    (λ i low. subst (λ k. test (f k) ≡ false) (let g : from + suc i ≡ from + 1 + i = omega arith in g)
    (before (suc i) (omega arith))) (rw first at is) in
    omega arith

pub first-open : (leg : Leg) (lines : List LineCounts) (m t : ℕ) → length lines ≡ length leg.config.windows →
    m < length lines → t < leg.config.ticks →
    AreDecidedBefore leg lines m t →
    (first_open (popped_cells leg lines) t ≡ Some m) ↔
    ((path_on leg m).decided (counts_at lines m).popped ≤ t)
first-open leg lines m t size inside low before =
    let n : ℕ = length leg.config.windows in
    let y : ℕ = (counts_at lines m).popped in
    let told = λ (i : ℕ) (under : i < m). told-line leg lines i t low (before i under) in (
      λ is. elim (cases_lt t ((path_on leg m).decided y)) [
        | inr late ↦ late
        | inl past ↦
            let beyond = position-past (is_open t) (popped_on leg lines) 0 n m m (omega arith)
            (λ i under. elim (cases_lt i m) [
              | inl less ↦ subst (λ k. is_open t (popped_on leg lines k) ≡ false)
                  (let g : i ≡ 0 + i = omega arith in g) (told i less)
              | inr more ↦ subst (λ k. is_open t (popped_on leg lines k) ≡ false)
                  (let g : m ≡ 0 + i = omega arith in g) (told-line leg lines m t low past)
            ]) is in
            absurd (omega arith)
      ],
      λ late. position-at (is_open t) (popped_on leg lines) 0 n m (omega arith)
          (λ i under. subst (λ k. is_open t (popped_on leg lines k) ≡ false) (let g : i ≡ 0 + i = omega arith in g)
          (told i under))
          (subst (λ k. is_open t (popped_on leg lines k) ≡ true) (let g : m ≡ 0 + m = omega arith in g)
          (is-open (verdict (popped_on leg lines m) t)
          (λ some. let past = (popped-decides leg m y t low).0 some in omega arith)))
          ∙ ap Some (let g : 0 + m ≡ m = omega arith in g),
    )

pub none-open : (leg : Leg) (lines : List LineCounts) (t : ℕ) → length lines ≡ length leg.config.windows →
    t < leg.config.ticks →
    AreDecidedBefore leg lines (length lines) t → first_open (popped_cells leg lines) t ≡ None
none-open leg lines t size low before =
    position-none (is_open t) (popped_on leg lines) 0 (length leg.config.windows)
    (λ i under. subst (λ k. is_open t (popped_on leg lines k) ≡ false) (let g : i ≡ 0 + i = omega arith in g)
    (told-line leg lines i t low (before i (omega arith))))

-- ---- The rings of a line by its numbers.
-- ---- lists
tail-same : {X : Type 0} (x : X) (xs ys : List X) → x ∷ xs ≡ x ∷ ys → xs ≡ ys
tail-same x xs ys e = ap (drop 1) e

first-of_drop : {X : Type 0} (xs : List X) (y : ℕ) (x : X) (rest : List X) → drop y xs ≡ x ∷ rest →
    slice_get xs y ≡ Some x
first-of_drop xs y x rest e =
    ap (slice_get xs) (let same : y ≡ y + 0 = omega arith in same) ∙ sym (slice_get-drop xs y 0)
    ∙ ap (λ l. slice_get l 0) e

each-size : (P : LinePath → LineCounts → Type 0) (paths : List LinePath) (lines : List LineCounts) →
    Each P paths lines → length lines ≡ length paths
unfolding Each
each-size P [] [] all = refl
each-size P [] (line ∷ lines) all = absurd all
each-size P (path ∷ paths) [] all = absurd all
each-size P (path ∷ paths) (line ∷ lines) all = ap suc (each-size P paths lines all.1)

pub lines-size : (leg : Leg) (s : Counts) → CanWalk leg → IsWalked leg s →
    length s.lines ≡ length leg.config.windows
lines-size leg s can walked =
    each-size _ (walk_plan leg).paths s.lines (fits leg s can walked).lines ∙ has-paths leg can

module _ (leg : Leg) (line : ℕ) where
  sent : List Container
  sent = sent_on (scenario_by leg) line

  size : length (sent_on (scenario_by leg) line) ≡ leg.config.ticks
  size = containers-size (scenario_by leg) (session_cells (scenario_by leg)) line leg.config.ticks

  at : (t : ℕ) → t < leg.config.ticks →
      slice_get (sent_on (scenario_by leg) line) t ≡ Some (sent_at leg line t)
  at t low = container-at (scenario_by leg) (session_cells (scenario_by leg)) line leg.config.ticks t low

  first-sent : (n : ℕ) → n ≤ leg.config.ticks →
      take n (sent_on (scenario_by leg) line) ≡ containers_of (scenario_by leg)
      (session_cells (scenario_by leg)) line n
  first-sent n low = take-map-range_with_len
      (container_of (scenario_by leg) (session_cells (scenario_by leg)) line) 0 leg.config.ticks n low

  -- ---- containers
  pub taken-cells : (x : ℕ) → cells (carried_by (scenario_by leg) line) (delay_on leg line) leg.config.ticks
      (taken_by leg line x) x ≡ cells_by leg line x
  taken-cells x =
      let m : ℕ = min x leg.config.ticks in
      ap (λ l. cells (carried_by (scenario_by leg) line) (delay_on leg line) leg.config.ticks l x)
      (first-sent m (omega arith))
      ∙ given-whole (scenario_by leg) (session_cells (scenario_by leg)) line m (delay_on leg line) x
      (omega arith) (omega arith)

  made-size : (n : ℕ) → n ≤ leg.config.ticks → length (take n (sent_on (scenario_by leg) line)) ≡ n
  made-size n low = let e = length-take n (sent_on (scenario_by leg) line) in let all = size in omega arith

  pub send-size : (n x : ℕ) → n ≤ leg.config.ticks → length (send_by leg line n x) ≡ n - min x leg.config.ticks
  send-size n x low =
      length-drop (min x leg.config.ticks) (take n (sent_on (scenario_by leg) line))
      ∙ ap (λ k. k - min x leg.config.ticks) (made-size n low)

  pub send-made : (n x : ℕ) → n < leg.config.ticks → min x leg.config.ticks ≤ n →
      send_by leg line (n + 1) x ≡ send_by leg line n x ++ sent_at leg line n ∷ []
  send-made n x low taken =
      let m : ℕ = min x leg.config.ticks in
      let long = made-size n (omega arith) in
      let e : n + 1 ≡ suc n = omega arith in
      ap (λ k. drop m (take k (sent_on (scenario_by leg) line))) e
      ∙ ap (drop m) (take-next (sent_on (scenario_by leg) line) n (sent_at leg line n) (at n low))
      ∙ drop-append-le m (take n (sent_on (scenario_by leg) line)) (sent_at leg line n ∷ []) (omega arith)

  pub send-next : (n x : ℕ) → n ≤ leg.config.ticks → x < n →
      send_by leg line n x ≡ sent_at leg line x ∷ send_by leg line n (x + 1)
  send-next n x low inside =
      let one : min x leg.config.ticks ≡ x = omega arith in
      let two : suc x ≡ min (x + 1) leg.config.ticks = omega arith in
      let there : slice_get (take n (sent_on (scenario_by leg) line)) x ≡ Some (sent_at leg line x) =
      ap (λ l. slice_get l x) (first-sent n low)
      ∙ container-at (scenario_by leg) (session_cells (scenario_by leg)) line n x inside in
      ap (λ k. drop k (take n (sent_on (scenario_by leg) line))) one
      ∙ drop-next (take n (sent_on (scenario_by leg) line)) x (sent_at leg line x) there
      ∙ ap (λ k. sent_at leg line x ∷ drop k (take n (sent_on (scenario_by leg) line))) two

  pub taken-next : (x : ℕ) → x < leg.config.ticks →
      taken_by leg line (x + 1) ≡ taken_by leg line x ++ sent_at leg line x ∷ []
  taken-next x low =
      let one : x ≡ min x leg.config.ticks = omega arith in
      let two : min (x + 1) leg.config.ticks ≡ suc x = omega arith in
      ap (λ k. take k (sent_on (scenario_by leg) line)) two
      ∙ take-next (sent_on (scenario_by leg) line) x (sent_at leg line x) (at x low)
      ∙ ap (λ k. take k (sent_on (scenario_by leg) line) ++ sent_at leg line x ∷ []) one

  -- ---- cells
  given-cells : (x : ℕ) → length (cells_by leg line x) ≡ (path_on leg line).given x
  given-cells x =
      ap (λ n. length (cells (carried_by (scenario_by leg) line) (delay_on leg line) n
      (sent_on (scenario_by leg) line) x)) (sym size)

  pub receive-size : (x y : ℕ) → length (receive_by leg line x y) ≡ (path_on leg line).given x - y
  receive-size x y = length-drop y (cells_by leg line x) ∙ ap (λ n. n - y) (given-cells x)

  pub receive-gives : (x y : ℕ) (out : List Cell) → y ≤ (path_on leg line).given x →
      cells_by leg line (x + 1) ≡ cells_by leg line x ++ out →
      receive_by leg line (x + 1) y ≡ receive_by leg line x y ++ out
  receive-gives x y out low e =
      let long = given-cells x in
      ap (drop y) e ∙ drop-append-le y (cells_by leg line x) out (subst (λ n. y ≤ n) (sym long) low)

  pub receive-pops : (x y : ℕ) (cell : Cell) (rest : List Cell) → receive_by leg line x y ≡ cell ∷ rest →
      receive_by leg line x (y + 1) ≡ rest
  receive-pops x y cell rest e =
      let there = first-of_drop (cells_by leg line x) y cell rest e in
      let more : y + 1 ≡ suc y = omega arith in
      ap (λ k. drop k (cells_by leg line x)) more
      ∙ tail-same cell (drop (suc y) (cells_by leg line x)) rest
      (sym (drop-next (cells_by leg line x) y cell there) ∙ e)

  all-cells : (x : ℕ) → x ≤ leg.config.ticks + delay_on leg line + 1 → (more : List Cell) ×
      (line_cells leg line ≡ cells_by leg line x ++ more)
  all-cells x low =
      let all = size in
      let (more, e) = cells-part (carried_by (scenario_by leg) line) (delay_on leg line)
      (sent_on (scenario_by leg) line) x
      (length (sent_on (scenario_by leg) line) + delay_on leg line + 1) (omega arith) in (
        more,
        e ∙ ap (λ n. cells (carried_by (scenario_by leg) line) (delay_on leg line) n
            (sent_on (scenario_by leg) line) x ++ more) all,
      )

  pub popped-next : (x y : ℕ) (cell : Cell) (rest : List Cell) → x ≤ leg.config.ticks + delay_on leg line + 1 →
      receive_by leg line x y ≡ cell ∷ rest →
      take (y + 1) (line_cells leg line) ≡ take y (line_cells leg line) ++ cell ∷ []
  popped-next x y cell rest low e =
      let (more, all) = all-cells x low in
      let there = first-of_drop (cells_by leg line x) y cell rest e in
      let inside = slice_get_within (cells_by leg line x) y cell there in
      let next : y + 1 ≡ suc y = omega arith in
      ap (λ k. take k (line_cells leg line)) next
      ∙ take-next (line_cells leg line) y cell
      (ap (λ l. slice_get l y) all ∙ slice_get-append (cells_by leg line x) more y inside ∙ there)

-- ---- The return path of a walk.
-- ---- all cells of the lines
line-at : (f : ℕ → List Cell) (n line : ℕ) (own : List Cell) → slice_get (map f (range_with_len 0 n)) line ≡ Some own →
    (line < n) × (f line ≡ own)
line-at f n line own here =
    let size-return = length-map-range_with_len f 0 n in
    let within = slice_get_within (map f (range_with_len 0 n)) line own here in
    let low : line < n = omega arith in
    let there : slice_get (map f (range_with_len 0 n)) line ≡ Some (f line) =
    slice_get-map f (range_with_len 0 n) line
    ∙ ap (option_map f) (range-at 0 n line low ∙ ap Some (let e : 0 + line ≡ line = omega arith in e)) in
    (low, cc)

pub all-longer : (leg : Leg) (lines : List LineCounts) → IsLonger (popped_cells leg lines) (all_lines leg)
all-longer leg lines =
    let n : ℕ = length leg.config.windows in
    record {
      size = length-map-range_with_len (line_cells leg) 0 n
          ∙ sym (length-map-range_with_len (popped_on leg lines) 0 n);
      each = λ line own here.
          let (low, same) = line-at (popped_on leg lines) n line own here in
          let y : ℕ = (counts_at lines line).popped in (
            drop y (line_cells leg line),
            at-range (line_cells leg) n line low
                ∙ ap Some (sym (take-append-drop y (line_cells leg line))
                ∙ ap (λ l. l ++ drop y (line_cells leg line)) same),
          );
    }

module _ (leg : Leg) (can : CanWalk leg) where
  size-return : (line : ℕ) → length (sent_on (scenario_by leg) line) ≡ leg.config.ticks
  size-return line = containers-size (scenario_by leg) (session_cells (scenario_by leg)) line leg.config.ticks

  line-decides : (line t : ℕ) → line < length leg.config.windows → t < leg.config.ticks →
      IsSome (verdict (line_cells leg line) t)
  line-decides line t inside low =
      let path = is_path (slice_index_or leg.config.windows line []) (sent_on (scenario_by leg) line)
      (delay_on leg line)
      (is-line (scenario_by leg) (session_cells (scenario_by leg)) (has-lines leg can) line inside) in
      let y : ℕ = length (line_cells leg line) in
      let all = size-return line in
      let ended = path.ended in
      let past : t < (path_on leg line).decided y = omega arith in
      subst (λ own. IsSome (verdict own t)) (take_all y (line_cells leg line) (omega arith))
      ((popped-decides leg line y t low).1 past)

  pub all-decided : (t : ℕ) → t < leg.config.ticks → AreDecidedAt (all_lines leg) t
  all-decided t low line own here =
      let (inside, same) = line-at (line_cells leg) (length leg.config.windows) line own here in
      subst (λ own. IsSome (verdict own t)) same (line-decides line t inside low)

  line-comes : (line : ℕ) → ComesOfLine (scenario_by leg) (session_cells (scenario_by leg)) line
      leg.config.ticks (line_cells leg line)
  line-comes line =
      let delay : ℕ = delay_on leg line in
      record {
        delay = delay;
        carries = leg.config.ticks + delay + 1;
        later = [];
        taken = omega arith;
        first = ap (λ n. cells (carried_by (scenario_by leg) line) delay n (sent_on (scenario_by leg) line)
            (n + delay + 1)) (sym (size-return line))
            ∙ sym (append-nil (line_cells leg line));
      }

  pub all-come : ComeOfLines (scenario_by leg) (session_cells (scenario_by leg)) leg.config.ticks
      (all_lines leg)
  all-come = record {
    made = omega arith;
    lines = length-map-range_with_len (line_cells leg) 0 (length leg.config.windows);
    each = λ line own here.
        let (inside, same) = line-at (line_cells leg) (length leg.config.windows) line own here in
        subst (λ own. ComesOfLine (scenario_by leg) (session_cells (scenario_by leg)) line leg.config.ticks
        own) same (line-comes line);
  }

  pub cell-told : (k : ℕ) → 16 * k + 23 < leg.config.ticks →
      told_in (back_cell leg k) ≡ return_cell (scenario_by leg) (session_cells (scenario_by leg)) k
  cell-told k low =
      let fits_lag = can.lag in
      back-told (scenario_by leg) (packets (scenario_by leg)) leg.config.ticks k (all_lines leg) (has-lines leg can)
      (omega arith) all-come low (all-decided (16 * k + 23) low)

  pub packet-is : (k : ℕ) → 16 * k + 23 < leg.config.ticks →
      said_packet leg k ≡ packet_by (scenario_by leg) (session_cells (scenario_by leg)) k
  packet-is k low =
      packet-told (scenario_by leg) (session_cells (scenario_by leg)) leg.config.ticks (all_lines leg) k
      (has-lines leg can) all-come low (all-decided (16 * k + 23) low)

  few-packets : (ticks k : ℕ) → 16 * k + 23 < ticks → k < (ticks - 8) / 16
  few-packets ticks k low = omega arith

  pub cells-next : (k : ℕ) → 16 * k + 23 < leg.config.ticks →
      cells_before (scenario_by leg) (k + 1) ≡ cells_before (scenario_by leg) k ++ told_in
      (back_cell leg k) ∷ []
  cells-next k low =
      let e : k + 1 ≡ suc k = omega arith in
      let fits_lag = can.lag in
      let lag : 0 < leg.config.lag = omega arith in
      ap (cells_before (scenario_by leg)) e
      ∙ next-cell (scenario_by leg) leg.config.ticks k (all_lines leg) (has-lines leg can) lag
      (few-packets leg.config.ticks k low) all-come (all-decided (16 * k + 23) low)

pub packet-said : (leg : Leg) (s : Counts) (k : ℕ) → CanWalk leg → IsWalked leg s → 16 * k + 23 < s.rows →
    return_at leg.config.options (popped_cells leg s.lines) k ≡ said_packet leg k
packet-said leg s k can walked low =
    sym (returns_stay leg.config.options (popped_cells leg s.lines) (all_lines leg) k (all-longer leg s.lines)
    (cells-decide leg s can walked (16 * k + 23) low))

-- ---- numbers
pub packets-next : (t : ℕ) → packets_in (t + 1) ≡ packets_in t + (if nat_lt 22 t && t % 16 == 7 then 1 else 0)
packets-next t =
    elim (cases_Bool (nat_lt 22 t)) [
      | inr early ↦ let h = ltb-false 22 t early in rw early (omega (arith, h))
      | inl late ↦ let h = ltb-true 22 t late in elim (cases_Bool (t % 16 == 7)) [
        | inl place ↦ let g = eqb-true (t % 16) 7 place in rw (late, place) (omega (arith, h, g))
        | inr other ↦
            let g = eqb-false (t % 16) 7 other in
            rw (late, other) (elim (cases_lt (t % 16) 7) [
              | inl less ↦ omega (arith, h, less)
              | inr more ↦ elim (cases_lt 7 (t % 16)) [
                | inl above ↦ omega (arith, h, above)
                | inr below ↦ absurd (g (omega (arith, more, below)))
              ]
            ])
      ]
    ]

pub used-next : (lag t : ℕ) → used_in lag (t + 1) ≡ used_in lag t +
    (if t % 16 == 8 && nat_le lag (t / 16) then 1 else 0)
used-next lag t =
    elim (cases_Bool (t % 16 == 8)) [
      | inl place ↦ let g = eqb-true (t % 16) 8 place in elim (cases_Bool (nat_le lag (t / 16))) [
        | inl late ↦ let h = leb-true lag (t / 16) late in rw (place, late) (omega (arith, h, g))
        | inr early ↦ let h = leb-false lag (t / 16) early in rw (place, early) (omega (arith, h, g))
      ]
      | inr other ↦
          let g = eqb-false (t % 16) 8 other in
          rw other (elim (cases_lt (t % 16) 8) [
            | inl less ↦ omega (arith, less)
            | inr more ↦ elim (cases_lt 8 (t % 16)) [
              | inl above ↦ omega (arith, above)
              | inr below ↦ absurd (g (omega (arith, more, below)))
            ]
          ])
    ]

-- ---- rings of numbers
ring-more : {X : Type 0} (f : ℕ → X) (z n m : ℕ) → z ≤ n → m ≡ n + 1 →
    map f (range_with_len z (m - z)) ≡ map f (range_with_len z (n - z)) ++ f n ∷ []
ring-more f z n m low next =
    let e : m - z ≡ (n - z) + 1 = omega arith in
    ap (λ k. map f (range_with_len z k)) e ∙ map-range_with_len_more f z (n - z) n (omega arith)

ring-less : {X : Type 0} (f : ℕ → X) (z w n : ℕ) → z < n → w ≡ z + 1 →
    map f (range_with_len z (n - z)) ≡ f z ∷ map f (range_with_len w (n - w))
ring-less f z w n low next =
    let e : n - z ≡ suc (n - w) = omega arith in
    ap (λ k. map f (range_with_len z k)) e ∙ ap (λ k. f z ∷ map f (range_with_len k (n - w))) (sym next)

pub ring-says : (leg : Leg) (s : Counts) (rows : ℕ) → s.backs ≤ packets_in s.rows →
    packets_in rows ≡ packets_in s.rows + 1 →
    return_ring leg (record s { rows = rows }) ≡ return_ring leg s ++ said_packet leg (packets_in s.rows) ∷ []
ring-says leg s rows low next = ring-more (said_packet leg) s.backs (packets_in s.rows) (packets_in rows) low next

pub ring-goes : (leg : Leg) (s : Counts) → s.backs < packets_in s.rows →
    return_ring leg s ≡ said_packet leg s.backs ∷ return_ring leg (record s { backs = s.backs + 1 })
ring-goes leg s low = ring-less (said_packet leg) s.backs (s.backs + 1) (packets_in s.rows) low refl

pub inbox-comes : (leg : Leg) (s : Counts) → used_in leg.config.lag s.ticks ≤ s.backs →
    inbox leg (record s { backs = s.backs + 1 }) ≡ inbox leg s ++ back_cell leg s.backs ∷ []
inbox-comes leg s low = ring-more (back_cell leg) (used_in leg.config.lag s.ticks) s.backs
    (s.backs + 1) low refl

pub inbox-taken : (leg : Leg) (s : Counts) (ticks : ℕ) → used_in leg.config.lag s.ticks < s.backs →
    used_in leg.config.lag ticks ≡ used_in leg.config.lag s.ticks + 1 →
    inbox leg s ≡ back_cell leg (used_in leg.config.lag s.ticks) ∷ inbox leg (record s { ticks = ticks })
inbox-taken leg s ticks low next =
    ring-less (back_cell leg) (used_in leg.config.lag s.ticks) (used_in leg.config.lag ticks) s.backs low next

-- ---- The last decision step of a walk.
pub last-next : (t : ℕ) → last_packet (t + 1) ≡ (if t % 16 == 8 then Some (t / 16) else last_packet t)
last-next t =
    elim (cases_Bool (t % 16 == 8)) [
      | inl place ↦
          let g = eqb-true (t % 16) 8 place in
          let n : steps_in (t + 1) ≡ suc (t / 16) = omega (arith, g) in
          let some : nat_lt 0 (suc (t / 16)) ≡ true = lt-ltb 0 (suc (t / 16)) (omega arith) in
          let less : suc (t / 16) - 1 ≡ t / 16 = omega arith in
          rw (place, n, some, less) refl
      | inr other ↦
          let g = eqb-false (t % 16) 8 other in
          let n : steps_in (t + 1) ≡ steps_in t =
          elim (cases_lt (t % 16) 8) [
            | inl less ↦ omega (arith, less)
            | inr more ↦ elim (cases_lt 8 (t % 16)) [
              | inl above ↦ omega (arith, above)
              | inr below ↦ absurd (g (omega (arith, more, below)))
            ]
          ] in
          rw (other, n) refl
    ]

pub used-now : (lag t : ℕ) → t % 16 ≡ 8 → lag ≤ t / 16 → used_in lag t ≡ t / 16 - lag
used-now lag t place late = omega arith

pub packet-now : (t : ℕ) → 22 < t → t % 16 ≡ 7 → (t - 23) / 16 ≡ packets_in t
packet-now t late place = omega arith

pub ends : (rows backs k : ℕ) → backs ≤ (rows - 8) / 16 → k < backs → 16 * k + 23 < rows
ends rows backs k most low = omega arith

pub said-ends : (leg : Leg) (s : Counts) (k : ℕ) → CanWalk leg → IsWalked leg s → k < s.backs →
    16 * k + 23 < s.rows
said-ends leg s k can walked low = ends s.rows s.backs k (fits leg s can walked).backs low

pub table-now : (leg : Leg) (s : Counts) → CanWalk leg → IsWalked leg s →
    (source_at (landed_scenario leg s) (told_before leg s.ticks) (steps_in s.ticks)).table
    ≡ table_in leg s.ticks
table-now leg s can walked =
    asked_all-table _ (orders_at (landed_scenario leg s) (steps_in s.ticks))
    (after (landed_scenario leg s) (told_before leg s.ticks) (steps_in s.ticks))
    ∙ ap (λ (source : Source). source.table) (told-tables leg s can walked (steps_in s.ticks) (omega arith))
