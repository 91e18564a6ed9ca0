-- The runs of spoiled rows, which containers the windows leave whole, and the cause of a row that isn't whole.
use Rattle.std.proofs.Common.{◌≡◌, ℕ, zero, suc, ◌+◌, ◌&&◌, ◌==◌, true, false, List, [], ◌∷◌, ◌++◌, length}
use Rattle.std.proofs.Common.{slice_index_or, slice_set, Option, Some, None, refl, sym, ◌∙◌, ap, ap₂, arith, inl, inr}
use Rattle.std.proofs.Common.{length-append, ◌-◌, ◌<◌, ◌≤◌, nat_le, take, drop, slice_get, subst, max, leb-true}
use Rattle.std.proofs.Common.{leb-false, le-leb, Bool}
use Rattle.std.proofs.lemmas.Bool.{cases_Bool, eqb-true, cases_lt, lt-leb, or_parts}
use Rattle.law_loss.proofs.GivenAndLostFrameLaws.{and_right}
use Rattle.fate_engine.specs.Common.{same_cause, spoiled_then, spoiled_runs, RunList, AreRuns, with_row, whole_in}
use Rattle.fate_engine.specs.Common.{least_failing, packet_cause, container_cause, cause_under, row_cause}
use Rattle.fate_engine.specs.declared.fate_law.Cause.{Cause}
use Rattle.fate_engine.specs.declared.fate_law.Cause.TheVariants.{PacketOf, Container, Packet}
use Rattle.fate_engine.specs.declared.fate_law.SpoiledRun.{SpoiledRun}
use Rattle.std.specs.List.Sorted.{IsPartitionedBy, IsPartitionPoint}
use Rattle.std.proofs.lemmas.List.{take_rest}
use Rattle.law_line.proofs.ContainerLockAndSlipLaws.{carried-early}
use Rattle.law_model.specs.Common.{carried_in, is_whole, are_whole, AreWindows, is_good, Scenario, carried_by, is_read}
use Rattle.law_model.specs.Common.{is_heard, are_known, Told, active, table_of, are_inferred, is_whole_under}
use Rattle.law_model.specs.Common.{is_whole_row}
use Rattle.law_model.specs.declared.window_types.Window.{Window}
use Rattle.law_model.specs.declared.window_types.Carried.{Carried}
use Rattle.law_model.specs.declared.window_types.Carried.TheVariants.{Whole}
use Rattle.law_model.specs.members.Damage.{carried}
use Rattle.law_model.proofs.WindowAndPathLaws.{carried-in, carried-before}
use Rattle.member_path.proofs.FailureWindowListLaws.{are-drop, carried-drop, ends-rise}
use Rattle.law_loss.proofs.ClientFrameExtentLaws.{and_false}
use Rattle.std.specs.Prelude.{◌/◌, nat_lt}
use Rattle.std.specs.List.{list_all}

-- ---- One more row behind runs of rows that aren't whole.
-- a row that is whole adds nothing
abbrev pub with_row_of : ℕ → Option Cause → List SpoiledRun → List SpoiledRun
with_row_of row None runs = runs
with_row_of row (Some cause) runs = with_row row cause runs

pub eqb-sym : (a b : ℕ) → (a == b) ≡ (b == a)
eqb-sym a b = grind arith

same-is : (a b : Cause) → same_cause a b ≡ true → a ≡ b
same-is Packet Packet is = refl
same-is Packet (PacketOf line) is = absurd cc
same-is Packet (Container line) is = absurd cc
same-is (PacketOf line) Packet is = absurd cc
same-is (PacketOf line) (PacketOf other) is = ap PacketOf (eqb-true line other is)
same-is (PacketOf line) (Container other) is = absurd cc
same-is (Container line) Packet is = absurd cc
same-is (Container line) (PacketOf other) is = absurd cc
same-is (Container line) (Container other) is = ap Container (eqb-true line other is)

-- the row in front and the one behind meet
module _ (t n : ℕ) (first cause : Cause) where
  abbrev front : SpoiledRun
  front = record { first = t; end = suc t; cause = first }

  then-none-yet : spoiled_then t (Some first) (with_row n cause []) ≡ with_row n cause (spoiled_then t (Some first) [])
  unfolding with_row
  then-none-yet =
      elim (cases_Bool (n == suc t && same_cause first cause)) [
        | inl meets ↦ (
            let same : first ≡ cause = same-is first cause (and_right (n == suc t) (same_cause first cause) meets) in
            let other : (suc t == n && same_cause first cause) ≡ true =
            ap (λ b. b && same_cause first cause) (eqb-sym (suc t) n) ∙ meets in
            rw (meets, other) (ap (λ c. record { first = t; end = suc n; cause = c } ∷ []) (sym same)))
        | inr apart ↦ (
            let other : (suc t == n && same_cause first cause) ≡ false =
            ap (λ b. b && same_cause first cause) (eqb-sym (suc t) n) ∙ apart in
            rw (apart, other) refl)
      ]

  then-some : (runs : List SpoiledRun) →
      spoiled_then t (Some first) (with_row n cause runs) ≡ with_row n cause (spoiled_then t (Some first) runs)
  unfolding with_row
  then-some [] = then-none-yet
  then-some (run ∷ []) =
      elim (cases_Bool (run.end == n && same_cause run.cause cause)) [
        | inl last ↦ elim (cases_Bool (run.first == suc t && same_cause first run.cause)) [
          | inl meets ↦ rw (last, meets) (rw last refl)
          | inr apart ↦ rw (last, apart) (rw last refl)
        ]
        | inr last ↦ elim (cases_Bool (run.first == suc t && same_cause first run.cause)) [
          | inl meets ↦ rw (last, meets) (rw last refl)
          | inr apart ↦ rw (last, apart) (rw last refl)
        ]
      ]
  then-some (run ∷ next ∷ runs) =
      elim (cases_Bool (run.first == suc t && same_cause first run.cause)) [
        | inl meets ↦ rw meets refl
        | inr apart ↦ rw apart refl
      ]

then-row : (t n : ℕ) (first cause : Option Cause) (runs : List SpoiledRun) →
    spoiled_then t first (with_row_of n cause runs) ≡ with_row_of n cause (spoiled_then t first runs)
then-row t n None cause runs = refl
then-row t n (Some first) None runs = refl
then-row t n (Some first) (Some cause) runs = then-some t n first cause runs

runs-push : (t : ℕ) (causes : List (Option Cause)) (cause : Option Cause) →
    spoiled_runs t (causes ++ cause ∷ []) ≡ with_row_of (t + length causes) cause (spoiled_runs t causes)
unfolding spoiled_runs with_row
runs-push t [] None = refl
runs-push t [] (Some cause) = ap (λ n. record { first = n; end = suc n; cause = cause } ∷ [])
    (let e : t ≡ t + 0 = omega arith in e)
runs-push t (first ∷ causes) cause =
    ap (spoiled_then t first) (runs-push (suc t) causes cause)
    ∙ then-row t (suc t + length causes) first cause (spoiled_runs (suc t) causes)
    ∙ ap (λ n. with_row_of n cause (spoiled_then t first (spoiled_runs (suc t) causes)))
    (let e : suc t + length causes ≡ t + suc (length causes) = omega arith in e)

-- what is kept of rows and one more
pub runs-more : (was now : RunList) (causes : List (Option Cause)) (cause : Option Cause) → AreRuns was causes →
    now.rows ≡ was.rows + 1 → now.runs ≡ with_row_of was.rows cause was.runs →
    AreRuns now (causes ++ cause ∷ [])
runs-more was now causes cause are rows runs = record {
  count = (let all = length-append causes (cause ∷ []) in let before = are.count in omega (arith, rows, all, before));
  are = runs ∙ ap₂ (λ n l. with_row_of n cause l)
      (are.count ∙ (let e : length causes ≡ 0 + length causes = omega arith in e)) are.are
      ∙ sym (runs-push 0 causes cause);
}

-- ---- the last run
-- the row goes on with it
pub row-meets : (items : List SpoiledRun) (row : ℕ) (cause : Cause) (i : ℕ) (run other : SpoiledRun) →
    i + 1 ≡ length items → run ≡ slice_index_or items i run → other ≡ slice_index_or items i other →
    (run.end == row && same_cause run.cause cause) ≡ true →
    slice_set items i (record { first = other.first; end = row + 1; cause = other.cause }) ≡ with_row row cause items
unfolding with_row
row-meets [] row cause i run other count there again meets = absurd (omega arith)
row-meets (own ∷ []) row cause zero run other count there again meets =
    let own-meets : (own.end == row && same_cause own.cause cause) ≡ true =
    ap (λ (r : SpoiledRun). r.end == row && same_cause r.cause cause) (sym there) ∙ meets in
    rw own-meets (ap (λ (r : SpoiledRun). record { first = r.first; end = row + 1; cause = r.cause } ∷ []) again
    ∙ ap (λ n. record { first = own.first; end = n; cause = own.cause } ∷ [])
    (let e : row + 1 ≡ suc row = omega arith in e))
row-meets (own ∷ []) row cause (suc i) run other count there again meets = absurd (omega arith)
row-meets (own ∷ next ∷ items) row cause zero run other count there again meets = absurd (omega arith)
row-meets (own ∷ next ∷ items) row cause (suc i) run other count there again meets =
    ap (λ l. own ∷ l) (row-meets (next ∷ items) row cause i run other (omega arith) there again meets)

-- it doesn't
pub row-apart : (items : List SpoiledRun) (row : ℕ) (cause : Cause) →
    ((i : ℕ) → i + 1 ≡ length items → (run : SpoiledRun) × (run ≡ slice_index_or items i run) ×
    ((run.end == row && same_cause run.cause cause) ≡ false)) →
    items ++ record { first = row; end = row + 1; cause = cause } ∷ [] ≡ with_row row cause items
unfolding with_row
row-apart [] row cause apart = ap (λ n. record { first = row; end = n; cause = cause } ∷ [])
    (let e : row + 1 ≡ suc row = omega arith in e)
row-apart (own ∷ []) row cause apart =
    let last = apart zero (omega arith) in
    let isnt : (own.end == row && same_cause own.cause cause) ≡ false =
    ap (λ (r : SpoiledRun). r.end == row && same_cause r.cause cause) (sym last.1) ∙ last.2 in
    rw isnt (ap (λ n. own ∷ record { first = row; end = n; cause = cause } ∷ [])
    (let e : row + 1 ≡ suc row = omega arith in e))
row-apart (own ∷ next ∷ items) row cause apart =
    ap (λ l. own ∷ l) (row-apart (next ∷ items) row cause (λ i count. apart (suc i) (omega arith)))

-- ---- The first window that ends above a container says whether those from it on are whole.
-- ---- containers one by one
whole-all : (carries : ℕ → Carried) (from count : ℕ) → ((n : ℕ) → from ≤ n → n < from + count → carries n ≡ Whole) →
    are_whole carries from count ≡ true
unfolding are_whole
whole-all carries from zero all = refl
whole-all carries from (suc count) all =
    let here : carries (from + count) ≡ Whole = all (from + count) (omega arith) (omega arith) in
    let before = whole-all carries from count (λ n low high. all n low (omega arith)) in
    ap (λ b. b && is_whole (carries (from + count))) before ∙ ap is_whole here

whole-none : (carries : ℕ → Carried) (from count n : ℕ) → from ≤ n → n < from + count → is_whole (carries n) ≡ false →
    are_whole carries from count ≡ false
unfolding are_whole
whole-none carries from zero n low high isnt = absurd (omega arith)
whole-none carries from (suc count) n low high isnt =
    elim (cases_lt n (from + count)) [
      | inl before ↦ ap (λ b. b && is_whole (carries (from + count))) (whole-none carries from count n low before isnt)
      | inr here ↦ (
          let same : n ≡ from + count = omega arith in
          ap (λ m. are_whole carries from count && is_whole (carries m)) (sym same)
          ∙ ap (λ b. are_whole carries from count && b) isnt ∙ and_false (are_whole carries from count))
    ]

whole-same : (one other : ℕ → Carried) (from count : ℕ) → ((n : ℕ) → from ≤ n → one n ≡ other n) →
    are_whole one from count ≡ are_whole other from count
unfolding are_whole
whole-same one other from zero same = refl
whole-same one other from (suc count) same =
    ap (λ b. b && is_whole (one (from + count))) (whole-same one other from count same)
    ∙ ap (λ c. are_whole other from count && is_whole c) (same (from + count) (omega arith))

-- ---- by the first window that ends above the first of them
spoils : (window : Window) (n : ℕ) → is_whole (carried_in window n) ≡ false
spoils window n = grind arith

first-tells : (end : ℕ) (windows : List Window) (from count : ℕ) (window : Window) → AreWindows end windows →
    Some window ≡ slice_get windows 0 → from < window.end → 0 < count →
    whole_in windows from count ≡ nat_le (from + count) window.first
unfolding AreWindows
first-tells end [] from count window are there above some = absurd cc
first-tells end (own ∷ windows) from count window are there above some =
    let same : window ≡ own = cc in
    let ends : from < own.end = subst (λ (w : Window). from < w.end) same above in
    let sign = are.1 in
    told own same (elim (cases_lt own.first (from + count)) [
      | inl inside ↦ (
          let n : ℕ = max from own.first in
          let low : from ≤ n = omega arith in
          let begins : own.first ≤ n = omega arith in
          let high : n < from + count = omega arith in
          let within : n < own.end = omega arith in
          whole-none (carried (own ∷ windows)) from count n low high
          (ap is_whole (carried-in own windows n begins within) ∙ spoils own n)
          ∙ sym (lt-leb (from + count) own.first inside))
      | inr outside ↦
          whole-all (carried (own ∷ windows)) from count (λ n low high.
          carried-before own windows n (omega arith) ∙ carried-early own.end windows n are.2 (omega arith))
          ∙ sym (le-leb (from + count) own.first outside)
    ])
  where
    told : (own : Window) → window ≡ own → whole_in (own ∷ windows) from count ≡ nat_le (from + count) own.first →
        whole_in (own ∷ windows) from count ≡ nat_le (from + count) window.first
    told own same is = is ∙ ap (λ (w : Window). nat_le (from + count) w.first) (sym same)

pub none-tells : (windows : List Window) (from count : ℕ) → None ≡ slice_get windows 0 →
    whole_in windows from count ≡ true
unfolding carried
none-tells [] from count is = whole-all (carried []) from count (λ n low high. refl)
none-tells (window ∷ windows) from count is = absurd cc

-- ---- over the search
pub parted : (list : List Window) (n : ℕ) → AreWindows 0 list → IsPartitionedBy (λ window. nat_le window.end n) list
parted list n are i j d before within ended =
    let low = leb-true (slice_index_or list j d).end n ended in
    le-leb (slice_index_or list i d).end n (omega (arith, ends-rise 0 list i j d are before within, low))

abbrev pub Parts : List Window → ℕ → ℕ → Type 0
Parts list n i = IsPartitionPoint (λ window. nat_le window.end n ≡ true) (λ window. nat_le window.end n ≡ false) list i

over : (list : List Window) (from count i : ℕ) → Parts list from i →
    whole_in list from count ≡ whole_in (drop i list) from count
over list from count i point =
    whole-same (carried list) (carried (drop i list)) from count (λ n low.
    carried-drop list n i (λ k d below inside.
    omega (arith, leb-true (slice_index_or list k d).end from (point.0 k d (omega arith) below), low)))

front-above : (list : List Window) (from i : ℕ) (window : Window) → Parts list from i →
    Some window ≡ slice_get (drop i list) 0 → from < window.end
front-above list from i window point there =
    let at = front-at list i window there in
    let above = leb-false (slice_index_or list i window).end from (point.1 i window (omega arith) at.0) in
    subst (λ (w : Window). from < w.end) at.1 above
  where
    front-at : (list : List Window) (i : ℕ) (window : Window) → Some window ≡ slice_get (drop i list) 0 →
        (i < length list) × (slice_index_or list i window ≡ window)
    front-at [] zero window there = absurd cc
    front-at [] (suc i) window there = absurd cc
    front-at (own ∷ list) zero window there = (omega arith, (let e : Some window ≡ Some own = there in cc))
    front-at (own ∷ list) (suc i) window there = let rest = front-at list i window there in
        (omega (arith, rest.0), rest.1)

pub some-tells : (list : List Window) (from count i : ℕ) (window : Window) → AreWindows 0 list → 0 < count →
    Parts list from i →
    Some window ≡ slice_get (take (length list - i) (drop i list)) 0 →
    nat_le (from + count) window.first ≡ whole_in list from count
some-tells list from count i window are some point there =
    let here : Some window ≡ slice_get (drop i list) 0 = there ∙ ap (λ l. slice_get l 0) (take_rest list i) in
    let left = are-drop 0 list i are in
    sym (over list from count i point
    ∙ first-tells left.0 (drop i list) from count window left.1 here (front-above list from i window point here)
    some)

pub nothing-tells : (list : List Window) (from count i : ℕ) → Parts list from i →
    None ≡ slice_get (take (length list - i) (drop i list)) 0 → true ≡ whole_in list from count
nothing-tells list from count i point there =
    sym (over list from count i point
    ∙ none-tells (drop i list) from count (there ∙ ap (λ l. slice_get l 0) (take_rest list i)))

-- ---- A row has a cause exactly where it isn't whole.
-- something is found exactly where a test isn't passed
record Agree {X : Type 0} (found : Option X) (passes : Bool) : Type 0 where
  pub to : found ≡ None → passes ≡ true
  pub from : passes ≡ true → found ≡ None

-- ---- of some lines
all-pass : (p : ℕ → Bool) (lines : List ℕ) → Agree (least_failing p lines) (list_all p lines)
unfolding least_failing
all-pass p [] = record { to = λ none. refl; from = λ all. refl }
all-pass p (line ∷ lines) =
    elim (cases_Bool (p line)) [
      | inl first ↦ rw first (all-pass p lines)
      | inr first ↦ rw first (record { to = λ none. absurd cc; from = λ all. absurd cc })
    ]

container-told : (found : Option ℕ) (good : Bool) → Agree found good → Agree (container_cause found) good
container-told None good agree = record { to = λ none. agree.to refl; from = λ whole. refl }
container-told (Some line) good agree =
    record { to = λ none. absurd cc; from = λ whole. absurd (let e = agree.from whole in cc) }

-- where not all are read there is one to tell of
packet-told : (found : Option ℕ) (read : Bool) → Agree found read → read ≡ false → Agree (packet_cause found) false
packet-told None read agree cut = absurd (let e : true ≡ false = sym (agree.to refl) ∙ cut in cc)
packet-told (Some line) read agree cut = record { to = λ none. absurd cc; from = λ whole. absurd cc }

-- ---- of a row
module _ (scenario : Scenario) (cells : List (Option Told)) (k t : ℕ) where
  abbrev lines : List ℕ
  lines = active (table_of scenario cells k)

  abbrev reads : ℕ → Bool
  reads line = is_read scenario line k

  abbrev keeps : ℕ → Bool
  keeps line = is_good (carried_by scenario line) t

  under : Agree (cause_under scenario cells k t) (is_whole_under scenario cells k t)
  under =
      elim (cases_Bool (is_heard scenario k)) [
        | inl heard ↦ elim (cases_Bool (are_known scenario cells k)) [
          | inl known ↦ rw (heard, known)
              (container-told (least_failing keeps lines) (list_all keeps lines) (all-pass keeps lines))
          | inr hidden ↦ (
              let parts = or_parts (list_all reads lines) (scenario.options.infers && are_inferred scenario cells k)
              hidden in
              rw (heard, hidden)
              (packet-told (least_failing reads lines) (list_all reads lines) (all-pass reads lines) parts.0))
        ]
        | inr none ↦ rw none (record { to = λ none. absurd cc; from = λ all. absurd cc })
      ]

row : (scenario : Scenario) (cells : List (Option Told)) (t : ℕ) →
    Agree (row_cause scenario cells t) (is_whole_row scenario cells t)
row scenario cells t =
    elim (cases_Bool (nat_lt t 24)) [
      | inl early ↦ rw early (record { to = λ none. refl; from = λ all. refl })
      | inr later ↦ rw later (under scenario cells ((t - 24) / 16) t)
    ]

pub cause-whole : (scenario : Scenario) (cells : List (Option Told)) (t : ℕ) →
    (row_cause scenario cells t ≡ None → is_whole_row scenario cells t ≡ true) ×
    (is_whole_row scenario cells t ≡ true → row_cause scenario cells t ≡ None)
cause-whole scenario cells t = ((row scenario cells t).to, (row scenario cells t).from)
