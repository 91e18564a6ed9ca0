-- A walk by the clock: which items land with a tick, which lines carry in a round, and the counts after some rounds.
use Rattle.std.proofs.Common.{◌≡◌, ◌↔◌, ℕ, zero, suc, ◌+◌, ◌<◌, ◌≤◌, nat_lt, inl, inr, List, [], ◌∷◌, length}
use Rattle.std.proofs.Common.{replicate, Some, None, slice_get, refl, sym, ◌∙◌, ap, subst, arith, ◌-◌, min}
use Rattle.std.proofs.Common.{nat_le, ◌&&◌, false, ◌++◌, slice_set, ap₂, append_assoc, length-append, leb-false}
use Rattle.std.proofs.Common.{append-nil, ◌*◌, ◌%◌, ◌==◌}
use Rattle.std.specs.List.Sorted.{IsNonDecreasing}
use Rattle.std.proofs.lemmas.Bool.{cases_Bool, cases_lt, lt-leb, lt-ltb, le-ltb, le-leb, leb-true, eqb-true}
use Rattle.std.proofs.lemmas.Option.{slice_get_within, get_or_from_slice_get, same_Some}
use Rattle.law_model.specs.declared.walk_events.Event.TheVariants.{Command, Accept, Carry, Back, Take, Tick}
use Rattle.law_model.specs.Common.{frame_dues, command_dues, Plan, Counts}
use Rattle.law_model.specs.Common.{run, LinePath, LineCounts, in_send, in_receive, full, carry_on}
use Rattle.law_model.specs.Common.{carry_at, pop, popped_line, pop_lines, step, carries_from, in_return, in_inbox}
use Rattle.law_model.specs.Common.{is_missing, is_back_full, take_row, begin, round, drain, bound, Step}
use Rattle.law_model.proofs.ListLaws.{rest-in_order, slice_get-append_seam, slice_get-inside}
use Rattle.law_loss.proofs.ClientFrameExtentLaws.{and_false}
use Rattle.law_progress.specs.Progress.{IsSound, IsPlanOf, Each, LineFits, Fits}
use Rattle.law_model.specs.declared.walk_events.Event.{Event}
use Rattle.law_model.specs.session.Counts.{back}
use Rattle.law_model.specs.session.Scenario.{packets_in}
use Rattle.law_progress.proofs.EventBoundAndStallCauseLaws.{each-map, each-with}
use Rattle.law_progress.proofs.EventOutcomeLaws.{take-gives}
use Rattle.law_progress.proofs.RoundProgressAndDrainLaws.{drain-stop, step-fits, run-fits, begin-fits, drain-round}
use Rattle.law_progress.proofs.RoundProgressAndDrainLaws.{run-append}
use Rattle.law_live.proofs.LiveRoundAndLandingLaws.{Here, accepts as accepts-land, commands as commands-land, few-commands}
use Rattle.law_live.proofs.LiveRoundAndLandingLaws.{few-frames, none-held}
use Rattle.law_service.specs.ClockedWalk.{after_rounds, KeepsTime}

-- ---- The items that land with a tick that is made by the clock: all that are due, and no others.
-- ---- which have landed
-- those are the ones that are due before a tick
abbrev pub AreBefore : ℕ → List ℕ → ℕ → Type 0
AreBefore tick dues a = (i due : ℕ) → slice_get dues i ≡ Some due → (i < a) ↔ (due < tick)

abbrev pub DueBelow : ℕ → List ℕ → ℕ → Type 0
DueBelow ticks dues a = (i due : ℕ) → i < a → slice_get dues i ≡ Some due → due ≤ ticks

dues-rise : (dues : List ℕ) (i j early late : ℕ) → IsNonDecreasing dues → i ≤ j → slice_get dues i ≡ Some early →
    slice_get dues j ≡ Some late → early ≤ late
dues-rise dues i j early late order low one other =
    let inside = slice_get_within dues j late other in
    let f = get_or_from_slice_get dues j late 0 other in
    omega (arith, get_or_from_slice_get dues i early 0 one, f, order i j 0 low inside)

here-more : (from until due count : ℕ) (dues : List ℕ) → due ≤ from → Here dues from until count →
    Here (due ∷ dues) from until (suc count)
here-more from until due count dues now here =
    record { early = early; few = (let few = here.few in omega (arith, few)); late = late }
  where
    early : (i other : ℕ) → i < suc count → slice_get (due ∷ dues) i ≡ Some other → other ≤ from
    early zero other inside there = let same = same_Some due other there in omega (arith, same, now)
    early (suc i) other inside there = here.early i other (omega (arith, inside)) there

    late : (i other : ℕ) → suc count ≤ i → slice_get (due ∷ dues) i ≡ Some other → until ≤ other
    late zero other beyond there = absurd (omega (arith, beyond))
    late (suc i) other beyond there = here.late i other (omega (arith, beyond)) there

-- how many are due by a tick
due-by : (ticks : ℕ) (dues : List ℕ) → IsNonDecreasing dues → (count : ℕ) × Here dues ticks (suc ticks) count
due-by ticks [] order = (
  0,
  record {
    early = λ i due inside there. absurd cc;
    few = omega arith;
    late = λ i due beyond there. absurd cc;
  },
)
due-by ticks (due ∷ dues) order = elim (cases_lt ticks due) [
  | inl late ↦ (
    0,
    record {
      early = λ i other inside there. absurd (omega (arith, inside));
      few = omega arith;
      late = λ i other beyond there.
          let up = dues-rise (due ∷ dues) 0 i due other order (omega arith) refl there in omega (arith, late, up);
    },
  )
  | inr now ↦
      let (count, here) = due-by ticks dues (rest-in_order due dues order) in
      (suc count, here-more ticks (suc ticks) due count dues now here)
]

-- where no more have landed than are due
below-few : (ticks a count : ℕ) (dues : List ℕ) → DueBelow ticks dues a → a ≤ length dues →
    Here dues ticks (suc ticks) count → a ≤ count
below-few ticks a count dues before few here = elim (cases_lt count a) [
  | inr more ↦ more
  | inl less ↦
      let (due, there) = slice_get-inside dues count (omega (arith, less, few)) in
      let now = before count due less there in
      let late = here.late count due (omega arith) there in
      absurd (omega (arith, now, late))
]

pub before-below : (tick ticks : ℕ) (dues : List ℕ) (a : ℕ) → tick ≤ ticks + 1 → AreBefore tick dues a →
    DueBelow ticks dues a
before-below tick ticks dues a low are i due inside here =
    let early = (are i due here).0 inside in omega (arith, early, low)

pub landed-before : (ticks tick : ℕ) (dues : List ℕ) (a : ℕ) → tick ≡ ticks + 1 → Here dues ticks (suc ticks) a →
    AreBefore tick dues a
landed-before ticks tick dues a same landed i due here = (
  λ inside. let early = landed.early i due inside here in omega (arith, early, same),
  λ early. elim (cases_lt i a) [
    | inl inside ↦ inside
    | inr past ↦ absurd (let late = landed.late i due past here in omega (arith, late, early, same))
  ],
)

-- ---- The lines of a walk by the clock: each carries once in a round, and has the cells of the row that is taken.
-- ---- lines after some rounds
abbrev pub IsCarried : ℕ → ℕ → LinePath → LineCounts → Type 0
IsCarried total count path line = line.carried ≡ min count (total + path.delay + 1)

-- and none has more cells popped than it gave
abbrev pub IsGiven : ℕ → ℕ → LinePath → LineCounts → Type 0
IsGiven total count path line = IsCarried total count path line × (line.popped ≤ path.given line.carried)

pub none-full : (total ticks count m : ℕ) (paths : List LinePath) (lines : List LineCounts) → ticks ≡ min count total →
    Each (IsCarried total count) paths lines → full total ticks m lines ≡ None
unfolding Each full
none-full total ticks count m [] [] is each = refl
none-full total ticks count m [] (line ∷ lines) is each = absurd each
none-full total ticks count m (path ∷ paths) [] is each = absurd each
none-full total ticks count m (path ∷ paths) (line ∷ lines) is each =
    rw (lt-leb 32 (in_send total ticks line) (omega (arith, is, each.0)))
    (none-full total ticks count (suc m) paths lines is each.1)

each-push : (P : LinePath → LineCounts → Type 0) (paths : List LinePath) (lines : List LineCounts) (path : LinePath)
    (line : LineCounts) → Each P paths lines → P path line → Each P (paths ++ path ∷ []) (lines ++ line ∷ [])
unfolding Each
each-push P [] [] path line each new = (new, tt)
each-push P [] (other ∷ lines) path line each new = absurd each
each-push P (first ∷ paths) [] path line each new = absurd each
each-push P (first ∷ paths) (other ∷ lines) path line each new = (each.0, each-push P paths lines path line each.1 new)

set-seam : (front : List LineCounts) (line new : LineCounts) (back : List LineCounts) →
    slice_set (front ++ line ∷ back) (length front) new ≡ front ++ new ∷ back
set-seam [] line new back = refl
set-seam (first ∷ front) line new back = ap (λ l. first ∷ l) (set-seam front line new back)

-- a line before its carry, where so many rows are taken
pub record Waits (plan : Plan) (slow fast count rows : ℕ) (path : LinePath) (line : LineCounts) : Type 0 where
  pub sound : IsSound plan.ticks slow fast 0 path
  pub carried : IsCarried plan.ticks count path line
  pub pops : line.popped ≤ path.given line.carried
  pub decides : rows ≤ path.decided line.popped

abbrev pub of_lines : Counts → List LineCounts → Counts
of_lines s lines = record s { lines = lines }

-- ---- each line carries once
module _ (plan : Plan) (slow fast count : ℕ) (is : IsPlanOf slow fast 0 plan) (s : Counts)
    (ticks_is : s.ticks ≡ min (suc count) plan.ticks) (rows_is : s.rows ≡ min (count - slow) plan.ticks) where
  abbrev WaitsHere : LinePath → LineCounts → Type 0
  WaitsHere path line = Waits plan slow fast count s.rows path line

  sends : (path : LinePath) (line : LineCounts) → WaitsHere path line →
      (nat_lt line.carried plan.ticks && nat_le (in_send plan.ticks s.ticks line) 0) ≡ false
  sends path line waits = elim (cases_lt line.carried plan.ticks) [
    | inl less ↦
        rw (lt-leb (in_send plan.ticks s.ticks line) 0 (omega (arith, waits.carried, ticks_is, less)))
        (and_false (nat_lt line.carried plan.ticks))
    | inr more ↦ rw (le-ltb line.carried plan.ticks more) refl
  ]

  has-room : (path : LinePath) (line : LineCounts) → WaitsHere path line → line.carried ≤ plan.ticks + path.delay →
      in_receive path line < plan.ring
  has-room path line waits open_ =
      let left = waits.sound.is_path.left line.carried line.popped (omega (arith, open_)) waits.pops in
      let most = waits.sound.most in
      let least = waits.sound.least in
      omega (arith, left, waits.carried, waits.decides, most, least, is.spread, is.ring, rows_is, open_)

  carry-one : (m : ℕ) (path : LinePath) (line : LineCounts) (front back : List LineCounts) → length front ≡ m →
      WaitsHere path line → (next : LineCounts) × IsGiven plan.ticks (suc count) path next ×
      ((carry_on plan (of_lines s (front ++ line ∷ back)) m path line).counts ≡ of_lines s (front ++ next ∷ back))
  carry-one m path line front back size waits = elim (cases_lt (plan.ticks + path.delay) line.carried) [
    | inl ended ↦
        let carried = waits.carried in (
          line,
          (omega (arith, carried, ended), waits.pops),
          rw (lt-ltb (plan.ticks + path.delay) line.carried ended) refl,
        )
    | inr open_ ↦
        let carried = waits.carried in
        let one = (waits.sound.is_path.one line.carried open_).0 in (
          record line { carried = line.carried + 1 },
          (omega (arith, carried, open_), omega (arith, waits.pops, one)),
          rw (
            le-ltb (plan.ticks + path.delay) line.carried open_,
            sends path line waits,
            lt-leb plan.ring (in_receive path line) (has-room path line waits open_),
          )
              (ap (of_lines s) (ap (λ m. slice_set (front ++ line ∷ back) m (record line { carried = line.carried + 1 }))
              (sym size) ∙ set-seam front line (record line { carried = line.carried + 1 }) back)),
        )
  ]

  pub carries-clock : (todo done : List LinePath) (front back : List LineCounts) → plan.paths ≡ done ++ todo →
      length front ≡ length done → Each (IsGiven plan.ticks (suc count)) done front → Each WaitsHere todo back →
      (lines : List LineCounts) × Each (IsGiven plan.ticks (suc count)) plan.paths lines ×
      (run plan (of_lines s (front ++ back)) (carries_from (length done) todo)
      ≡ run plan (of_lines s lines) (Back ∷ Take ∷ []))
  unfolding run carries_from Each
  carries-clock [] done front [] parts size each waits = (
    front,
    subst (λ paths. Each (IsGiven plan.ticks (suc count)) paths front) (sym (parts ∙ append-nil done)) each,
    ap (λ lines. run plan (of_lines s lines) (Back ∷ Take ∷ [])) (append-nil front),
  )
  carries-clock [] done front (line ∷ back) parts size each waits = absurd waits
  carries-clock (path ∷ todo) done front [] parts size each waits = absurd waits
  carries-clock (path ∷ todo) done front (line ∷ back) parts size each waits =
      let (next, new, moved) = carry-one (length done) path line front back size waits.0 in
      let lines : List LineCounts = front ++ line ∷ back in
      let p : slice_get plan.paths (length done) ≡ Some path =
      ap (λ paths. slice_get paths (length done)) parts ∙ slice_get-append_seam done path todo in
      let l : slice_get lines (length done) ≡ Some line = ap (slice_get lines) (sym size)
      ∙ slice_get-append_seam front line back in
      let here : (step plan (of_lines s lines) (Carry (length done))).counts ≡ of_lines s (front ++ next ∷ back) =
      ap₂ (λ p l. (carry_at plan (of_lines s lines) (length done) p l).counts) p l ∙ moved in
      let longer : length (done ++ path ∷ []) ≡ suc (length done) = omega (arith, length-append done (path ∷ [])) in
      let rest = carries-clock todo (done ++ path ∷ []) (front ++ next ∷ []) back
      (parts ∙ sym (append_assoc done (path ∷ []) todo))
      (omega (arith, length-append front (next ∷ []), longer, size))
      (each-push (IsGiven plan.ticks (suc count)) done front path next each new) waits.1 in (
        rest.0,
        rest.1,
        ap (λ (c : Counts). run plan c (carries_from (suc (length done)) todo)) here
            ∙ ap (λ lines. run plan (of_lines s lines) (carries_from (suc (length done)) todo))
            (sym (append_assoc front (next ∷ []) back))
            ∙ ap (λ m. run plan (of_lines s ((front ++ next ∷ []) ++ back)) (carries_from m todo)) (sym longer)
            ∙ rest.2,
      )

-- ---- a row is taken
-- a line has the cells of the row
pub record Decides (t : ℕ) (path : LinePath) (line : LineCounts) : Type 0 where
  pub rises : (y : ℕ) → path.decided y ≤ path.decided (suc y)
  pub pops : line.popped ≤ path.given line.carried
  pub all : t < path.decided (path.given line.carried)

pop-ready : (path : LinePath) (t n y : ℕ) → t < path.decided (y + n) → t < path.decided (pop n path t y)
unfolding pop
pop-ready path t zero y all = subst (λ y. t < path.decided y) (let e : y + zero ≡ y = omega arith in e) all
pop-ready path t (suc n) y all = elim (cases_Bool (nat_le (path.decided y) t)) [
  | inl low ↦ rw low
      (pop-ready path t n (suc y)
      (subst (λ y. t < path.decided y) (let e : y + suc n ≡ suc y + n = omega arith in e) all))
  | inr high ↦ rw high (leb-false (path.decided y) t high)
]

pub ready-pops : (t m : ℕ) (paths : List LinePath) (lines : List LineCounts) → Each (Decides t) paths lines →
    (pop_lines t m paths lines).waiting ≡ None
unfolding pop_lines Each
ready-pops t m [] [] each = refl
ready-pops t m [] (line ∷ lines) each = absurd each
ready-pops t m (path ∷ paths) [] each = absurd each
ready-pops t m (path ∷ paths) (line ∷ lines) each =
    let end : path.given line.carried ≡ line.popped + in_receive path line = omega (arith, each.0.pops) in
    let high : t < path.decided (popped_line path t line).popped =
    pop-ready path t (in_receive path line) line.popped (subst (λ y. t < path.decided y) end each.0.all) in
    rw (lt-leb (path.decided (popped_line path t line).popped) t high) (ready-pops t (suc m) paths lines each.1)

pub pops-carried : (total count t m : ℕ) (paths : List LinePath) (lines : List LineCounts) →
    Each (IsCarried total count) paths lines → Each (IsCarried total count) paths (pop_lines t m paths lines).lines
unfolding pop_lines Each
pops-carried total count t m [] [] each = tt
pops-carried total count t m [] (line ∷ lines) each = absurd each
pops-carried total count t m (path ∷ paths) [] each = absurd each
pops-carried total count t m (path ∷ paths) (line ∷ lines) each =
    elim (cases_Bool (nat_le (path.decided (popped_line path t line).popped) t)) [
      | inl low ↦ rw low each
      | inr high ↦ rw high (each.0, pops-carried total count t (suc m) paths lines each.1)
    ]

-- the line beside a path
pub line-beside : (P : LinePath → LineCounts → Type 0) (paths : List LinePath) (lines : List LineCounts) (m : ℕ)
    (path : LinePath) → Each P paths lines → slice_get paths m ≡ Some path → (line : LineCounts) × P path line
unfolding Each
line-beside P [] [] m path each here = absurd cc
line-beside P [] (line ∷ lines) m path each here = absurd each
line-beside P (first ∷ paths) [] m path each here = absurd each
line-beside P (first ∷ paths) (line ∷ lines) zero path each here =
    let e : first ≡ path = cc in (line, subst (λ path. P path line) e each.0)
line-beside P (first ∷ paths) (line ∷ lines) (suc m) path each here = line-beside P paths lines m path each.1 here

-- ---- A walk by the clock: what is after some rounds.
-- ---- Tick
-- the return packet that a decision step takes has come
has-come : (plan : Plan) (slow : ℕ) (s : Counts) → 17 + slow ≤ 16 * plan.lag →
    packets_in (s.ticks - 1 - slow) ≤ s.backs → is_missing plan s ≡ false
has-come plan slow s lag come = elim (cases_Bool (nat_le (16 * plan.lag + 8) s.ticks)) [
  | inr early ↦ rw early refl
  | inl late ↦ elim (cases_Bool (s.ticks % 16 == 8)) [
    | inr other ↦ rw (late, other) refl
    | inl place ↦
        let low = leb-true (16 * plan.lag + 8) s.ticks late in
        let is = eqb-true (s.ticks % 16) 8 place in
        rw (late, place) (lt-leb (in_inbox plan s) 0 (omega (arith, lag, come, low, is)))
  ]
]

tick-clock : (plan : Plan) (slow count : ℕ) (s : Counts) → 17 + slow ≤ 16 * plan.lag →
    s.ticks ≡ min count plan.ticks → Here (frame_dues plan.items) s.ticks (suc s.ticks) s.frames →
    Here (command_dues plan.items) s.ticks (suc s.ticks) s.commands → Each (IsCarried plan.ticks count) plan.paths s.lines →
    s.backs ≡ packets_in (min (count - 1 - slow) plan.ticks) →
    (step plan s Tick).counts ≡ record s { ticks = min (suc count) plan.ticks }
tick-clock plan slow count s lag ticks_is frames commands lines backs_are = elim (cases_lt s.ticks plan.ticks) [
  | inr done ↦
      let e : s.ticks ≡ min (suc count) plan.ticks = omega (arith, done, ticks_is) in
      rw (le-leb plan.ticks s.ticks done) (ap (λ n. record s { ticks = n }) e)
  | inl open_ ↦
      let e : min (count - 1 - slow) plan.ticks ≡ s.ticks - 1 - slow = omega (arith, open_, ticks_is) in
      let backs : s.backs ≡ packets_in (s.ticks - 1 - slow) = backs_are ∙ ap (λ n. packets_in n) e in
      let f : s.ticks + 1 ≡ min (suc count) plan.ticks = omega (arith, open_, ticks_is) in
      rw (
        lt-leb plan.ticks s.ticks open_,
        none-held s.ticks s.frames s.commands 0 plan.items frames.late commands.late,
        none-full plan.ticks s.ticks count 0 plan.paths s.lines ticks_is lines,
        has-come plan slow s lag (omega (arith, backs)),
      )
      (ap (λ n. record s { ticks = n }) f)
]

-- ---- Back
back-clock : (s : Counts) → s.backs ≤ packets_in s.rows → packets_in s.rows ≤ s.backs + 1 →
    (back s).counts ≡ record s { backs = packets_in s.rows }
back-clock s low high = elim (cases_lt s.backs (packets_in s.rows)) [
  | inl some ↦
      let e : s.backs + 1 ≡ packets_in s.rows = omega (arith, some, high) in
      rw (lt-leb (in_return s) 0 (omega (arith, some))) (ap (λ n. record s { backs = n }) e)
  | inr none ↦
      let e : s.backs ≡ packets_in s.rows = omega (arith, none, low) in
      rw (le-leb (in_return s) 0 (omega (arith, none))) (ap (λ n. record s { backs = n }) e)
]

-- ---- Take
abbrev HasShape : Counts → Step → Type 0
HasShape s next = next.counts ≡ record s { lines = next.counts.lines; rows = next.counts.rows }

take-shape : (plan : Plan) (s : Counts) → HasShape s (take_row plan s)
take-shape plan s = take-gives (HasShape s) plan s (λ cause. refl) (λ line. refl) refl

take-lines : (plan : Plan) (count : ℕ) (s : Counts) → Each (IsCarried plan.ticks count) plan.paths s.lines →
    Each (IsCarried plan.ticks count) plan.paths (take_row plan s).counts.lines
take-lines plan count s each =
    let popped = pops-carried plan.ticks count s.rows 0 plan.paths s.lines each in
    take-gives (λ next. Each (IsCarried plan.ticks count) plan.paths next.counts.lines) plan s (λ cause. each)
    (λ line. popped) popped

take-done : (plan : Plan) (s : Counts) → plan.ticks ≤ s.rows → (take_row plan s).counts.rows ≡ s.rows
take-done plan s done = rw (le-leb plan.ticks s.rows done) refl

not-full : (s : Counts) → s.backs ≡ packets_in s.rows → is_back_full s ≡ false
not-full s all = rw (lt-leb 4 (in_return s) (omega (arith, all))) (and_false (nat_le 23 s.rows && s.rows % 16 == 7))

take-moves : (plan : Plan) (s : Counts) → s.rows < plan.ticks → s.backs ≡ packets_in s.rows →
    Each (Decides s.rows) plan.paths s.lines → (take_row plan s).counts.rows ≡ s.rows + 1
take-moves plan s open_ all each =
    rw (lt-leb plan.ticks s.rows open_, not-full s all, ready-pops s.rows 0 plan.paths s.lines each) refl

-- ---- what is after some rounds
pub record AtRound (slow : ℕ) (plan : Plan) (count : ℕ) (s : Counts) : Type 0 where
  pub ticks : s.ticks ≡ min count plan.ticks
  pub frames : AreBefore (min count (plan.ticks + 1)) (frame_dues plan.items) s.frames
  pub commands : AreBefore (min count (plan.ticks + 1)) (command_dues plan.items) s.commands
  pub lines : Each (IsCarried plan.ticks count) plan.paths s.lines
  pub rows : s.rows ≡ min (count - slow) plan.ticks
  pub backs : s.backs ≡ packets_in (min (count - 1 - slow) plan.ticks)

begun-lines : (total : ℕ) (paths : List LinePath) →
    Each (IsCarried total 0) paths (replicate (length paths) (record { carried = 0; popped = 0 }))
unfolding Each
begun-lines total [] = tt
begun-lines total (path ∷ paths) = (omega arith, begun-lines total paths)

begins : (slow : ℕ) (plan : Plan) → AtRound slow plan 0 (begin plan)
begins slow plan = record {
  ticks = omega arith;
  frames = λ i due here. (λ inside. absurd (omega (arith, inside)), λ early. absurd (omega (arith, early)));
  commands = λ i due here. (λ inside. absurd (omega (arith, inside)), λ early. absurd (omega (arith, early)));
  lines = begun-lines plan.ticks plan.paths;
  rows = omega arith;
  backs = omega arith;
}

each-both : (P Q : LinePath → LineCounts → Type 0) (paths : List LinePath) (lines : List LineCounts) →
    Each P paths lines → Each Q paths lines → Each (λ path line. P path line × Q path line) paths lines
unfolding Each
each-both P Q [] [] one other = tt
each-both P Q [] (line ∷ lines) one other = absurd one
each-both P Q (path ∷ paths) [] one other = absurd one
each-both P Q (path ∷ paths) (line ∷ lines) one other =
    ((one.0, other.0), each-both P Q paths lines one.1 other.1)

-- no more rows are taken than the slowest line has carried
rows-upper : (slow fast : ℕ) (plan : Plan) (count : ℕ) (s : Counts) → KeepsTime slow fast plan → Fits plan s →
    Each (IsCarried plan.ticks count) plan.paths s.lines → s.rows ≤ count - slow
rows-upper slow fast plan count s keeps fits lines =
    let all = each-with (IsSound plan.ticks slow fast 0)
    (λ path line. LineFits plan.ticks plan.ring s.ticks s.rows path line × IsCarried plan.ticks count path line)
    plan.paths s.lines keeps.is_plan.paths
    (each-both (LineFits plan.ticks plan.ring s.ticks s.rows) (IsCarried plan.ticks count) plan.paths s.lines fits.lines
    lines) in
    let (line, is) = line-beside (λ path line. IsSound plan.ticks slow fast 0 path ×
    (LineFits plan.ticks plan.ring s.ticks s.rows path line × IsCarried plan.ticks count path line))
    plan.paths s.lines keeps.slowest.line keeps.slowest.path all keeps.slowest.there in
    let early = is.0.is_path.early line.carried line.popped is.1.0.carries is.1.0.pops in
    omega (arith, early, is.1.0.decides, is.1.1, keeps.slowest.is)

-- ---- one round
module _ (slow fast : ℕ) (plan : Plan) (keeps : KeepsTime slow fast plan) (count : ℕ) (s : Counts)
    (at_ : AtRound slow plan count s) (fits : Fits plan s) where
  abbrev most : ℕ
  most = suc (length plan.items)

  abbrev accepts : List Event
  accepts = replicate most Accept

  abbrev commands : List Event
  commands = replicate most Command

  abbrev carries : List Event
  carries = carries_from 0 plan.paths

  abbrev due_frames : (a : ℕ) × Here (frame_dues plan.items) s.ticks (suc s.ticks) a
  due_frames = due-by s.ticks (frame_dues plan.items) keeps.is_plan.frames

  abbrev due_commands : (b : ℕ) × Here (command_dues plan.items) s.ticks (suc s.ticks) b
  due_commands = due-by s.ticks (command_dues plan.items) keeps.is_plan.commands

  abbrev landed : Counts
  landed = record s { frames = due_frames.0 }

  abbrev asked : Counts
  asked = record landed { commands = due_commands.0 }

  abbrev ticked : Counts
  ticked = record asked { ticks = min (suc count) plan.ticks }

  below : (dues : List ℕ) (a : ℕ) → AreBefore (min count (plan.ticks + 1)) dues a → DueBelow s.ticks dues a
  below dues a before = let ticks_is = at_.ticks in
      before-below (min count (plan.ticks + 1)) s.ticks dues a (omega (arith, ticks_is)) before

  accepts-run : run plan s accepts ≡ landed
  accepts-run =
      let few = due_frames.1.few in
      accepts-land plan most s due_frames.0
      (below-few s.ticks s.frames due_frames.0 (frame_dues plan.items)
      (below (frame_dues plan.items) s.frames at_.frames) fits.frames due_frames.1)
      (omega (arith, few, few-frames plan.items)) due_frames.1

  commands-run : run plan landed commands ≡ asked
  commands-run =
      let few = due_commands.1.few in
      commands-land plan most landed due_commands.0
      (below-few s.ticks s.commands due_commands.0 (command_dues plan.items)
      (below (command_dues plan.items) s.commands at_.commands) fits.commands due_commands.1)
      (omega (arith, few, few-commands plan.items)) due_commands.1

  tick-is : (step plan asked Tick).counts ≡ ticked
  tick-is = tick-clock plan slow count asked keeps.lag at_.ticks due_frames.1 due_commands.1 at_.lines
      at_.backs

  ticked-fits : Fits plan ticked
  ticked-fits =
      let one : Fits plan landed =
      subst (Fits plan) accepts-run (run-fits slow fast 0 plan keeps.is_plan s accepts fits).0 in
      let two : Fits plan asked = subst (Fits plan) commands-run
      (run-fits slow fast 0 plan keeps.is_plan landed commands one).0 in
      subst (Fits plan) tick-is (step-fits slow fast 0 plan keeps.is_plan asked Tick two).0

  waits : Each (Waits plan slow fast count s.rows) plan.paths s.lines
  waits = each-map (λ path line. IsSound plan.ticks slow fast 0 path ×
      (LineFits plan.ticks plan.ring ticked.ticks s.rows path line × IsCarried plan.ticks count path line))
      (Waits plan slow fast count s.rows) plan.paths s.lines
      (λ path line all. record {
        sound = all.0;
        carried = all.1.1;
        pops = all.1.0.pops;
        decides = all.1.0.decides;
      })
      (each-with (IsSound plan.ticks slow fast 0)
      (λ path line. LineFits plan.ticks plan.ring ticked.ticks s.rows path line × IsCarried plan.ticks count path line)
      plan.paths s.lines keeps.is_plan.paths
      (each-both (LineFits plan.ticks plan.ring ticked.ticks s.rows) (IsCarried plan.ticks count) plan.paths s.lines
      ticked-fits.lines at_.lines))

  abbrev Carried : Type 0
  Carried = (lines : List LineCounts) × Each (IsGiven plan.ticks (suc count)) plan.paths lines ×
      (run plan ticked carries ≡ run plan (of_lines ticked lines) (Back ∷ Take ∷ []))

  carried : Carried
  unfolding Each
  carried = carries-clock plan slow fast count keeps.is_plan ticked refl at_.rows plan.paths [] [] s.lines refl refl tt
      waits

  abbrev lines : List LineCounts
  lines = carried.0

  abbrev backed : Counts
  backed = record ticked { lines = lines; backs = packets_in s.rows }

  back-is : (back (of_lines ticked lines)).counts ≡ backed
  back-is =
      let rows_are = at_.rows in
      let backs_are = at_.backs in
      back-clock (of_lines ticked lines) (omega (arith, rows_are, backs_are)) (omega (arith, rows_are, backs_are))

  abbrev end : Counts
  end = (take_row plan backed).counts

  end-is : run plan s (round plan) ≡ end
  unfolding run
  end-is =
      run-append plan s accepts (commands ++ Tick ∷ carries)
      ∙ ap (λ (c : Counts). run plan c (commands ++ Tick ∷ carries)) accepts-run
      ∙ run-append plan landed commands (Tick ∷ carries)
      ∙ ap (λ (c : Counts). run plan c (Tick ∷ carries)) commands-run
      ∙ ap (λ (c : Counts). run plan c carries) tick-is
      ∙ carried.2
      ∙ ap (λ (c : Counts). (take_row plan c).counts) back-is

  end-fits : Fits plan end
  end-fits = subst (Fits plan) end-is (run-fits slow fast 0 plan keeps.is_plan s (round plan) fits).0

  given-carried : Each (IsCarried plan.ticks (suc count)) plan.paths lines
  given-carried = each-map (IsGiven plan.ticks (suc count)) (IsCarried plan.ticks (suc count)) plan.paths lines
      (λ path line given. given.0) carried.1

  end-lines : Each (IsCarried plan.ticks (suc count)) plan.paths end.lines
  end-lines = take-lines plan (suc count) backed given-carried

  -- each line has the cells of the row
  decides-one : slow ≤ count → s.rows < plan.ticks → (path : LinePath) (line : LineCounts) →
      IsSound plan.ticks slow fast 0 path × IsGiven plan.ticks (suc count) path line → Decides s.rows path line
  decides-one enough open_ path line (sound, given) = record {
    rises = sound.is_path.rises;
    pops = given.1;
    all = elim (cases_lt (plan.ticks + path.delay) line.carried) [
      | inl ended ↦
          let last : line.carried ≡ plan.ticks + path.delay + 1 = omega (arith, ended, given.0) in
          let told : path.decided (path.given line.carried) ≡ plan.ticks =
          ap (λ x. path.decided (path.given x)) last ∙ sound.is_path.ended in
          omega (arith, told, open_)
      | inr more ↦
          let late = sound.is_path.late line.carried more in
          omega (arith, late, sound.most, at_.rows, given.0, more, enough, open_)
    ];
  }

  decides-all : slow ≤ count → s.rows < plan.ticks → Each (Decides s.rows) plan.paths lines
  decides-all enough open_ =
      each-map (λ path line. IsSound plan.ticks slow fast 0 path × IsGiven plan.ticks (suc count) path line)
      (Decides s.rows) plan.paths lines (decides-one enough open_)
      (each-with (IsSound plan.ticks slow fast 0) (IsGiven plan.ticks (suc count)) plan.paths lines keeps.is_plan.paths
      carried.1)

  end-rows : end.rows ≡ min (suc count - slow) plan.ticks
  end-rows =
      let rows_are = at_.rows in
      elim (cases_lt s.rows plan.ticks) [
        | inr done ↦ let same = take-done plan backed done in omega (arith, same, done, rows_are)
        | inl open_ ↦ elim (cases_lt count slow) [
          | inr enough ↦
              let more = take-moves plan backed open_ refl (decides-all enough open_) in
              omega (arith, more, rows_are, open_, enough)
          | inl early ↦
              omega (arith, rows-upper slow fast plan (suc count) end keeps end-fits end-lines, early)
        ]
      ]

  at-next : AtRound slow plan (suc count) end
  at-next =
      let shape = take-shape plan backed in
      let tick : min (suc count) (plan.ticks + 1) ≡ s.ticks + 1 = omega (arith, at_.ticks) in
      let e : min (count - slow) plan.ticks ≡ min (suc count - 1 - slow) plan.ticks = omega arith in
      record {
        ticks = ap (λ (c : Counts). c.ticks) shape;
        frames = subst (AreBefore (min (suc count) (plan.ticks + 1)) (frame_dues plan.items))
            (sym (ap (λ (c : Counts). c.frames) shape))
            (landed-before s.ticks (min (suc count) (plan.ticks + 1)) (frame_dues plan.items) landed.frames tick
            due_frames.1);
        commands = subst (AreBefore (min (suc count) (plan.ticks + 1)) (command_dues plan.items))
            (sym (ap (λ (c : Counts). c.commands) shape))
            (landed-before s.ticks (min (suc count) (plan.ticks + 1)) (command_dues plan.items) asked.commands tick
            due_commands.1);
        lines = end-lines;
        rows = end-rows;
        backs = ap (λ (c : Counts). c.backs) shape ∙ ap (λ n. packets_in n) (at_.rows ∙ e);
      }

  pub round-clock : AtRound slow plan (suc count) (run plan s (round plan)) × Fits plan (run plan s (round plan))
  round-clock = (
    subst (AtRound slow plan (suc count)) (sym end-is) at-next,
    subst (Fits plan) (sym end-is) end-fits,
  )

-- ---- all rounds
module _ (slow fast : ℕ) (plan : Plan) (keeps : KeepsTime slow fast plan) where
  pub clock : (count : ℕ) →
      AtRound slow plan count (after_rounds count plan) × Fits plan (after_rounds count plan)
  unfolding after_rounds
  clock zero = (begins slow plan, begin-fits slow fast 0 plan keeps.is_plan)
  clock (suc count) =
      let before = clock count in
      round-clock slow fast plan keeps count (after_rounds count plan) before.0 before.1

  pub row-clock : (t : ℕ) → t < plan.ticks → ((after_rounds (t + slow) plan).rows ≡ t) ×
      ((after_rounds (t + slow + 1) plan).rows ≡ t + 1)
  row-clock t inside =
      (omega (arith, (clock (t + slow)).0.rows, inside), omega (arith, (clock (t + slow + 1)).0.rows, inside))

  pub rows-left : (count : ℕ) → 0 < plan.ticks → count < plan.ticks + slow →
      (after_rounds count plan).rows < plan.ticks
  rows-left count some early = let rows = (clock count).0.rows in omega (arith, rows, some, early)

  drain-rounds : (count : ℕ) → 0 < plan.ticks → count ≤ plan.ticks + slow →
      drain (bound plan) plan (after_rounds count plan) ≡ drain (bound plan) plan (begin plan)
  unfolding after_rounds
  drain-rounds zero some within = refl
  drain-rounds (suc count) some within =
      drain-round plan (after_rounds count plan)
      (record { slow = slow; fast = fast; slip = 0; is = keeps.is_plan }) (clock count).1
      (rows-left count some (omega (arith, within)))
      ∙ drain-rounds count some (omega (arith, within))

  pub drain-clock : 0 < plan.ticks →
      drain (bound plan) plan (begin plan) ≡ after_rounds (plan.ticks + slow) plan
  drain-clock some =
      let rows = (clock (plan.ticks + slow)).0.rows in
      sym (drain-rounds (plan.ticks + slow) some (omega arith))
      ∙ drain-stop (bound plan) plan (after_rounds (plan.ticks + slow) plan) (omega (arith, rows))
