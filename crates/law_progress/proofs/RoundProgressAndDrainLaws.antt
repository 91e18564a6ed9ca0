-- Some event of each round moves while rows are left, so a drain of rounds ends; and what events and drains reach.
use Rattle.std.proofs.Common.{◌≡◌, ℕ, zero, suc, ◌+◌, ◌*◌, ◌<◌, ◌≤◌, nat_le, ◌⊎◌, inl, inr, List, [], ◌∷◌}
use Rattle.std.proofs.Common.{◌++◌, length, replicate, slice_get, Some, None, refl, sym, ◌∙◌, ap, subst, arith, ◌-◌}
use Rattle.std.proofs.Common.{flat_map, Contains, le-leb}
use Rattle.std.proofs.lemmas.Bool.{leb-true, leb-false, lt-leb, cases_Bool}
use Rattle.std.proofs.lemmas.List.Elements.{Contains-append_right}
use Rattle.std.specs.List.Sorted.{IsNonDecreasing}
use Rattle.std.proofs.lemmas.Option.{slice_get_within, same_Some}
use Rattle.law_model.proofs.ListLaws.{rest-in_order}
use Rattle.law_model.specs.Common.{Due, frame_due, command_due, frame_dues, command_dues, bound, LinePath, LineCounts}
use Rattle.law_model.specs.Common.{Plan, Counts, in_send, in_inbox, held, full, step, run, begin, carries_from, round}
use Rattle.law_model.specs.Common.{drain, run_line, run_lines, walked, sum_delays}
use Rattle.law_model.specs.declared.walk_events.Event.{Event}
use Rattle.law_model.specs.declared.walk_events.Event.TheVariants.{Accept, Tick, Carry, Back, Take, Command}
use Rattle.law_model.specs.session.Scenario.{packets_in}
use Rattle.law_progress.specs.Progress.{IsSound, IsPlanOf, IsPlan, AllPaths, Each, LineFits, Fits, made, HasLine}
use Rattle.law_progress.specs.Progress.{IsReached, SomeProgress, sum_lines}
use Rattle.law_progress.proofs.RisingRoundsLaws.{Rounds, AreRising, drain-over, drain-turn, run-good}
use Rattle.law_progress.proofs.RisingRoundsLaws as rises
use Rattle.law_progress.proofs.EventBoundAndStallCauseLaws.{each-map, each-with, each-at, each-some, sum-bounded, Kept}
use Rattle.law_progress.proofs.EventBoundAndStallCauseLaws.{NotLanded, accept-kept, command-kept, back-kept, IsMissing}
use Rattle.law_progress.proofs.EventBoundAndStallCauseLaws.{TickWhy, done, waits, fills, misses, tick-kept, CarryWhy}
use Rattle.law_progress.proofs.EventBoundAndStallCauseLaws.{ended, empty, NoCarry, carry-kept, IsStuck, TakeWhy}
use Rattle.law_progress.proofs.EventBoundAndStallCauseLaws.{take-kept}
use Rattle.law_model.specs.declared.script_types.EventLine.{EventLine}
use Rattle.law_progress.proofs.StalledEventLaws.{is_progress}
use Rattle.law_progress.proofs.EventBoundAndStallCauseLaws as steps
use Rattle.law_model.specs.declared.script_types.EventLine.TheVariants as script_line

-- ---- the items of each kind
pub kinds : (items : List Due) → length (frame_dues items) + length (command_dues items) ≡ length items
unfolding frame_dues command_dues
kinds [] = refl
kinds (frame_due due ∷ items) = let rest = kinds items in omega (arith, rest)
kinds (command_due due ∷ items) = let rest = kinds items in omega (arith, rest)

-- ---- Some event moves, and rounds end.
-- ---- each event keeps the bounds
without_why : {Same Why More : Type 0} → (Same × Why) ⊎ More → Same ⊎ More
without_why (inl same) = inl same.0
without_why (inr more) = inr more

module _ (slow fast slip : ℕ) (plan : Plan) (is : IsPlanOf slow fast slip plan) where
  any-kept : (s : Counts) (event : Event) → Fits plan s →
      ((step plan s event).counts ≡ s)
      ⊎ (Fits plan (step plan s event).counts × (made s < made (step plan s event).counts))
  any-kept s Accept fits = without_why (accept-kept plan s fits)
  any-kept s Command fits = without_why (command-kept plan s fits)
  any-kept s Tick fits = without_why (tick-kept plan s fits)
  any-kept s (Carry m) fits = without_why (carry-kept slow fast slip plan s is fits m)
  any-kept s Back fits = without_why (back-kept plan s fits)
  any-kept s Take fits = without_why (take-kept slow fast slip plan s is fits)

  begun-lines : (paths : List LinePath) → AllPaths (IsSound plan.ticks slow fast slip) paths →
      Each (LineFits plan.ticks plan.ring 0 0) paths (replicate (length paths) (record { carried = 0; popped = 0 }))
  unfolding Each AllPaths
  begun-lines [] sound = tt
  begun-lines (path ∷ paths) sound =
      let none = sound.0.is_path.left 0 0 (omega arith) (omega arith) in (
        record {
          carries = omega arith;
          sent = omega arith;
          send = omega arith;
          pops = omega arith;
          receive =
              omega (arith, none);
          decides = omega arith;
        },
        begun-lines paths sound.1,
      )

  pub begin-fits : Fits plan (begin plan)
  begin-fits = record {
    ticks = omega arith;
    rows = omega arith;
    frames = omega arith;
    commands = omega arith;
    lines = begun-lines plan.paths is.paths;
    backs = omega arith;
    returns = omega arith;
    used = let lag = is.lag in omega (arith, lag);
  }

  -- ---- the inbox
  abbrev At : Counts → LinePath → LineCounts → Type 0
  At s path line = IsSound plan.ticks slow fast slip path × LineFits plan.ticks plan.ring s.ticks s.rows path line

  lines-at : (s : Counts) → Fits plan s → Each (At s) plan.paths s.lines
  lines-at s fits = each-with (IsSound plan.ticks slow fast slip) (LineFits plan.ticks plan.ring s.ticks s.rows)
      plan.paths s.lines is.paths fits.lines

  pub rows-ticks : (s : Counts) → Fits plan s → s.rows ≤ s.ticks
  rows-ticks s fits =
      let (path, line, at_) = each-some (At s) plan.paths s.lines is.some (lines-at s fits) in
      let early = at_.0.is_path.early line.carried line.popped at_.1.carries at_.1.pops in
      let decides = at_.1.decides in let sent = at_.1.sent in let rows = fits.rows in
      omega (arith, early, decides, sent, rows)

  inbox : (s : Counts) → Fits plan s → in_inbox plan s ≤ plan.lag
  inbox s fits = let backs = fits.backs in let rows = rows-ticks s fits in omega (arith, backs, rows)

  -- ---- the measure
  -- what is counted but the ticks and the return packets
  pub counts-bounded : (s : Counts) → Fits plan s → s.frames + s.commands + sum_lines s.lines + s.rows
      ≤ length plan.paths * (2 * plan.ticks) + sum_delays plan.paths + 2 * length plan.paths + length plan.items
      + plan.ticks
  counts-bounded s fits =
      let sums = sum-bounded plan.ticks plan.paths s.lines
      (each-map (At s) (λ path line. (line.carried ≤ plan.ticks + path.delay + 1) × (line.popped ≤ plan.ticks + 1))
      plan.paths s.lines (λ path line at_. few path line at_) (lines-at s fits)) in
      let rows = fits.rows in let frames = fits.frames in let commands = fits.commands in
      let both = kinds plan.items in
      omega (arith, sums, rows, frames, commands, both)
    where
      few : (path : LinePath) (line : LineCounts) → At s path line → (line.carried ≤ plan.ticks + path.delay + 1) ×
          (line.popped ≤ plan.ticks + 1)
      few path line at_ =
          let left = at_.0.is_path.left line.carried 0 at_.1.carries (omega arith) in
          let carries = at_.1.carries in let pops = at_.1.pops in
          (carries, omega (arith, left, carries, pops))

  pub bounded : (s : Counts) → Fits plan s → made s ≤ bound plan
  bounded s fits =
      let counts = counts-bounded s fits in
      let ticks = fits.ticks in let rows = fits.rows in let backs = fits.backs in
      let product : (2 * length plan.paths + 3) * plan.ticks ≡ length plan.paths * (2 * plan.ticks) + 3 * plan.ticks =
      grind arith in
      omega (arith, counts, ticks, rows, backs, product)

-- ---- an item that holds a tick can land
abbrev pub Lands : ℕ → List ℕ → ℕ → Type 0
Lands ticks dues a = (due : ℕ) × (slice_get dues a ≡ Some due) × (due ≤ ticks)

-- where the first isn't due, no later one is
none_lands : (ticks due : ℕ) (dues : List ℕ) → IsNonDecreasing (due ∷ dues) → ticks < due → Lands ticks dues zero → ⊥
none_lands ticks due [] order late lands = absurd (let e : None ≡ Some lands.0 = lands.1 in cc)
none_lands ticks due (next ∷ dues) order late lands =
    let same : next ≡ lands.0 = same_Some next lands.0 lands.1 in
    let above : due ≤ next = order zero (suc zero) due (omega arith) (omega arith) in
    let now = lands.2 in
    omega arith

-- the next of its kind is due where some item is
held-lands : (ticks a b i item : ℕ) (items : List Due) → IsNonDecreasing (frame_dues items) →
    IsNonDecreasing (command_dues items) → held ticks a b i items ≡ Some item →
    Lands ticks (frame_dues items) a ⊎ Lands ticks (command_dues items) b
unfolding held frame_dues command_dues
held-lands ticks a b i item [] frames commands is = absurd cc
held-lands ticks zero b i item (frame_due due ∷ items) frames commands is =
    elim (cases_Bool (nat_le due ticks)) [
      | inl e ↦ inl (due, refl, leb-true due ticks e)
      | inr e ↦
          elim (held-lands ticks zero b (suc i) item items (rest-in_order due (frame_dues items) frames) commands
          (rw e at is)) [
            | inl lands ↦ absurd (none_lands ticks due (frame_dues items) frames (leb-false due ticks e) lands)
            | inr lands ↦ inr lands
          ]
    ]
held-lands ticks (suc a) b i item (frame_due due ∷ items) frames commands is =
    held-lands ticks a b (suc i) item items (rest-in_order due (frame_dues items) frames) commands is
held-lands ticks a zero i item (command_due due ∷ items) frames commands is =
    elim (cases_Bool (nat_le due ticks)) [
      | inl e ↦ inr (due, refl, leb-true due ticks e)
      | inr e ↦
          elim (held-lands ticks a zero (suc i) item items frames (rest-in_order due (command_dues items) commands)
          (rw e at is)) [
            | inl lands ↦ inl lands
            | inr lands ↦ absurd (none_lands ticks due (command_dues items) commands (leb-false due ticks e) lands)
          ]
    ]
held-lands ticks a (suc b) i item (command_due due ∷ items) frames commands is =
    held-lands ticks a b (suc i) item items frames (rest-in_order due (command_dues items) commands) is

-- ---- a line whose send ring is full
pub record IsFull (total ticks : ℕ) (lines : List LineCounts) : Type 0 where
  m : ℕ
  line : LineCounts
  line_at : slice_get lines m ≡ Some line
  fills : 32 ≤ in_send total ticks line

full-at : (total ticks i m : ℕ) (lines : List LineCounts) → full total ticks i lines ≡ Some m → IsFull total ticks lines
unfolding full
full-at total ticks i m [] is = absurd cc
full-at total ticks i m (line ∷ lines) is =
    elim (cases_Bool (nat_le 32 (in_send total ticks line))) [
      | inl e ↦ record { m = 0; line = line; line_at = refl; fills = leb-true 32 (in_send total ticks line) e }
      | inr e ↦ let rest = full-at total ticks (suc i) m lines (rw e at is) in
          record { m = suc rest.m; line = rest.line; line_at = rest.line_at; fills = rest.fills }
    ]

path-at : (P : LinePath → LineCounts → Type 0) (paths : List LinePath) (lines : List LineCounts) (m : ℕ)
    (line : LineCounts) → Each P paths lines → slice_get lines m ≡ Some line → (path : LinePath) ×
    (slice_get paths m ≡ Some path)
unfolding Each
path-at P [] [] m line h l = absurd cc
path-at P [] (other ∷ lines) m line h l = absurd h
path-at P (path ∷ paths) [] m line h l = absurd h
path-at P (path ∷ paths) (other ∷ lines) zero line h l = (path, refl)
path-at P (path ∷ paths) (other ∷ lines) (suc m) line h l = path-at P paths lines m line h.1 l

-- ---- a round tries each event that names a line of the plan
carries-try : (n m : ℕ) (paths : List LinePath) → m < length paths → Contains (carries_from n paths) (Carry (n + m))
unfolding carries_from
carries-try n m [] low = absurd (omega arith)
carries-try n zero (path ∷ paths) low = (0, omega arith, ap Carry (let e : n ≡ n + 0 = omega arith in e))
carries-try n (suc m) (path ∷ paths) low =
    let e : suc n + m ≡ n + suc m = omega arith in
    Contains-append_right (Carry n ∷ []) (carries_from (suc n) paths) (Carry (n + suc m))
    (subst (λ k. Contains (carries_from (suc n) paths) (Carry k)) e (carries-try (suc n) m paths (omega arith)))

carries-end : (event : Event) (n : ℕ) (paths : List LinePath) → Contains (Back ∷ Take ∷ []) event →
    Contains (carries_from n paths) event
unfolding carries_from
carries-end event n [] has = has
carries-end event n (path ∷ paths) has =
    Contains-append_right (Carry n ∷ []) (carries_from (suc n) paths) event (carries-end event (suc n) paths has)

module _ (plan : Plan) where
  abbrev many : ℕ
  many = suc (length plan.items)

  abbrev carries : List Event
  carries = carries_from 0 plan.paths

  round-end : (event : Event) → Contains (Tick ∷ carries) event → Contains (round plan) event
  round-end event has =
      Contains-append_right (replicate many Accept) (replicate many Command ++ Tick ∷ carries) event
      (Contains-append_right (replicate many Command) (Tick ∷ carries) event has)

  behind-tick : (event : Event) → Contains carries event → Contains (round plan) event
  behind-tick event has = round-end event (Contains-append_right (Tick ∷ []) carries event has)

  round-tries : (event : Event) → HasLine plan event → Contains (round plan) event
  round-tries Accept line = (0, omega arith, refl)
  round-tries Command line =
      Contains-append_right (replicate many Accept) (replicate many Command ++ Tick ∷ carries) Command
      (0, omega arith, refl)
  round-tries Tick line = round-end Tick (0, omega arith, refl)
  round-tries (Carry m) line =
      behind-tick (Carry m) (subst (λ k. Contains carries (Carry k)) (let e : 0 + m ≡ m = omega arith in e)
      (carries-try 0 m plan.paths line))
  round-tries Back line = behind-tick Back (carries-end Back 0 plan.paths (0, omega arith, refl))
  round-tries Take line = behind-tick Take (carries-end Take 0 plan.paths (1, omega arith, refl))

-- ---- some event that names a line of the plan moves
abbrev pub Moves : Plan → Counts → Type 0
Moves plan s = (event : Event) × HasLine plan event × (made s < made (step plan s event).counts)

move : (plan : Plan) (s : Counts) (event : Event) (Why : Type 0) → HasLine plan event →
    Kept plan s Why (step plan s event).counts → (Why → Moves plan s) → Moves plan s
move plan s event Why line kept else_ = elim kept [ inl same ↦ else_ same.1 | inr more ↦ (event, line, more.1) ]

module _ (slow fast slip : ℕ) (plan : Plan) (is : IsPlanOf slow fast slip plan) (s : Counts) (fits : Fits plan s)
    (open_ : s.rows < plan.ticks) where
  try_back : (packets_in s.rows ≤ s.backs → Moves plan s) → Moves plan s
  try_back else_ = move plan s Back (packets_in s.rows ≤ s.backs) tt (back-kept plan s fits) else_

  try_carry : (m : ℕ) (path : LinePath) (line : LineCounts) → slice_get plan.paths m ≡ Some path →
      slice_get s.lines m ≡ Some line → (CarryWhy plan s path line → Moves plan s) → Moves plan s
  try_carry m path line p l else_ =
      move plan s (Carry m) (NoCarry plan s m) (slice_get_within plan.paths m path p)
      (carry-kept slow fast slip plan s is fits m) (λ why. else_ (why path line p l))

  found : (m : ℕ) (path : LinePath) (line : LineCounts) → slice_get plan.paths m ≡ Some path →
      slice_get s.lines m ≡ Some line → At slow fast slip plan is s path line
  found m path line p l = each-at (At slow fast slip plan is s) plan.paths s.lines m path line
      (lines-at slow fast slip plan is s fits) p l

  -- a due item that hasn't landed can
  lands : Lands s.ticks (frame_dues plan.items) s.frames ⊎ Lands s.ticks (command_dues plan.items) s.commands →
      Moves plan s
  lands (inl (due, here, now)) = move plan s Accept (NotLanded s.ticks (slice_get (frame_dues plan.items) s.frames))
      tt (accept-kept plan s fits)
      (λ why. absurd (let late = why due here in omega (arith, late, now)))
  lands (inr (due, here, now)) = move plan s Command
      (NotLanded s.ticks (slice_get (command_dues plan.items) s.commands)) tt (command-kept plan s fits)
      (λ why. absurd (let late = why due here in omega (arith, late, now)))

  -- the starved line has carried all that was sent
  module _ (path : LinePath) (line : LineCounts) (at_ : At slow fast slip plan is s path line)
      (all : line.popped ≡ path.given line.carried) (low : path.decided line.popped ≤ s.rows)
      (short : line.carried < plan.ticks) (starved : s.ticks ≤ line.carried) where
    near : s.ticks ≤ s.rows + slip + slow
    near =
        let late = at_.0.is_path.late line.carried (omega (arith, short)) in
        let same : path.decided (path.given line.carried) ≡ path.decided line.popped = ap path.decided (sym all) in
        let most = at_.0.most in
        omega (arith, late, same, most, low, starved)

    full_moves : IsFull plan.ticks s.ticks s.lines → Moves plan s
    full_moves full_ =
        let (other, other_at) = path-at (At slow fast slip plan is s) plan.paths s.lines full_.m full_.line
        (lines-at slow fast slip plan is s fits) full_.line_at in
        let there = found full_.m other full_.line other_at full_.line_at in
        let filled = full_.fills in let close = near in
        let most : s.ticks < plan.ticks = omega (arith, starved, short) in
        try_carry full_.m other full_.line other_at full_.line_at
        (λ why. absurd (by full_.line other filled close most there why))
      where
        by : (that : LineCounts) (other : LinePath) → 32 ≤ in_send plan.ticks s.ticks that →
            s.ticks ≤ s.rows + slip + slow → s.ticks < plan.ticks → At slow fast slip plan is s other that →
            CarryWhy plan s other that → ⊥
        by that other filled close most there (ended e) = omega (arith, e, filled, most)
        by that other filled close most there (empty e f) = omega (arith, e, f, filled)
        by that other filled close most there (steps.CarryWhy.fills e) =
            let left = there.0.is_path.left that.carried that.popped there.1.carries there.1.pops in
            let decides = there.1.decides in let least = there.0.least in let spread = is.spread in
            omega (arith, e, filled, close, most, left, decides, least, spread)

    missing_moves : IsMissing plan s → Moves plan s
    missing_moves missing =
        let late = missing.late in let place = missing.place in let none = missing.none in let close = near in
        let lag = is.lag in
        try_back (λ empty_. absurd (omega (arith, late, place, none, close, lag, empty_)))

    tick_moves : Moves plan s
    tick_moves = move plan s Tick (TickWhy plan s) tt (tick-kept plan s fits) by
      where
        by : TickWhy plan s → Moves plan s
        by (done e) = absurd (omega (arith, e, starved, short))
        by (waits item e) = lands (held-lands s.ticks s.frames s.commands 0 item plan.items is.frames is.commands e)
        by (fills m e) = full_moves (full-at plan.ticks s.ticks 0 m s.lines e)
        by (misses e) = missing_moves e

  stuck_moves : IsStuck s.rows plan.paths s.lines → Moves plan s
  stuck_moves stuck =
      let at_ = found stuck.m stuck.path stuck.line stuck.path_at stuck.line_at in
      try_carry stuck.m stuck.path stuck.line stuck.path_at stuck.line_at
      (by stuck.path stuck.line at_ stuck.all stuck.open_)
    where
      by : (path : LinePath) (line : LineCounts) → At slow fast slip plan is s path line →
          line.popped ≡ path.given line.carried → path.decided line.popped ≤ s.rows → CarryWhy plan s path line →
          Moves plan s
      by path line at_ all low (ended e) =
          let carries = at_.1.carries in
          let last : line.carried ≡ plan.ticks + path.delay + 1 = omega (arith, e, carries) in
          let told : path.decided line.popped ≡ plan.ticks = ap path.decided (all ∙ ap path.given last)
          ∙ at_.0.is_path.ended in
          absurd (omega (arith, told, low, open_))
      by path line at_ all low (empty e f) = tick_moves path line at_ all low e f
      by path line at_ all low (steps.CarryWhy.fills e) = let ring = is.ring in absurd (omega (arith, e, all, ring))

  pub some_moves : Moves plan s
  some_moves = move plan s Take (TakeWhy plan s) tt (take-kept slow fast slip plan s is fits) by
    where
      by : TakeWhy plan s → Moves plan s
      by (steps.TakeWhy.done e) = absurd (omega (arith, e, open_))
      by (steps.TakeWhy.fills e) = try_back (λ empty_. absurd (omega (arith, e, empty_)))
      by (steps.TakeWhy.waits e) = stuck_moves e

-- ---- rounds
abbrev pub rounds_of : Plan → Rounds Counts Event
rounds_of plan = record {
  next = λ s event. (step plan s event).counts;
  run = run plan;
  round = round plan;
  over = λ s. nat_le plan.ticks s.rows;
  drain = λ k. drain k plan;
  made = made;
  most = bound plan;
}

module _ (slow fast slip : ℕ) (plan : Plan) (is : IsPlanOf slow fast slip plan) where
  pub are-rising : AreRising (rounds_of plan) (Fits plan)
  unfolding run drain
  are-rising = record {
    run_none = λ s. refl;
    run_more = λ s event events. refl;
    drain_none = λ s. refl;
    drain_more = λ k s. refl;
    keeps = any-kept slow fast slip plan is;
    few = bounded slow fast slip plan is;
    moves = λ s fits open_.
        let (event, line, more) =
        some_moves slow fast slip plan is s fits (leb-false plan.ticks s.rows open_) in
        (event, round-tries plan event line, more);
  }

  pub run-fits : (s : Counts) (events : List Event) → Fits plan s → Fits plan (run plan s events) ×
      (made s ≤ made (run plan s events))
  run-fits s events fits = run-good (rounds_of plan) (Fits plan) are-rising s events fits

  pub step-fits : (s : Counts) (event : Event) → Fits plan s → Fits plan (step plan s event).counts ×
      (made s ≤ made (step plan s event).counts)
  unfolding run
  step-fits s event fits = run-fits s (event ∷ []) fits

  pub round-rises : (s : Counts) → Fits plan s → s.rows < plan.ticks → made s < made (run plan s (round plan))
  round-rises s fits open_ =
      rises.round-rises (rounds_of plan) (Fits plan) are-rising s fits (lt-leb plan.ticks s.rows open_)

-- ---- what is reached
pub reached-fits : (plan : Plan) (s : Counts) → IsPlan plan → IsReached plan s → Fits plan s
reached-fits plan s plan_is there =
    subst (Fits plan) (sym there.1) (run-fits plan_is.slow plan_is.fast plan_is.slip plan plan_is.is (begin plan)
    there.0 (begin-fits plan_is.slow plan_is.fast plan_is.slip plan plan_is.is)).0

pub inbox-fits : (plan : Plan) (s : Counts) → IsPlan plan → IsReached plan s → in_inbox plan s ≤ plan.lag
inbox-fits plan s plan_is there =
    inbox plan_is.slow plan_is.fast plan_is.slip plan plan_is.is s (reached-fits plan s plan_is there)

pub reached-moves : (plan : Plan) (s : Counts) → IsPlan plan → IsReached plan s → s.rows < plan.ticks → Moves plan s
reached-moves plan s plan_is there open_ =
    some_moves plan_is.slow plan_is.fast plan_is.slip plan plan_is.is s (reached-fits plan s plan_is there) open_

pub reached-ends : (plan : Plan) (s : Counts) → IsPlan plan → IsReached plan s →
    (drain (bound plan) plan s).rows ≡ plan.ticks
reached-ends plan s is there =
    let (fits, over) = drain-over (rounds_of plan) (Fits plan)
    (are-rising is.slow is.fast is.slip plan is.is) (bound plan) s (reached-fits plan s is there) (omega arith) in
    let shut = leb-true plan.ticks (drain (bound plan) plan s).rows over in
    let rows = fits.rows in
    omega (arith, shut, rows)

-- ---- What a loop over rounds needs: each round with rows left makes more, and leaves what all rounds give as it is.
-- the measure falls
pub round-less : (plan : Plan) (s : Counts) → IsPlan plan → Fits plan s → s.rows < plan.ticks →
    bound plan - made (run plan s (round plan)) < bound plan - made s
round-less plan s is fits open_ =
    rises.round-less (rounds_of plan) (Fits plan) (are-rising is.slow is.fast is.slip plan is.is) s fits
    (lt-leb plan.ticks s.rows open_)

-- the rest of a drain gives what the whole gives
pub drain-round : (plan : Plan) (s : Counts) → IsPlan plan → Fits plan s → s.rows < plan.ticks →
    drain (bound plan) plan (run plan s (round plan)) ≡ drain (bound plan) plan s
drain-round plan s is fits open_ =
    drain-turn (rounds_of plan) (Fits plan) (are-rising is.slow is.fast is.slip plan is.is) s fits
    (lt-leb plan.ticks s.rows open_)

pub drain-stop : (k : ℕ) (plan : Plan) (s : Counts) → plan.ticks ≤ s.rows → drain k plan s ≡ s
unfolding drain
drain-stop zero plan s h = refl
drain-stop (suc k) plan s h = rw (le-leb plan.ticks s.rows h) refl

-- ---- What is reached by events, by event lines and by drains.
pub run-append : (plan : Plan) (s : Counts) (xs ys : List Event) → run plan s (xs ++ ys) ≡ run plan (run plan s xs) ys
unfolding run
run-append plan s [] ys = refl
run-append plan s (x ∷ xs) ys = run-append plan (step plan s x).counts xs ys

pub run-none : (plan : Plan) (s : Counts) → run plan s [] ≡ s
unfolding run
run-none plan s = refl

-- events lead from counts to others
abbrev pub Leads : Plan → Counts → Counts → Type 0
Leads plan s next = (events : List Event) × (next ≡ run plan s events)

pub Leads-then : (plan : Plan) (s next last : Counts) → Leads plan s next → Leads plan next last → Leads plan s last
Leads-then plan s next last one other = (
  one.0 ++ other.0,
  other.1 ∙ ap (λ c. run plan c other.0) one.1 ∙ sym (run-append plan s one.0 other.0),
)

Leads-same : (plan : Plan) (s : Counts) → Leads plan s s
Leads-same plan s = ([], sym (run-none plan s))

pub Leads-drain : (k : ℕ) (plan : Plan) (s : Counts) → Leads plan s (drain k plan s)
unfolding drain
Leads-drain zero plan s = Leads-same plan s
Leads-drain (suc k) plan s =
    elim (cases_Bool (nat_le plan.ticks s.rows)) [
      | inl e ↦ rw e (Leads-same plan s)
      | inr e ↦ rw e (Leads-then plan s (run plan s (round plan)) (drain k plan (run plan s (round plan)))
          (round plan, refl) (Leads-drain k plan (run plan s (round plan))))
    ]

Leads-line : (plan : Plan) (s : Counts) (line : EventLine) → Leads plan s (run_line plan s line)
Leads-line plan s (script_line.Client n) = (replicate n Accept, refl)
Leads-line plan s (script_line.Operator n) = (replicate n Command, refl)
Leads-line plan s (script_line.Tick n) = (replicate n Tick, refl)
Leads-line plan s (script_line.Carry m n) = (replicate n (Carry m), refl)
Leads-line plan s (script_line.Back n) = (replicate n Back, refl)
Leads-line plan s (script_line.Take n) = (replicate n Take, refl)
Leads-line plan s (script_line.Round n) = (flat_map (λ (tries : List Event). tries) (replicate n (round plan)), refl)
Leads-line plan s script_line.Drain = Leads-drain (bound plan) plan s

Leads-lines : (plan : Plan) (s : Counts) (lines : List EventLine) → Leads plan s (run_lines plan s lines)
unfolding run_lines
Leads-lines plan s [] = Leads-same plan s
Leads-lines plan s (line ∷ lines) =
    Leads-then plan s (run_line plan s line) (run_lines plan (run_line plan s line) lines) (Leads-line plan s line)
    (Leads-lines plan (run_line plan s line) lines)

pub walked-reached : (plan : Plan) (lines : List EventLine) → IsReached plan (walked plan lines)
walked-reached plan [] = Leads-drain (bound plan) plan (begin plan)
walked-reached plan (line ∷ lines) = Leads-lines plan (begin plan) (line ∷ lines)

-- ---- some event is progress
pub reached-progress : (plan : Plan) (s : Counts) → IsPlan plan → IsReached plan s → s.rows < plan.ticks →
    SomeProgress plan s
reached-progress plan s is there open_ =
    let found = reached-moves plan s is there open_ in
    let beside = each-map (LineFits plan.ticks plan.ring s.ticks s.rows) (λ path line. Unit {0}) plan.paths s.lines
    (λ path line fits. tt) (reached-fits plan s is there).lines in
    (found.0, found.1, is_progress plan s found.0 beside found.2)
