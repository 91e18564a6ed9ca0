-- That a walk in numbers is never stuck: what is asked of its lines, within which bounds its counts stay, and what
-- progress is.
use Rattle.std.specs.Prelude.{◌≡◌, ◌⊎◌, ℕ, suc, ◌+◌, ◌-◌, ◌*◌, ◌<◌, ◌≤◌, min, List, [], ◌∷◌, length, sum_by, Option}
use Rattle.std.specs.Prelude.{Some, None, IfSome}
use Rattle.std.specs.List.Sorted.{IsNonDecreasing}
use Rattle.law_model.specs.Common.{frame_dues, command_dues, LinePath, Plan, LineCounts, Counts, used_in, step, run}
use Rattle.law_model.specs.Common.{begin}
use Rattle.law_model.specs.declared.walk_events.Event.{Event}
use Rattle.law_model.specs.declared.walk_events.Event.TheVariants.{Accept, Tick, Carry, Back, Take, Command}
use Rattle.law_model.specs.session.Scenario.{packets_in}

-- ---- what is asked of a plan
-- a line that has some slip: its cells are never further after its containers than the slip, beyond the delay
pub record IsPath (total slip : ℕ) (path : LinePath) : Type 0 where
  -- a carry gives one cell, or none
  pub one : (x : ℕ) → x ≤ total + path.delay → (path.given x ≤ path.given (x + 1)) ×
      (path.given (x + 1) ≤ path.given x + 1)
  -- the cells given so far decide all numbers but those of the slip
  pub late : (x : ℕ) → x ≤ total + path.delay → x ≤ path.decided (path.given x) + slip + path.delay
  -- all cells decide all numbers
  pub ended : path.decided (path.given (total + path.delay + 1)) ≡ total
  -- no number is decided before its container has passed the delay
  pub early : (x y : ℕ) → x ≤ total + path.delay + 1 → y ≤ path.given x → path.decided y ≤ x - path.delay
  -- the cells that are left are of containers that aren't decided
  pub left : (x y : ℕ) → x ≤ total + path.delay + 1 → y ≤ path.given x →
      path.given x ≤ y + ((x - path.delay) - path.decided y)
  -- more cells decide no less, and none decides more than there is
  pub rises : (y : ℕ) → path.decided y ≤ path.decided (suc y)
  pub most : (y : ℕ) → path.decided y ≤ total

unfoldable pub AllPaths : (LinePath → Type 0) → List LinePath → Type 0
AllPaths P [] = Unit {0}
AllPaths P (path ∷ paths) = P path × AllPaths P paths

-- such a line, whose delay is between the least and the greatest
pub record IsSound (total slow fast slip : ℕ) (path : LinePath) : Type 0 where
  pub is_path : IsPath total slip path
  pub most : path.delay ≤ slow
  pub least : fast ≤ path.delay

-- the due ticks of frames never fall, nor those of commands; the greatest and the least delay, the greatest slip and
-- the lag fit the
-- rings
pub record IsPlanOf (slow fast slip : ℕ) (plan : Plan) : Type 0 where
  pub some : 0 < length plan.paths
  pub paths : AllPaths (IsSound plan.ticks slow fast slip) plan.paths
  pub frames : IsNonDecreasing (frame_dues plan.items)
  pub commands : IsNonDecreasing (command_dues plan.items)
  pub ring : 0 < plan.ring
  pub spread : slow + slip + 1 ≤ fast + plan.ring
  pub lag : 16 + slow + slip ≤ 16 * plan.lag

pub record IsPlan (plan : Plan) : Type 0 where
  pub slow : ℕ
  pub fast : ℕ
  pub slip : ℕ
  pub is : IsPlanOf slow fast slip plan

-- ---- bounds
-- a fact of each line beside its path
unfoldable pub Each : (LinePath → LineCounts → Type 0) → List LinePath → List LineCounts → Type 0
Each P [] [] = Unit {0}
Each P [] (line ∷ lines) = ⊥
Each P (path ∷ paths) [] = ⊥
Each P (path ∷ paths) (line ∷ lines) = P path line × Each P paths lines

-- a line within its bounds: no more is carried than there is, its rings hold no more than they may, no row is taken
-- that it
-- doesn't decide
pub record LineFits (total ring ticks rows : ℕ) (path : LinePath) (line : LineCounts) : Type 0 where
  pub carries : line.carried ≤ total + path.delay + 1
  pub sent : min line.carried total ≤ ticks
  pub send : ticks ≤ min line.carried total + 32
  pub pops : line.popped ≤ path.given line.carried
  pub receive : path.given line.carried ≤ line.popped + ring
  pub decides : rows ≤ path.decided line.popped

-- counts within their bounds: the return ring holds at most 4, and no decision step took a packet that hadn't come
pub record Fits (plan : Plan) (s : Counts) : Type 0 where
  pub ticks : s.ticks ≤ plan.ticks
  pub rows : s.rows ≤ plan.ticks
  pub frames : s.frames ≤ length (frame_dues plan.items)
  pub commands : s.commands ≤ length (command_dues plan.items)
  pub lines : Each (LineFits plan.ticks plan.ring s.ticks s.rows) plan.paths s.lines
  pub backs : s.backs ≤ packets_in s.rows
  pub returns : packets_in s.rows ≤ s.backs + 4
  pub used : used_in plan.lag s.ticks ≤ s.backs

-- ---- the measure: the sum of all counts
unfoldable pub sum_lines : List LineCounts → ℕ
sum_lines [] = 0
sum_lines (line ∷ lines) = line.carried + line.popped + sum_lines lines

abbrev pub made : Counts → ℕ
made s = s.ticks + s.frames + s.commands + sum_lines s.lines + s.rows + s.backs

-- ---- what is said of them
-- some list of events leads to the counts
abbrev pub IsReached : Plan → Counts → Type 0
IsReached plan s = (events : List Event) × (s ≡ run plan (begin plan) events)

-- a line that an event names is one of the plan's
abbrev pub line_of : Event → Option ℕ
line_of Accept = None
line_of Command = None
line_of Tick = None
line_of (Carry line) = Some line
line_of Back = None
line_of Take = None

abbrev pub HasLine : Plan → Event → Type 0
HasLine plan event = IfSome (line_of event) (λ line. line < length plan.paths)

-- a stalled event changes nothing, but that a Take keeps the cells which it popped
abbrev pub ChangesNothing : Plan → Counts → Event → Type 0
ChangesNothing plan s event =
    ((step plan s event).counts ≡ s)
    ⊎ ((event ≡ Take) × ((step plan s event).counts ≡ record s { lines = (step plan s event).counts.lines }))

abbrev pub cells_popped : Counts → ℕ
cells_popped s = sum_by (λ (line : LineCounts). line.popped) s.lines

-- an event moves, or it is a Take that pops a cell
abbrev pub IsProgress : Plan → Counts → Event → Type 0
IsProgress plan s event =
    ((step plan s event).cause ≡ None)
    ⊎ ((event ≡ Take) × (cells_popped s < cells_popped (step plan s event).counts))

-- some event of the walk is progress
abbrev pub SomeProgress : Plan → Counts → Type 0
SomeProgress plan s = (event : Event) × HasLine plan event × IsProgress plan s event
