-- The return cells that come to the source of a group.
use Rattle.std.specs.Prelude.{◌≡◌, ℕ, suc, ◌+◌, ◌≤◌, Bool, true, false, List, [], ◌∷◌, ◌++◌, ◌&&◌, nat_le, nat_lt, map}
use Rattle.std.specs.Prelude.{drop, take, length, slice_get, if◌then◌else◌, Option, None, is_some}
use Rattle.std.specs.List.{list_any}
use Rattle.law_model.specs.Common.{BackCell, Told, told_in, used_in}
use Rattle.member_cells.specs.declared.containers_and_cells.BackCell.TheVariants.{Lost}
use Rattle.terminal_source.specs.source_core.Terminal.{needed_at}
use Rattle.terminal_source.specs.source_core.GivenScenario.{with_cell}

-- the return windows; the return cells that no decision step has taken, oldest first, and how many there is room for;
-- how many have come
pub record Inbox : Type 0 where
  pub lost : List (ℕ × ℕ)
  pub cells : List BackCell
  pub room : ℕ
  pub come : ℕ

abbrev pub empty_inbox : List (ℕ × ℕ) → ℕ → Inbox
empty_inbox lost lag = record { lost = lost; cells = []; room = lag + 1; come = 0 }

-- a window among these holds return packet k
abbrev pub is_lost_in : List (ℕ × ℕ) → ℕ → Bool
is_lost_in lost k = list_any (λ window. nat_le window.0 k && nat_lt k window.1) lost

-- what comes of a return cell: where a return window holds it, it is lost
abbrev pub come_by : Bool → BackCell → BackCell
come_by true cell = Lost
come_by false cell = cell

-- and of some, of which the first is number k
unfoldable pub come_from : List (ℕ × ℕ) → ℕ → List BackCell → List BackCell
come_from lost k [] = []
come_from lost k (cell ∷ cells) = come_by (is_lost_in lost k) cell ∷ come_from lost (suc k) cells

-- what the return cells tell that were received
abbrev pub told_from : List (ℕ × ℕ) → List BackCell → List (Option Told)
told_from lost cells = map told_in (come_from lost 0 cells)

-- what those tell that the decision steps of some ticks have taken: the first ones
abbrev pub told_taken : List (ℕ × ℕ) → ℕ → ℕ → List BackCell → List (Option Told)
told_taken lost lag ticks cells = take (used_in lag ticks) (told_from lost cells)

-- one more has come
abbrev pub with_come : Inbox → BackCell → Inbox
with_come inbox cell = record inbox
    { cells = inbox.cells ++ come_by (is_lost_in inbox.lost inbox.come) cell ∷ []; come = inbox.come + 1 }

-- what a tick takes: the first cell of the inbox, where one is needed; and what it leaves
abbrev pub cell_for : Bool → List BackCell → Option BackCell
cell_for needs cells = if needs then slice_get cells 0 else None

abbrev pub rest_for : Bool → List BackCell → List BackCell
rest_for needs cells = if needs then drop 1 cells else cells

-- the inbox holds what has come of these received cells, but the first ones, which were taken
pub record HasCome (inbox : Inbox) (received : List BackCell) (used : ℕ) : Type 0 where
  pub come : inbox.come ≡ length received
  pub within : used ≤ length received
  pub cells : inbox.cells ≡ drop used (come_from inbox.lost 0 received)

-- the cells that were taken, after a tick: one more, where one was needed and is there
pub record Takes (inbox next : Inbox) (received : List BackCell) (lag ticks : ℕ) (cell : Option BackCell) : Type 0 where
  pub come : HasCome next received (used_in lag (ticks + 1))
  pub told : told_taken next.lost lag (ticks + 1) received ≡ with_cell (told_taken inbox.lost lag ticks received) cell
  pub some : is_some cell ≡ is_some (needed_at lag ticks)
