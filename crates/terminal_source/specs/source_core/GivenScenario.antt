-- A source terminal over any list of calls: the scenario that it was given so far, and what stands of it.
use Rattle.std.specs.Prelude.{◌≡◌, ◌≤◌, ◌<◌, ℕ, zero, suc, ◌+◌, ◌-◌, nat_lt, Bool, List, [], ◌∷◌, ◌++◌, map, filter}
use Rattle.std.specs.Prelude.{fold, take, length, replicate, All, Option, Some, None}
use Rattle.std.specs.List.{range_with_len}
use Rattle.law_model.specs.Common.{BackCell, Scenario, DueCommand, DueFrame, frames_at, steps_in, with_items}
use Rattle.law_model.specs.Common.{packet_nibbles, Told, active, told_in, Source, after, source_at, Course, untold}
use Rattle.law_model.specs.Common.{telling_at, sent_packet, Stream, offered, stream_before, place_of}
use Rattle.law_model.specs.declared.lcas_states.Command.{Command}
use Rattle.gfp_fill.specs.FilledStream.{FillerStands as HasWritten}
use Rattle.terminal_source.specs.source_core.Terminal.{Terminal}

-- ---- what a call adds to a scenario
-- a frame, given when a number of ticks are made, accepted or refused
abbrev pub with_frame : Scenario → ℕ → List ℕ → Scenario
with_frame scenario ticks frame =
    with_items scenario scenario.orders (scenario.offers ++ record { due = ticks; frame = frame } ∷ [])

-- a command, accepted or refused
abbrev pub with_command : Scenario → ℕ → Command → Scenario
with_command scenario ticks command =
    with_items scenario (scenario.orders ++ record { due = ticks; command = command } ∷ []) scenario.offers

-- a return cell, where the tick takes one
abbrev pub with_cell : List (Option Told) → Option BackCell → List (Option Told)
with_cell cells None = cells
with_cell cells (Some cell) = cells ++ told_in cell ∷ []

-- of what is told the first n things, and then this one: where they are fewer, there was nothing to tell in between
unfoldable pub told_next : ℕ → Told → List Told → List Told
told_next zero told tells = told ∷ []
told_next (suc n) told [] = untold ∷ told_next n told []
told_next (suc n) told (first ∷ tells) = first ∷ told_next n told tells

-- what packet n tells, where the packets before it tell what they did
abbrev pub with_told : Scenario → ℕ → Told → Scenario
with_told scenario n told = record scenario { tells = told_next n told scenario.tells }

-- no frame and no command came yet, and there was nothing to tell
pub record IsFresh (scenario : Scenario) (lines lag size statuses : ℕ) : Type 0 where
  pub of_lines : length scenario.windows ≡ lines
  pub of_lag : scenario.lag ≡ lag
  pub of_size : scenario.size ≡ size
  pub of_statuses : scenario.options.statuses ≡ statuses
  pub no_offers : scenario.offers ≡ []
  pub no_orders : scenario.orders ≡ []
  pub no_tells : scenario.tells ≡ []

-- ---- what stands between two frames
-- the stream after the frames that came since the last frame was made
abbrev pub stream_now : Scenario → List (Option Told) → ℕ → Stream
stream_now scenario cells ticks = fold offered (stream_before scenario cells ticks) (frames_at scenario ticks)

-- the source after the commands that came since the last decision step
abbrev pub source_now : Scenario → List (Option Told) → ℕ → Source
source_now scenario cells ticks = source_at scenario cells (steps_in ticks)

abbrev pub course_now : Scenario → List (Option Told) → ℕ → Course
course_now scenario cells ticks = record {
  lines = length scenario.windows;
  statuses = scenario.options.statuses;
  source = source_now scenario cells ticks;
  taken = steps_in ticks - scenario.lag;
  steps = steps_in ticks;
}

-- the nibbles of a line's packet after a number of decision steps: zeros before the first one
abbrev pub nibbles_after : Scenario → List (Option Told) → ℕ → ℕ → List ℕ
nibbles_after scenario cells line zero = replicate 16 0
nibbles_after scenario cells line (suc k) = packet_nibbles (sent_packet scenario cells line k)

-- those of all lines
abbrev pub nibbles_now : Scenario → List (Option Told) → ℕ → List (List ℕ)
nibbles_now scenario cells ticks =
    map (λ line. nibbles_after scenario cells line (steps_in ticks)) (range_with_len 0 (length scenario.windows))

-- the lines that carry payload in the frame that was made last: those of the table before the last decision step
abbrev pub active_now : Scenario → List (Option Told) → ℕ → List ℕ
active_now scenario cells ticks = active (after scenario cells (steps_in ticks - 1)).table

-- a terminal was given the frames and the commands of this scenario, each after as many ticks as it is due, what its
-- packets tell, up to those of the next decision step, and these return cells
pub record SourceStands (core : Terminal) (scenario : Scenario) (cells : List (Option Told)) : Type 0 where
  pub lines : core.lines ≡ length scenario.windows
  pub lag : core.lag ≡ scenario.lag
  pub size : core.size ≡ scenario.size
  pub statuses : core.statuses ≡ scenario.options.statuses
  pub offers : All (λ (offer : DueFrame). offer.due ≤ core.ticks) scenario.offers
  pub orders : All (λ (order : DueCommand). order.due ≤ core.ticks) scenario.orders
  pub told : length cells ≡ steps_in core.ticks - scenario.lag
  pub table : core.table ≡ course_now scenario cells core.ticks
  pub stream : HasWritten core.sender core.queue (stream_now scenario cells core.ticks)
      (place_of scenario cells core.ticks)
  pub active : core.active ≡ active_now scenario cells core.ticks
  pub nibbles : core.nibbles ≡ nibbles_now scenario cells core.ticks
  pub tells : length scenario.tells ≤ steps_in core.ticks + 1
  pub telling : core.told ≡ telling_at scenario (steps_in core.ticks)

-- ---- what a longer scenario leaves as it was
-- what is due lands before t ticks are made
abbrev pub has_come : ℕ → ℕ → Bool
has_come t due = nat_lt due t

-- the session of the first n commands and the first m frames alone
abbrev pub first_items : Scenario → ℕ → ℕ → Scenario
first_items scenario n m = with_items scenario (take n scenario.orders) (take m scenario.offers)

-- up to t ticks the same frames and commands come, in the same session, and the packets tell the same
pub record ComesAlike (one other : Scenario) (t : ℕ) : Type 0 where
  pub lines : length one.windows ≡ length other.windows
  pub lag : one.lag ≡ other.lag
  pub size : one.size ≡ other.size
  pub statuses : one.options.statuses ≡ other.options.statuses
  pub offers : filter (λ (offer : DueFrame). has_come t offer.due) one.offers ≡ filter
      (λ (offer : DueFrame). has_come t offer.due) other.offers
  pub orders : filter (λ (order : DueCommand). has_come t order.due) one.orders ≡ filter
      (λ (order : DueCommand). has_come t order.due) other.orders
  pub tells : (k : ℕ) → k < steps_in t → telling_at one k ≡ telling_at other k
