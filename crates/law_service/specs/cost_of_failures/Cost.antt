-- What failures cost: lines that fail once each, beside a line that doesn't.
use Rattle.std.specs.Prelude.{◌≡◌, ◌⊎◌, ℕ, ◌+◌, ◌-◌, ◌*◌, ◌/◌, ◌%◌, ◌<◌, ◌≤◌, min, not, filter, false, List, [], length}
use Rattle.std.specs.Prelude.{slice_get, slice_index_or, Some, All, Contains}
use Rattle.std.specs.List.{range_with_len}
use Rattle.law_model.specs.Common.{Leg, scenario_by, is_lost, Table, table_of, is_whole_row}
use Rattle.law_model.specs.declared.window_types.Window.{Window}
use Rattle.law_model.specs.session.Scenario.{packets_in}
use Rattle.law_session.specs.Feedback.{lines_of, table_before}
use Rattle.law_session.specs.LineInUse.{IsInUse}
use Rattle.law_walk.specs.Common.{session_of, IsClear}

-- the windows of a line. A line that isn't configured has none
abbrev pub windows_of : Leg → ℕ → List Window
windows_of leg line = slice_index_or leg.config.windows line []

-- ---- one line, from a container on up to a horizon, beyond which nothing is asked
-- it stays clear. The packet that governs a row of that container or later begins at most 39 containers before it
abbrev pub StaysClear : List Window → ℕ → ℕ → Type 0
StaysClear windows from horizon = IsClear windows (from - 39) horizon

-- it fails once, by this window, whatever that slips: it begins before the horizon, and each other window is over
-- before, or comes after
pub record FailsBy (windows : List Window) (window : Window) (from horizon : ℕ) : Type 0 where
  pub stands : Contains windows window
  pub late : from ≤ window.first
  pub soon : window.first < horizon
  pub alone : All (λ (other : Window). (other ≡ window) ⊎ ((horizon ≤ other.first) ⊎ (other.end ≤ from - 39))) windows

-- ---- all lines
-- the first packet that a failure from a container on can damage: as many end before it
abbrev pub first_hit : ℕ → ℕ
first_hit from = packets_in from

-- the table that governs row t, of row 24 or later
abbrev pub governing_table : Leg → ℕ → Table
governing_table leg t = table_of (scenario_by leg) (session_of leg) ((t - 24) / 16)

-- the table before the step that makes the first packet that can be hit
abbrev pub table_at : Leg → ℕ → Table
table_at leg from = table_before (scenario_by leg) (session_of leg) (first_hit from)

-- a line has an SQ, however it stands
abbrev pub HasSq : Table → ℕ → Type 0
HasSq table line = (sq : ℕ) × (slice_get (lines_of table.order) sq ≡ Some line)

-- from a container on up to a horizon each line stays clear or fails once, and one stays clear. From the first packet
-- on that can be hit no return packet is lost, and no table counts a change: no command is carried out, and no ADD
-- lines are exchanged. Both are asked only as far as tables need it that govern rows before the horizon
pub record FailsOnce (leg : Leg) (from horizon : ℕ) : Type 0 where
  pub made : horizon ≤ leg.config.ticks
  pub each : (line : ℕ) → line < length leg.config.windows →
      ((window : Window) × FailsBy (windows_of leg line) window from horizon)
      ⊎ StaysClear (windows_of leg line) from horizon
  pub beside : (line : ℕ) × (line < length leg.config.windows) × StaysClear (windows_of leg line) from horizon
  pub come : (k : ℕ) → first_hit from ≤ k → 16 * (k + leg.config.lag) + 24 < horizon →
      is_lost (scenario_by leg) k ≡ false
  pub still : (k : ℕ) → first_hit from ≤ k → 16 * k + 24 < horizon →
      (table_of (scenario_by leg) (session_of leg) k).count ≡ (table_at leg from).count

-- ---- the rows that a failure costs
-- the rows that a round of statuses, the lag and a number of packets more take
abbrev pub round_rows : Leg → ℕ → ℕ
round_rows leg packets = 16 * (leg.config.options.statuses + leg.config.lag + packets)

-- the row from which on a failure costs none: 39 rows after its end, or after its begin a round of statuses, the lag
-- and the hold-off
abbrev pub cost_end : Leg → ℕ → ℕ → ℕ
cost_end leg begins ends = min (ends + 39) (begins + round_rows leg leg.config.options.holdoff)

-- row t is before the failure, or so late that it doesn't suffer from it
abbrev pub IsSpared : Leg → Window → ℕ → Type 0
IsSpared leg window t = (t < window.first) ⊎ (cost_end leg window.first window.end ≤ t)

-- a packet says a status of an SQ
abbrev pub SaysOf : Leg → ℕ → ℕ → Type 0
SaysOf leg sq k = k % leg.config.options.statuses ≡ sq / 8

-- the same of a line whose SQ is known: a packet that the failure can hit once the hold-off has run out, and that says
-- a status of this SQ, has told the source
abbrev pub IsSparedFor : Leg → ℕ → Window → ℕ → Type 0
IsSparedFor leg sq window t =
    (t < window.first)
    ⊎ ((window.end + 39 ≤ t)
    ⊎ ((k : ℕ) × (first_hit window.first + leg.config.options.holdoff ≤ k) × SaysOf leg sq k ×
    (16 * (k + leg.config.lag) + 24 ≤ t)))

-- the first packet that begins behind a failure
abbrev pub end_packet : ℕ → ℕ
end_packet ends = (ends + 15) / 16

-- the rows that a failure spoils while its line carries payload. Their containers aren't good, up to two behind the
-- multiframe in which the failure ends; or they are governed by a packet that can't be read
abbrev pub Spoils : Window → ℕ → Type 0
Spoils window t =
    ((window.first ≤ t) × (t < 16 * end_packet window.end + 2))
    ⊎ ((16 * first_hit window.first + 24 ≤ t) × (t < 16 * end_packet window.end + 24))

-- a line that carries payload in row t fails, and that spoils the row
pub record IsSpoiled (leg : Leg) (from horizon t : ℕ) : Type 0 where
  pub line : ℕ
  pub window : Window
  pub fails : FailsBy (windows_of leg line) window from horizon
  pub used : IsInUse (governing_table leg t) line
  pub spoils : Spoils window t

-- how many rows of some in turn aren't whole
abbrev pub spoiled_rows : Leg → ℕ → ℕ → ℕ
spoiled_rows leg from count =
    length (filter (λ t. not (is_whole_row (scenario_by leg) (session_of leg) t)) (range_with_len from count))

-- all lines that fail do so in one stretch of containers
pub record FailTogether (leg : Leg) (begins ends horizon : ℕ) : Type 0 where
  pub fails : FailsOnce leg begins horizon
  pub some : begins < ends
  pub same : (line : ℕ) (window : Window) → FailsBy (windows_of leg line) window begins horizon →
      (window.first ≡ begins) × (window.end ≡ ends)
