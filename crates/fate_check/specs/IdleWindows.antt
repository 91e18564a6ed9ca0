-- The failures that are told idle: for certain they spoil none of the rows that were taken.
use Rattle.std.specs.Prelude.{ℕ, ◌+◌, ◌&&◌, nat_le, not, Bool, if◌then◌else◌, List, [], map, filter, slice_index_or, Option}
use Rattle.std.specs.List.{flat_map, list_all, range_with_len}
use Rattle.law_model.specs.declared.window_types.Window.{Window}
use Rattle.law_model.specs.session.Leg.{Leg}
use Rattle.law_model.specs.session.Scenario.{Scenario, scenario_by}
use Rattle.law_model.specs.rows.SessionRows.{is_whole_row}
use Rattle.law_model.specs.source.Table.{Told}
use Rattle.law_walk.specs.Walk.{session_of}
use Rattle.fate_check.specs.UsedLines.{is_used, has_payload}

-- row t is one of those that a failure can spoil: they begin with its first container and end 38 rows after its end
abbrev pub is_near : Window → ℕ → Bool
is_near window t = nat_le window.first t && nat_le t (window.end + 38)

-- a failure of a line spares row t: the line doesn't carry payload in it; and if no line does, the row is whole all the
-- same, since the packet of some line could be read
abbrev pub is_spared : Scenario → List (Option Told) → ℕ → ℕ → Bool
is_spared scenario cells line t =
    if has_payload scenario cells t then not (is_used scenario cells line t) else is_whole_row scenario cells t

-- it is idle: it spares all of the first rows that it can spoil. Where the sink goes on none is told idle: what a line
-- said last as a member can hide which lines carry payload, also while it carries none, and more than 38 rows long
abbrev pub is_idle : Scenario → List (Option Told) → ℕ → ℕ → Window → Bool
is_idle scenario cells rows line window =
    not scenario.options.infers
    && list_all (is_spared scenario cells line) (filter (is_near window) (range_with_len 0 rows))

-- ---- of a leg, in as many rows as were taken
-- of some failures of a line those that are idle, each with the line
abbrev pub idle_among : Leg → ℕ → ℕ → List Window → List (ℕ × Window)
idle_among leg rows line windows =
    map (λ window. (line, window)) (filter (is_idle (scenario_by leg) (session_of leg) rows line) windows)

-- of a line all of them, in their order
abbrev pub idle_on : Leg → ℕ → ℕ → List (ℕ × Window)
idle_on leg rows line = idle_among leg rows line (slice_index_or leg.config.windows line [])

-- and of each line
abbrev pub idle_windows : Leg → ℕ → List (ℕ × Window)
idle_windows leg rows = flat_map (idle_on leg rows) (range_with_len 0 leg.config.lines)
