-- The lines that carry payload in the rows that were taken, by the tables of the source.
use Rattle.std.specs.Prelude.{◌≡◌, ℕ, ◌-◌, ◌/◌, ◌==◌, nat_lt, not, Bool, if◌then◌else◌, List, [], length, filter, Option}
use Rattle.std.specs.List.{list_any, list_all, range_with_len, find}
use Rattle.law_model.specs.session.Leg.{Leg}
use Rattle.law_model.specs.session.Scenario.{Scenario, scenario_by}
use Rattle.law_model.specs.source.Table.{Told, active}
use Rattle.law_model.specs.source.Source.{table_of}
use Rattle.law_walk.specs.Walk.{session_of}

-- ---- row by row
-- those of row t: the table of packet k governs rows 16 k + 24 to 16 k + 39, and in the rows before no line does
abbrev pub used_lines : Scenario → List (Option Told) → ℕ → List ℕ
used_lines scenario cells t = if nat_lt t 24 then [] else active (table_of scenario cells ((t - 24) / 16))

-- a line does
abbrev pub is_used : Scenario → List (Option Told) → ℕ → ℕ → Bool
is_used scenario cells line t = list_any (λ used. used == line) (used_lines scenario cells t)

-- some line does
abbrev pub has_payload : Scenario → List (Option Told) → ℕ → Bool
has_payload scenario cells t = nat_lt 0 (length (used_lines scenario cells t))

-- ---- of the first rows
-- a line is unused: it carries payload in none of them
abbrev pub is_unused : Scenario → List (Option Told) → ℕ → ℕ → Bool
is_unused scenario cells rows line = list_all (λ t. not (is_used scenario cells line t)) (range_with_len 0 rows)

-- the first of them in which a line carries payload
abbrev pub first_payload : Scenario → List (Option Told) → ℕ → Option ℕ
first_payload scenario cells rows = find (has_payload scenario cells) (range_with_len 0 rows)

-- ---- of a leg, in as many rows as were taken
-- of some lines those that are unused
abbrev pub unused_among : Leg → ℕ → List ℕ → List ℕ
unused_among leg rows lines = filter (is_unused (scenario_by leg) (session_of leg) rows) lines

abbrev pub unused_lines : Leg → ℕ → List ℕ
unused_lines leg rows = unused_among leg rows (range_with_len 0 leg.config.lines)

-- as private clauses say it: two rows are governed by the same packet, or both by none
pub record AreAlike (t row : ℕ) : Type 0 where
  pub early : nat_lt t 24 ≡ nat_lt row 24
  pub packet : (t - 24) / 16 ≡ (row - 24) / 16
