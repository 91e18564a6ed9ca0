-- The stream of a session in its rows: which octets each row carries, and which rows are whole.
use Rattle.std.specs.Prelude.{ℕ, zero, suc, List, [], ◌∷◌, ◌++◌, Option}
use Rattle.law_model.specs.session.Scenario.{Scenario}
use Rattle.law_model.specs.source.Table.{Told}
use Rattle.law_model.specs.frames.Payload.{payload_of}
use Rattle.law_model.specs.rows.SessionRows.{is_whole_row}
use Rattle.law_model.specs.frames.Segment.{StreamRow}

-- row t
abbrev pub row_of : Scenario → List (Option Told) → ℕ → StreamRow
row_of scenario cells t = record { whole = is_whole_row scenario cells t; octets = payload_of scenario cells t }

-- the first rows of a session
unfoldable pub rows_of : Scenario → List (Option Told) → ℕ → List StreamRow
rows_of scenario cells zero = []
rows_of scenario cells (suc t) = rows_of scenario cells t ++ row_of scenario cells t ∷ []
