-- What the lines of a session tell a sink.
use Rattle.std.specs.Prelude.{◌≡◌, ℕ, ◌<◌, if◌then◌else◌, List, Option, Some, None}
use Rattle.law_model.specs.Common.{Container, Cell, Scenario, Told, is_whole_row, payload_of, row_at}
use Rattle.law_row.specs.Received.{TellsRow, IsDealtRow}

-- the first rows that the cells give are those of the session: whole where these are, and with their octets
abbrev pub AreSessionRows : Scenario → List (Option Told) → List (List Cell) → ℕ → Type 0
AreSessionRows scenario returns cells n = (t : ℕ) → t < n →
    row_at scenario.options scenario.size cells t ≡ (if is_whole_row scenario returns t then Some
    (payload_of scenario returns t) else None)

-- the cells tell row t, of which the lines that carry payload have the octets that the frame carries
pub record TellsDealt (scenario : Scenario) (returns : List (Option Told)) (cells : List (List Cell))
    (t : ℕ) : Type 0 where
  pub sent : ℕ → Container
  pub tells : TellsRow scenario returns sent cells t
  pub dealt : IsDealtRow scenario returns sent t

-- and so the first rows
abbrev pub TellRows : Scenario → List (Option Told) → List (List Cell) → ℕ → Type 0
TellRows scenario returns cells n = (t : ℕ) → t < n → TellsDealt scenario returns cells t
