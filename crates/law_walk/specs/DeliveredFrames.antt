-- The frames that the rows of a leg's session give.
use Rattle.std.specs.Prelude.{◌≡◌, ℕ, false, List, Option, Some, None, drop, length}
use Rattle.law_model.specs.Common.{Leg, scenario_by, StreamRow, deliver, rows_of, longest_frame}
use Rattle.law_loss.specs.AddedFrames.{whole_row}
use Rattle.law_walk.specs.Walk.{session_of}

-- the first rows
abbrev pub session_rows : Leg → ℕ → List StreamRow
session_rows leg rows = rows_of (scenario_by leg) (session_of leg) rows

-- the frames that are delivered of them
abbrev pub delivered_of : Leg → ℕ → List (List ℕ)
delivered_of leg rows = deliver longest_frame (session_rows leg rows)

-- what a sink makes of a row that it reads: the row with its octets, where it is whole, and else one that isn't whole,
-- of any octets
pub record IsReceived (receive : Option (List ℕ) → StreamRow) : Type 0 where
  pub whole : (octets : List ℕ) → receive (Some octets) ≡ whole_row octets
  pub lost : (receive None).whole ≡ false

-- the frames that some rows give beside those of fewer rows
abbrev pub delivered_since : Leg → ℕ → ℕ → List (List ℕ)
delivered_since leg before rows = drop (length (delivered_of leg before)) (delivered_of leg rows)
