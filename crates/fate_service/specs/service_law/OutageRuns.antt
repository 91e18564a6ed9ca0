-- Outages as runs of dark rows; to which of them a lost frame belongs, and which frames lie between two of them.
use Rattle.std.specs.Prelude.{◌≡◌, ◌<◌, ◌≤◌, ℕ, suc, Bool, true, false, List, [], ◌∷◌, length, drop, Option}
use Rattle.std.specs.Prelude.{Some, None, slice_get}
use Rattle.law_model.specs.frames.Piece.{Piece}
use Rattle.law_model.specs.frames.Segment.{StreamRow}
use Rattle.fate_engine.specs.declared.fate_law.Fate.{Fate}
use Rattle.fate_engine.specs.declared.fate_law.Fate.TheVariants.{Waits, Cut, Unconfirmed, Hunting, Unsettled, Got}
use Rattle.fate_engine.specs.fate_law.SessionFates.{fate_at}
use Rattle.fate_service.specs.declared.landed_frames.CarriedFrame.{CarriedFrame}
use Rattle.fate_service.specs.declared.outages.Outage.{Outage}
use Rattle.fate_service.specs.RowStates.{state_of, states_of, is_dark, is_spoiled}
use Rattle.fate_service.specs.Outages.{outages_of, next_first}

-- ---- rows
-- a row of a stream is of no use
abbrev pub dark_row : List StreamRow → ℕ → Bool
dark_row rows t = is_dark (state_of rows t)

-- it isn't whole
abbrev pub spoiled_row : List StreamRow → ℕ → Bool
spoiled_row rows t = is_spoiled (state_of rows t)

abbrev pub row_outages : List StreamRow → List Outage
row_outages rows = outages_of (states_of rows)

-- outages are the longest runs of dark rows, of those from one on to below another
unfoldable pub AreOutages : (ℕ → Bool) → ℕ → List Outage → ℕ → Type 0
AreOutages dark from [] end = (t : ℕ) → from ≤ t → t < end → dark t ≡ false
AreOutages dark from (outage ∷ outages) end =
    (from ≤ outage.first) × (outage.first < outage.end) × (outage.end ≤ end)
    × ((t : ℕ) → from ≤ t → t < outage.first → dark t ≡ false)
    × ((t : ℕ) → outage.first ≤ t → t < outage.end → dark t ≡ true)
    × (outage.end < end → dark outage.end ≡ false) × AreOutages dark outage.end outages end

-- ---- frames that are lost
-- one belongs to the outage with a number: it is decided in its first row or behind it, and before the first row of the
-- next one
pub record BelongsTo (outages : List Outage) (rows : ℕ) (frame : CarriedFrame) (number : ℕ) : Type 0 where
  pub outage : Outage
  pub there : slice_get outages number ≡ Some outage
  pub from : outage.first ≤ frame.at
  pub before : frame.at < next_first rows (drop (suc number) outages)

-- to one of them, and to no other
pub record BelongsOnce (outages : List Outage) (rows : ℕ) (frame : CarriedFrame) : Type 0 where
  pub number : ℕ
  pub belongs : BelongsTo outages rows frame number
  pub once : (other : ℕ) → BelongsTo outages rows frame other → other ≡ number

-- ---- frames between outages
-- the first row of a frame that rows carry, and its last
abbrev pub rows_of_fate : Fate → Option (ℕ × ℕ)
rows_of_fate Waits = None
rows_of_fate (Cut r q t) = Some (r, q)
rows_of_fate (Unconfirmed r q) = Some (r, q)
rows_of_fate (Hunting r q) = Some (r, q)
rows_of_fate (Unsettled r q) = Some (r, q)
rows_of_fate (Got r q) = Some (r, q)

abbrev pub is_unsettled : Fate → Bool
is_unsettled Waits = false
is_unsettled (Cut r q t) = false
is_unsettled (Unconfirmed r q) = false
is_unsettled (Hunting r q) = false
is_unsettled (Unsettled r q) = true
is_unsettled (Got r q) = false

-- an accepted frame begins in a row behind the first one after an outage, and ends before the next outage
pub record LiesBetween (pieces : List Piece) (rows : List StreamRow) (number i : ℕ) : Type 0 where
  pub outage : Outage
  pub there : slice_get (row_outages rows) number ≡ Some outage
  pub first : ℕ
  pub last : ℕ
  pub has : rows_of_fate (fate_at pieces rows i) ≡ Some (first, last)
  pub behind : outage.end < first
  pub before : last < next_first (length rows) (drop (suc number) (row_outages rows))
