-- Outages: the longest runs of dark rows, and the frames that are lost in each.
use Rattle.std.specs.Prelude.{◌≤◌, ℕ, ◌+◌, ◌==◌, nat_le, nat_lt, ◌&&◌, if◌then◌else◌, List, [], ◌∷◌, filter, not}
use Rattle.fate_service.specs.declared.landed_frames.Tally.{Tally}
use Rattle.fate_service.specs.declared.landed_frames.CarriedFrame.{CarriedFrame}
use Rattle.fate_service.specs.declared.outages.Outage.{Outage}
use Rattle.fate_service.specs.declared.row_states.RowState.{RowState}
use Rattle.fate_service.specs.declared.row_states.RowState.TheVariants.{Clear, Hunting, Spoiled}
use Rattle.fate_service.specs.FrameColumns.{no_frames, with_frame_if}

-- ---- dark rows
-- an outage with one more row at its end, of which none or one isn't whole
abbrev pub grown : Outage → ℕ → Outage
grown outage spoiled =
    record { first = outage.first; end = outage.end + 1; spoiled = outage.spoiled + spoiled }

-- a dark row behind outages before it: it goes on with the last one, where that ends there; so many more rows of it
-- aren't whole
unfoldable pub with_dark : ℕ → ℕ → List Outage → List Outage
with_dark row spoiled [] = record { first = row; end = row + 1; spoiled = spoiled } ∷ []
with_dark row spoiled (outage ∷ []) =
    if outage.end == row then record { first = outage.first; end = row + 1; spoiled = outage.spoiled + spoiled } ∷ []
    else outage ∷ record { first = row; end = row + 1; spoiled = spoiled } ∷ []
with_dark row spoiled (outage ∷ next ∷ outages) = outage ∷ with_dark row spoiled (next ∷ outages)

abbrev pub with_state : ℕ → RowState → List Outage → List Outage
with_state row Clear outages = outages
with_state row Hunting outages = with_dark row 0 outages
with_state row Spoiled outages = with_dark row 1 outages

-- row by row, from a row on
unfoldable pub outages_on : List Outage → ℕ → List RowState → List Outage
outages_on outages row [] = outages
outages_on outages row (state ∷ states) = outages_on (with_state row state outages) (row + 1) states

abbrev pub outages_of : List RowState → List Outage
outages_of states = outages_on [] 0 states

-- as private clauses say it: no more rows of an outage aren't whole than come before its end
abbrev pub HasFewSpoiled : Outage → Type 0
HasFewSpoiled outage = outage.spoiled ≤ outage.end

-- ---- the frames that are lost: an outage has those that are decided from its first row on, and before the first row of
-- the next one
unfoldable pub lost_on : Tally → List CarriedFrame → Tally
lost_on tally [] = tally
lost_on tally (frame ∷ carried) = lost_on (with_frame_if (not frame.got) tally frame.octets) carried

abbrev pub decided_in : ℕ → ℕ → List CarriedFrame → List CarriedFrame
decided_in first end carried =
    filter (λ (frame : CarriedFrame). nat_le first frame.at && nat_lt frame.at end) carried

abbrev pub losses : List CarriedFrame → ℕ → ℕ → Tally
losses carried first end = lost_on no_frames (decided_in first end carried)

-- the first row of the next outage; behind the last one all rows that were taken
abbrev pub next_first : ℕ → List Outage → ℕ
next_first rows [] = rows
next_first rows (outage ∷ outages) = outage.first
