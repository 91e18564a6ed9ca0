-- What each row is that was taken: whole and of use, whole and not yet of use, or not whole.
use Rattle.std.specs.Prelude.{ℕ, ◌+◌, nat_le, nat_lt, if◌then◌else◌, Bool, true, false, List, [], ◌∷◌, length, map}
use Rattle.std.specs.Prelude.{Option, Some, None}
use Rattle.std.specs.List.{range_with_len}
use Rattle.law_model.specs.Common.{StreamRow}
use Rattle.fate_engine.specs.Common.{row_at, spoiled_after, row_segments, mark_of_row}
use Rattle.fate_service.specs.declared.row_states.RowState.{RowState}
use Rattle.fate_service.specs.declared.row_states.RowState.TheVariants.{Clear, Hunting, Spoiled}

-- a whole row of a segment but the first, by the mark of the segment: it is of use from the row of the mark on
abbrev pub state_by_mark : List StreamRow → ℕ → Option ℕ → RowState
state_by_mark rows t None = Hunting
state_by_mark rows t (Some place) = if nat_le (row_at rows place) t then Clear else Hunting

-- a row isn't whole where it is the first one from itself on that isn't; in the first segment all rows are of use
abbrev pub state_of : List StreamRow → ℕ → RowState
state_of rows t =
    if nat_le (spoiled_after rows t) t then Spoiled
    else (if nat_lt t (spoiled_after rows 0) then Clear
    else state_by_mark rows t (mark_of_row (row_segments rows) t))

-- of all rows
abbrev pub states_of : List StreamRow → List RowState
states_of rows = map (state_of rows) (range_with_len 0 (length rows))

-- how many are dark: of no use
abbrev pub is_dark : RowState → Bool
is_dark Clear = false
is_dark Hunting = true
is_dark Spoiled = true

unfoldable pub dark_on : ℕ → List RowState → ℕ
dark_on n [] = n
dark_on n (state ∷ states) = dark_on (if is_dark state then n + 1 else n) states

abbrev pub dark_among : List RowState → ℕ
dark_among states = dark_on 0 states

-- a row isn't whole
abbrev pub is_spoiled : RowState → Bool
is_spoiled Clear = false
is_spoiled Hunting = false
is_spoiled Spoiled = true
