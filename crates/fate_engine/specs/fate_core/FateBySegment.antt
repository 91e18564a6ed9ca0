-- The fate of a frame by where its first row lies.
use Rattle.std.specs.Prelude.{ℕ, zero, suc, nat_le, nat_lt, if◌then◌else◌, Bool, true, false, List, Option, Some, None}
use Rattle.std.specs.Prelude.{slice_get}
use Rattle.fate_engine.specs.declared.fate_law.Fate.{Fate}
use Rattle.fate_engine.specs.declared.fate_law.Fate.TheVariants.{Cut, Unconfirmed, Hunting, Unsettled, Got}
use Rattle.law_model.specs.Common.{Piece}
use Rattle.fate_engine.specs.declared.fate_law.RowSegment.{RowSegment}
use Rattle.fate_engine.specs.fate_law.Marks.{is_true_mark}
use Rattle.fate_engine.specs.declared.fate_core.row_segments.Around.{Around}

-- a piece begins at a place or later
abbrev pub begins_from : ℕ → Option (ℕ × ℕ) → Bool
begins_from place None = false
begins_from place (Some side) = nat_le place side.0

-- the frame before a frame does
abbrev pub settles : List (ℕ × ℕ) → ℕ → ℕ → Bool
settles sides zero place = false
settles sides (suc frame) place = begins_from place (slice_get sides frame)

-- by the mark of its segment
abbrev pub fate_by_mark : Option ℕ → ℕ → ℕ → ℕ → (ℕ → Bool) → Fate
fate_by_mark None first last from settled = Unconfirmed first last
fate_by_mark (Some mark) first last from settled =
    if nat_lt from mark then Hunting first last else (if settled mark then Got first last else Unsettled first last)

abbrev pub fate_around : Around → ℕ → ℕ → ℕ → (ℕ → Bool) → Fate
fate_around around first last from settled =
    if nat_le around.spoiled last then Cut first last around.spoiled
    else (if around.first then Got first last else fate_by_mark around.mark first last from settled)

-- ---- marks
-- a piece begins at the mark of a segment, where there is a segment and it has one
abbrev pub is_true_of : List Piece → Option RowSegment → Bool
is_true_of pieces None = true
is_true_of pieces (Some segment) = is_true_mark pieces segment.mark
