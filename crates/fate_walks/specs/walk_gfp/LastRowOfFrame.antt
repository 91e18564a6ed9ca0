-- Frame by frame what is written, as private clauses say it.
use Rattle.std.specs.Prelude.{ℕ, List, [], ◌∷◌, Option, Some, None}
use Rattle.fate_engine.specs.declared.fate_law.Fate.{Fate}
use Rattle.fate_engine.specs.declared.fate_law.Fate.TheVariants.{Waits, Cut, Unconfirmed, Hunting, Unsettled, Got}
use Rattle.text_captures.specs.capture_file.WrittenCapture.{RowFrame}

-- the row of a frame's last octet, where it doesn't wait
abbrev pub last_row : Fate → Option ℕ
last_row Waits = None
last_row (Cut r q t) = Some q
last_row (Unconfirmed r q) = Some q
last_row (Hunting r q) = Some q
last_row (Unsettled r q) = Some q
last_row (Got r q) = Some q

-- a frame in this row, where there is one
abbrev pub frame_if : Option ℕ → List ℕ → List RowFrame
frame_if None frame = []
frame_if (Some row) frame = record { row = row; frame = frame } ∷ []
