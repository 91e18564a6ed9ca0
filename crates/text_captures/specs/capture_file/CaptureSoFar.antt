-- What is written so far of a capture by a `CaptureOut`, or by a `GfpOut`. `written` and `faults` are a sink's.
use Rattle.std.specs.Prelude.{◌≡◌, ℕ, List, ◌∷◌, ◌++◌, length, take, drop, map, slice_index, Option}
use Rattle.law_model.specs.Common.{Start}
use Rattle.text_got.specs.TextSoFar.{HasText}
use Rattle.text_captures.specs.capture_file.WrittenCapture.{RowFrame, records_octets, ethernet_capture}
use Rattle.text_captures.specs.capture_file.GfpInCapture.{gfp_capture}
use Rattle.text_captures.specs.declared.capture_file.capture_out.CaptureOut.{CaptureOut}
use Rattle.text_captures.specs.declared.capture_file.gfp_out.GfpOut.{GfpOut}

-- by which reference it writes, and the row that is being taken
abbrev pub name_of : {K : Type 0} → CaptureOut K → ℕ
name_of out = out.got.out.ghost_name

abbrev pub row_at : {K : Type 0} → CaptureOut K → ℕ
row_at out = out.row

-- the capture of these frames was written since a start, or waits
abbrev pub HasCapture : {K : Type 0} → (K → Option (List ℕ)) → (K → ℕ) → CaptureOut K → Start → List RowFrame → Type 0
HasCapture written faults out start frames = HasText written faults out.got start (ethernet_capture frames)

-- the same of GFP frames that hold client frames
abbrev pub gfp_name_of : {K : Type 0} → GfpOut K → ℕ
gfp_name_of out = out.got.out.ghost_name

abbrev pub HasGfp : {K : Type 0} → (K → Option (List ℕ)) → (K → ℕ) → GfpOut K → Start → List RowFrame → Type 0
HasGfp written faults out start frames = HasText written faults out.got start (gfp_capture frames)

-- frames that the taking of one row gave
abbrev pub at_row : ℕ → List (List ℕ) → List RowFrame
at_row row frames = map (λ (frame : List ℕ). record { row = row; frame = frame }) frames

-- ---- the frames of one row. Before its first one there is more than a sink tells: the start names the row, what the
-- sink told before
-- the capture, and what was written of this since
abbrev pub row_start : Start → ℕ → List ℕ → Start
row_start start row before = record {
  octets = row ∷ length start.octets ∷ start.octets ++ before;
  faults =
      start.faults;
  name = start.name;
}

abbrev pub row_in : Start → ℕ
row_in start = slice_index start.octets 0

abbrev pub first_in : Start → Start
first_in start = record {
  octets = take (slice_index start.octets 1) (drop 2 start.octets);
  faults = start.faults;
  name = start.name;
}

abbrev pub before_in : Start → List ℕ
before_in start = drop (slice_index start.octets 1) (drop 2 start.octets)

-- the records of these frames were written behind it, or wait
abbrev pub AddsRow : {K : Type 0} → (K → Option (List ℕ)) → (K → ℕ) → CaptureOut K → Start → List (List ℕ) → Type 0
AddsRow written faults out start frames =
    (out.row ≡ row_in start) × HasText written faults out.got (first_in start)
    (before_in start ++ records_octets (at_row out.row frames))
