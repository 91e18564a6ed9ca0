-- The lines of a client that sends frames at a rate.
use Rattle.std.specs.Prelude.{ℕ, List, ◌++◌, codes, decimal}
use Rattle.std.specs.List.{flat_map}
use Rattle.hex.specs.Hex.{encode_lower}
use Rattle.law_rates.specs.Rates.{RateFrame, frames}
use Rattle.law_rates.specs.declared.rate_frames.Rate.{Rate}

-- the line of a frame
abbrev pub start_of : ℕ → List ℕ
start_of due = codes "frame " ++ decimal due ++ codes " "

abbrev pub line_of : RateFrame → List ℕ
line_of frame = start_of frame.due ++ encode_lower frame.octets ++ codes "\n"

-- those of some frames
unfoldable pub lines_of : List RateFrame → List ℕ
lines_of frames = flat_map line_of frames

abbrev pub rate_text : Rate → List ℕ
rate_text rate = lines_of (frames rate)
