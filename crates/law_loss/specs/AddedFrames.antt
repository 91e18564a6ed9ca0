-- The frames that more octets of a segment, or one more row, add.
use Rattle.std.specs.Prelude.{ℕ, Bool, true, false, List, [], ◌∷◌, ◌++◌, length, drop, flat_map}
use Rattle.law_model.specs.Common.{outcomes, StreamRow, deliver}
use Rattle.law_model.specs.frames.Delivery.{frame_in}

-- the frames of octets of a segment
abbrev pub frames_in : ℕ → Bool → List ℕ → List (List ℕ)
frames_in longest first octets = flat_map frame_in (outcomes longest first octets)

-- those that more octets add
abbrev pub next_frames : ℕ → Bool → List ℕ → List ℕ → List (List ℕ)
next_frames longest first octets more =
    drop (length (frames_in longest first octets)) (frames_in longest first (octets ++ more))

-- the frames that a row adds
abbrev pub added : ℕ → List StreamRow → StreamRow → List (List ℕ)
added longest rows row = drop (length (deliver longest rows)) (deliver longest (rows ++ row ∷ []))

abbrev pub whole_row : List ℕ → StreamRow
whole_row octets = record { whole = true; octets = octets }

abbrev pub lost_row : List ℕ → StreamRow
lost_row octets = record { whole = false; octets = octets }
