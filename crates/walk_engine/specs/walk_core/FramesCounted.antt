-- Frames that are counted on their way to another place.
use Rattle.std.specs.Prelude.{◌≡◌, ℕ, ◌+◌, min, List, [], ◌∷◌, length}
use Rattle.law_model.specs.Common.{Start}

-- a start of frames of which the count is told: how many had been counted before. It has no octets
abbrev pub counting : ℕ → ℕ → Start
counting got name = record { octets = []; faults = got; name = name }

-- a start of the other place's frames: before its own octets stands the name of its own start
abbrev pub passing : Start → ℕ → Start
passing start name = record { octets = start.name ∷ start.octets; faults = start.faults; name = name }

-- these frames are counted, or were given to the other place, as the octets of the start tell
abbrev pub IsCounted : (Start → List (List ℕ) → Type 0) → ℕ → List ℕ → ℕ → List (List ℕ) → Type 0
IsCounted stands got [] faults frames = got ≡ min (faults + length frames) 18446744073709551615
IsCounted stands got (name ∷ octets) faults frames =
    stands (record { octets = octets; faults = faults; name = name }) frames
