-- G.7041, frame delineation: the frames that a receiver gives.
use Rattle.std.specs.Prelude.{ℕ, true, List, [], ◌∷◌, flat_map}
use Rattle.law_model.specs.frames.Outcome.{Outcome, delivery, dropping, outcomes}

-- the frame of an outcome, where there is one
abbrev pub frame_in : Outcome → List (List ℕ)
frame_in (delivery frame) = frame ∷ []
frame_in (dropping why) = []

-- the frames that are delivered of the first segment of a stream
abbrev pub delivered : ℕ → List ℕ → List (List ℕ)
delivered longest octets = flat_map frame_in (outcomes longest true octets)
