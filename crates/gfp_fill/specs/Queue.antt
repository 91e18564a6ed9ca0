-- Which lengths are accepted, and what a queue holds.
use Rattle.std.specs.Prelude.{ℕ, ◌<◌, ◌≤◌, ◌⊎◌, List, []}
use Rattle.law_model.specs.Common.{shortest_frame, longest_frame}

-- a length that is accepted
abbrev pub IsFrameLength : ℕ → Type 0
IsFrameLength n = (shortest_frame ≤ n) × (n ≤ longest_frame)

-- a length that is refused
abbrev pub IsOtherLength : ℕ → Type 0
IsOtherLength n = (n < shortest_frame) ⊎ (longest_frame < n)

-- the frames that wait, oldest first, and the octets of the frame that is being sent which aren't written yet
pub record Held : Type 0 where
  pub waiting : List (List ℕ)
  pub begun : List ℕ

-- these frames wait, and none is being sent
abbrev pub unbegun : List (List ℕ) → Held
unbegun waiting = record { waiting = waiting; begun = [] }
