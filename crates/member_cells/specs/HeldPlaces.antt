-- Containers that are held in places and used again and again.
use Rattle.std.specs.Prelude.{◌≡◌, List, ℕ, All, map, replicate}
use Rattle.std.specs.Global.{Box}
use Rattle.member_cells.specs.declared.containers_and_cells.Container.{Container}

-- what lies in some boxes
abbrev pub held : List (Box Container) → List Container
held boxes = map (λ (place : Box Container). place.value) boxes

-- a container without payload
abbrev pub blank : ℕ → Container
blank h4 = record { h4 = h4; payload = replicate 2340 0 }

-- in each of some boxes lies a container without payload, and its H4 is 0
abbrev pub AreBlank : List (Box Container) → Type 0
AreBlank boxes = All (λ (place : Box Container). place.value ≡ blank 0) boxes
