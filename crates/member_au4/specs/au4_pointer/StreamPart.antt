-- G.707, AU-4 pointers: the parts of a stream of VC-4s. A part is what is sent under pointers that only stay or move.
use Rattle.std.specs.Prelude.{◌≡◌, ℕ, ◌+◌, ◌-◌, ◌*◌, ◌/◌, List, [], ◌∷◌, ◌++◌, length, take, drop, replicate, All}
use Rattle.std.specs.List.{concat, flat_map, fold}
use Rattle.member_au4.specs.declared.au4_pointer.au_frame.Action.{Action}
use Rattle.member_au4.specs.declared.au4_pointer.au_frame.Action.TheVariants.{Keep, Up, Down, New}

-- each has the octets of a VC-4
abbrev pub AreVcs : List (List ℕ) → Type 0
AreVcs vcs = All (λ vc. length vc ≡ 2349) vcs

-- how many octets of data a frame has
abbrev pub octets_of : Action → ℕ
octets_of Keep = 2349
octets_of Up = 2346
octets_of Down = 2352
octets_of (New p) = 2349

-- a part: the value at which it began, how many octets of data its frames have, and the number of its first VC-4
pub record Part : Type 0 where
  pub value : ℕ
  pub size : ℕ
  pub first : ℕ

-- how many VC-4s end in a part
abbrev pub ends : Part → ℕ
ends part = (part.size - 3 * part.value) / 2349

-- how many VC-4s begin in a part
abbrev pub begins : Part → ℕ
begins part = (part.size - 3 * part.value + 2348) / 2349

-- the number behind the last VC-4 that began
abbrev pub begun : Part → ℕ
begun part = part.first + begins part

-- the part that a frame belongs to, from the one of the frames before: each New begins one, with the first VC-4 that
-- wasn't begun
abbrev pub next_part : Part → Action → Part
next_part part Keep = record { value = part.value; size = part.size + 2349; first = part.first }
next_part part Up = record { value = part.value; size = part.size + 2346; first = part.first }
next_part part Down = record { value = part.value; size = part.size + 2352; first = part.first }
next_part part (New p) = record { value = p; size = 2349; first = begun part }

-- before frame 0 a part begins
abbrev pub first_part : ℕ → Part
first_part start = record { value = start; size = 0; first = 0 }

-- the last part of frames
abbrev pub part_after : ℕ → List Action → Part
part_after start actions = fold next_part (first_part start) actions

-- the part that ends at a frame, if one does
abbrev pub ended : Part → Action → List Part
ended part Keep = []
ended part Up = []
ended part Down = []
ended part (New p) = part ∷ []

-- all parts, from one on
abbrev pub parts_from : Part → List Action → List Part
parts_from part [] = part ∷ []
parts_from part (a ∷ more) = ended part a ++ parts_from (next_part part a) more

-- the octets that the data of a part is the beginning of: zeros, and then VC-4s one behind another from its first
abbrev pub flow : Part → List (List ℕ) → List ℕ
flow part vcs = replicate (3 * part.value) 0 ++ concat (drop part.first vcs)

-- the VC-4s that end in a part
abbrev pub ending : List (List ℕ) → Part → List (List ℕ)
ending vcs part = take (ends part) (drop part.first vcs)

-- the VC-4s that end in their part
abbrev pub whole : ℕ → List Action → List (List ℕ) → List (List ℕ)
whole start actions vcs = flat_map (ending vcs) (parts_from (first_part start) actions)
