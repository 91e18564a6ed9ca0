-- G.707, virtual concatenation: the payload of a group is dealt octet by octet to its members. Octet i of a row goes to
-- the member of
-- rank i mod x, place i div x, where x members carry payload.
use Rattle.std.specs.Prelude.{ℕ, zero, suc, List, [], ◌∷◌, ◌++◌, map, drop, slice_index}
use Rattle.std.specs.List.{range_with_len}

-- the octets of a row that the member of a rank carries at a number of places: of each x octets in turn the one of that
-- rank
unfoldable pub part_of : ℕ → ℕ → ℕ → List ℕ → List ℕ
part_of rank x zero row = []
part_of rank x (suc places) row = slice_index row rank ∷ part_of rank x places (drop x row)

-- what all x members carry of a row, by rank
abbrev pub parts_of : ℕ → ℕ → List ℕ → List (List ℕ)
parts_of x places row = map (λ rank. part_of rank x places row) (range_with_len 0 x)

-- the octets that the members carry at a place, by rank
abbrev pub octets_at : ℕ → List (List ℕ) → List ℕ
octets_at place parts = map (λ part. slice_index part place) parts

-- and at a number of places from one on, place by place
unfoldable pub octets_from : ℕ → ℕ → List (List ℕ) → List ℕ
octets_from place zero parts = []
octets_from place (suc places) parts = octets_at place parts ++ octets_from (suc place) places parts

-- the row that members carry at a number of places
abbrev pub row_of : ℕ → List (List ℕ) → List ℕ
row_of places parts = octets_from 0 places parts
