-- What gathering the members of a row one by one leaves.
use Rattle.std.specs.Prelude.{◌≡◌, ◌≢◌, ℕ, ◌+◌, ◌*◌, ◌%◌, ◌<◌, List, [], ◌∷◌, length, slice_index}
use Rattle.law_model.specs.Common.{part_of}

-- a part is gathered into a row: it stands at the places of its rank, and all others stay
pub record Gathers (rank x places : ℕ) (part before after : List ℕ) : Type 0 where
  pub placed : (p : ℕ) → p < places → slice_index after (p * x + rank) ≡ slice_index part p
  pub others : (i : ℕ) → i % x ≢ rank → slice_index after i ≡ slice_index before i
  pub length : length after ≡ length before

-- what the members of these ranks carry of a row is gathered, one after the other
unfoldable pub GathersAll : ℕ → ℕ → List ℕ → List ℕ → List ℕ → List ℕ → Type 0
GathersAll x places row [] before after = before ≡ after
GathersAll x places row (rank ∷ ranks) before after =
    (between : List ℕ) × Gathers rank x places (part_of rank x places row) before between ×
    GathersAll x places row ranks between after
