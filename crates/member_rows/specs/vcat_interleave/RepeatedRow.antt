-- Octets that come again and again.
use Rattle.std.specs.Prelude.{◌≡◌, ℕ, ◌+◌, ◌<◌, List, length, slice_index}

-- each octet is as the fourth one before it
abbrev pub ComesAgain : List ℕ → Type 0
ComesAgain row = (i : ℕ) → i + 4 < length row → slice_index row (i + 4) ≡ slice_index row i
