-- Rows of octets by place.
use Rattle.std.specs.Prelude.{ℕ, ◌-◌, ◌%◌, List, [], slice_index, slice_index_or}

-- the octet of a row and a column
abbrev pub octet_at : List (List ℕ) → ℕ → ℕ → ℕ
octet_at rows row column = slice_index (slice_index_or rows row []) column

-- how many columns of the last of the squares that stand over x columns have nothing in them
abbrev pub overhang : ℕ → ℕ
overhang x = (16 - x % 16) % 16
