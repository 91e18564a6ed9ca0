-- The nibbles of a control packet of a line (G.7042): the upper halves of the H4 octets of sixteen numbers, where they
-- are all whole.
use Rattle.std.specs.Prelude.{ℕ, zero, suc, ◌+◌, ◌*◌, ◌/◌, List, [], ◌∷◌, ◌++◌, Option, Some, None}
use Rattle.member_cells.specs.declared.containers_and_cells.Container.{Container}
use Rattle.member_cells.specs.declared.containers_and_cells.Cell.{Cell}
use Rattle.law_model.specs.members.CellVerdicts.{verdict}

-- the upper half of the H4 octet of a number, where it is whole
abbrev pub upper_of : Option (Option Container) → Option ℕ
upper_of None = None
upper_of (Some None) = None
upper_of (Some (Some container)) = Some (container.h4 / 16)

abbrev pub with_last : Option (List ℕ) → Option ℕ → Option (List ℕ)
with_last None last = None
with_last (Some nibbles) None = None
with_last (Some nibbles) (Some last) = Some (nibbles ++ last ∷ [])

-- the upper halves of a count of numbers from a first one on, where they are all whole
unfoldable pub uppers : List Cell → ℕ → ℕ → Option (List ℕ)
uppers cells from zero = Some []
uppers cells from (suc count) = with_last (uppers cells from count) (upper_of (verdict cells (from + count)))

-- the nibbles of packet k
abbrev pub nibbles_of : List Cell → ℕ → Option (List ℕ)
nibbles_of cells k = uppers cells (16 * k + 8) 16
