-- The H4 octets of the cells of a line, as the lock on the multiframe sees them: none stands for a cell that is not
-- good.
use Rattle.std.specs.Prelude.{◌≡◌, ℕ, List, map, slice_get, Option, Some, None}
use Rattle.member_cells.specs.declared.containers_and_cells.Cell.{Cell}
use Rattle.member_cells.specs.declared.containers_and_cells.Cell.TheVariants.{Good, Fail, End}

abbrev pub sign_of : Cell → Option ℕ
sign_of (Good container) = Some container.h4
sign_of Fail = None
sign_of End = None

abbrev pub signs_of : List Cell → List (Option ℕ)
signs_of cells = map sign_of cells

abbrev pub HasNoEnd : List Cell → Type 0
HasNoEnd cells = (i : ℕ) → slice_get cells i ≡ Some End → ⊥
