-- A container that is lent to be written.
use Rattle.std.specs.Borrow.{Lends, MutBor, Fml}
use Rattle.member_cells.specs.declared.containers_and_cells.Container.{Container}
use Rattle.member_cells.specs.contracts.containers_and_cells.Container.{the_row as container_row}
use Rattle.member_cells.specs.contracts.held_container.HeldContainer.{the_row}

-- a place ends with the container that was left behind the result
abbrev pub LendsContainer : MutBor Container → MutBor Container → Fml
LendsContainer place container = Lends the_row container_row place container (λ left. left)
