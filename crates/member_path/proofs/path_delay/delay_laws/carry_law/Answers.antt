-- A container's cells come last of those of the containers so far.
use Rattle.member_path.proofs.DelayedPathCellLaws.{cells-next}
use Rattle.member_path.proofs.path_delay.delay_laws.carry_law.Goals as goal

pub returns-clause-next : goal.returns-clause-next
returns-clause-next c carries delay total i containers = cells-next carries delay total containers i
