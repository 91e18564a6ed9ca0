-- There are no more refusals than items.
use Rattle.std.proofs.Common.{arith}
use Rattle.terminal_group.proofs.RefusalOrderAndNextItemLaws.{all-dues}
use Rattle.terminal_group.proofs.landed_items.Landing.all_refused.Goals as goal

pub overflow_add-result : goal.overflow_add-result
overflow_add-result c = omega (arith, all-dues c.self.inside.items)
