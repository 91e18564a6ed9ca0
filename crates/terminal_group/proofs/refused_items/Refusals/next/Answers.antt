-- Those behind the one that is found are left.
use Rattle.std.proofs.Common.{arith}
use Rattle.terminal_group.specs.RefusalCodes.{code_at}
use Rattle.terminal_group.proofs.RefusalCodeLaws.{codes-past}
use Rattle.terminal_group.proofs.refused_items.Refusals.next.Goals as goal

pub overflow_add-self : goal.overflow_add-self
overflow_add-self c = let few = c.in-Some.ensures.few in omega (arith, few)

pub returns-in-None-clause-ended : goal.returns-in-None-clause-ended
returns-in-None-clause-ended c =
    let count = c.len-self-inside.ensures.count in
    codes-past c.self.inside.lines (code_at c.self.inside.codes.now) c.self.inside.items.now c.len-self-inside.result
    (omega (arith, count))
