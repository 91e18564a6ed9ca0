-- The failures of each line are in order.
use Rattle.std.proofs.Common.{arith}
use Rattle.pair_walk.proofs.script_of_way.is_unheard.Goals as goal

pub is_heard-requires-clause-apart : goal.is_heard-requires-clause-apart
is_heard-requires-clause-apart c = λ k d low. (c.requires.other.valid.sound.network.windows k d low).apart

pub is_heard-requires-clause-fits : goal.is_heard-requires-clause-fits
is_heard-requires-clause-fits c = omega (arith, c.requires.other.near, c.requires.packet)
