-- None are apart.
use Rattle.std.proofs.Common.{refl, arith}
use Rattle.law_model.specs.session.Streams.{AreStreams, behind_of, streamed_in}
use Rattle.law_model.proofs.script_items.streams.Streams.new.Goals as goal

pub invariant_of-result : goal.invariant_of-result
unfolding AreStreams behind_of streamed_in
invariant_of-result c = rw c.new.ensures.items (tt, refl, refl, omega arith)
