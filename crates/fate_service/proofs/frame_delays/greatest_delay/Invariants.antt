-- The greatest so far and that of the delays that are left.
use Rattle.std.proofs.Common.{◌≡◌, drop, max}
use Rattle.law_model.specs.Common.{greatest}
use Rattle.fate_service.proofs.frame_delays.greatest_delay.Given as goal

abbrev pub invariant-loop-delay : goal.invariant-loop-delay
invariant-loop-delay l = max l.most (greatest (drop l.delay-index l.fn.delays)) ≡ greatest l.fn.delays
