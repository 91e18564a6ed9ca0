-- The least so far and that of the delays that are left.
use Rattle.std.proofs.Common.{◌≡◌, drop}
use Rattle.law_model.specs.Common.{least, least_or}
use Rattle.text_scripts.proofs.script_read.script_limits.least_delay.Given as goal

abbrev pub invariant-loop-delay : goal.invariant-loop-delay
invariant-loop-delay l = least_or l.low (drop l.delay-index l.others) ≡ least l.fn.delays
