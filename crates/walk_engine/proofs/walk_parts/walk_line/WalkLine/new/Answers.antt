-- No carry was made.
use Rattle.std.proofs.Common.{subst}
use Rattle.member_path.specs.path_delay.CallsOnDelayedLine.{DelayStands, opened}
use Rattle.walk_engine.proofs.ReceiveRingAndPopLaws.{has-none}
use Rattle.walk_engine.proofs.walk_parts.walk_line.WalkLine.new.Goals as goal

pub returns-clause-has : goal.returns-clause-has
returns-clause-has c = has-none _ _ _ _ _ _
    (subst (λ windows. DelayStands c.in_ok-new.field-0 (opened c.args.delay windows c.args.total)) c.in-Ok.ensures.value
    c.in_ok-new.ensures)
