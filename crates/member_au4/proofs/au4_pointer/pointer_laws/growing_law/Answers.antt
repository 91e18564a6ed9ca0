-- What a frame adds is behind what was given.
use Rattle.member_au4.proofs.SinkTakeGivesSteps.{grows}
use Rattle.member_au4.proofs.au4_pointer.pointer_laws.growing_law.Goals as goal

pub returns : goal.returns
returns c = grows
