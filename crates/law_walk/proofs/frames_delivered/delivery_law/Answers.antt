-- Without a failure.
use Rattle.std.proofs.Common.{arith}
use Rattle.law_walk.proofs.WalkPlanAndPoppedCellLaws.{sound-walks}
use Rattle.law_walk.proofs.AcceptedFrameAndDrainedWalkLaws.{counts-within, fine-carried, fine-first, fine-drained}
use Rattle.law_walk.proofs.frames_delivered.delivery_law.Goals as goal

pub returns-clause-carried : goal.returns-clause-carried
returns-clause-carried c leg rows sound none low = fine-carried leg sound none rows low

pub returns-clause-first : goal.returns-clause-first
returns-clause-first c leg rows sound none low = fine-first leg sound none rows low

pub returns-clause-drained : goal.returns-clause-drained
returns-clause-drained c leg s sound none walked = fine-drained leg sound none s walked

pub returns-clause-walked : goal.returns-clause-walked
returns-clause-walked c leg s sound none walked =
    let (low, high) = counts-within leg s (sound-walks leg sound) walked in fine-carried leg sound none s.rows
    (omega arith)
