-- The frames of the rows that were taken.
use Rattle.law_walk.proofs.DeliveredFrameCountLaws.{delivered-few, frames-received, frames-grow}
use Rattle.law_walk.proofs.frames_delivered.frames_law.Goals as goal

pub returns-clause-received : goal.returns-clause-received
returns-clause-received c leg s n receive can walked is low = frames-received leg s can walked receive is n low

pub returns-clause-grows : goal.returns-clause-grows
returns-clause-grows c = frames-grow

pub returns-clause-few : goal.returns-clause-few
returns-clause-few c = delivered-few
