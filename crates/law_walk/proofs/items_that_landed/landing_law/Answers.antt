-- What has landed.
use Rattle.std.proofs.Common.{arith}
use Rattle.law_walk.proofs.LandedItemRefusalAndTotalLaws.{frame-dues, command-dues, frame-waits, command-waits}
use Rattle.law_walk.proofs.LandedItemRefusalAndTotalLaws.{frames-landed, orders-landed, offer-at, order-at}
use Rattle.law_walk.proofs.items_that_landed.landing_law.Goals as goal

pub returns-clause-frame_dues : goal.returns-clause-frame_dues
returns-clause-frame_dues c = frame-dues

pub returns-clause-command_dues : goal.returns-clause-command_dues
returns-clause-command_dues c = command-dues

pub returns-clause-frame_waits : goal.returns-clause-frame_waits
returns-clause-frame_waits c leg s offer walked there =
    frame-waits leg s s.frames offer walked (omega arith) there

pub returns-clause-command_waits : goal.returns-clause-command_waits
returns-clause-command_waits c leg s order walked there =
    command-waits leg s s.commands order walked (omega arith) there

pub returns-clause-frames : goal.returns-clause-frames
returns-clause-frames c = frames-landed

pub returns-clause-orders : goal.returns-clause-orders
returns-clause-orders c = orders-landed

pub returns-clause-offer : goal.returns-clause-offer
returns-clause-offer c = offer-at

pub returns-clause-order : goal.returns-clause-order
returns-clause-order c = order-at
