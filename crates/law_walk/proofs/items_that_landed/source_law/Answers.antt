-- What the source was told.
use Rattle.law_walk.proofs.LandedItemRefusalAndTotalLaws.{told-tables, told-streams, told-frames, meets-stream}
use Rattle.law_walk.proofs.LandedItemRefusalAndTotalLaws.{meets-source}
use Rattle.law_walk.proofs.items_that_landed.source_law.Goals as goal

pub returns-clause-tables : goal.returns-clause-tables
returns-clause-tables c leg s j can walked low = told-tables leg s can walked j low

pub returns-clause-streams : goal.returns-clause-streams
returns-clause-streams c leg s t can walked low = told-streams leg s can walked t low

pub returns-clause-frames : goal.returns-clause-frames
returns-clause-frames c leg s t can walked low = told-frames leg s can walked t low

pub returns-clause-frame : goal.returns-clause-frame
returns-clause-frame c leg s item offer can walked at due = meets-stream leg s can walked item offer at due

pub returns-clause-command : goal.returns-clause-command
returns-clause-command c leg s item order can walked at due = meets-source leg s can walked item order at due
