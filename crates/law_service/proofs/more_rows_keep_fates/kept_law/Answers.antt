-- More rows take nothing back.
use Rattle.law_service.proofs.FrameFateUnderMoreRowsLaws.{frame-keeps, number-keeps, session-keeps, walk-keeps}
use Rattle.law_service.proofs.more_rows_keep_fates.kept_law.Goals as goal

pub returns : goal.returns
returns c = record { frame = frame-keeps; number = number-keeps; session = session-keeps; walk = walk-keeps }
