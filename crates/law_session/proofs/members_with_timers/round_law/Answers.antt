-- Out and back, in packets.
use Rattle.law_model.specs.Common.{cells_before}
use Rattle.law_session.proofs.ReturnCellAndLineWordLaws.{session-law}
use Rattle.law_session.proofs.HeldLineAndStatusRoundLaws.{never-used, round-out, round-back, round-used}
use Rattle.law_session.proofs.members_with_timers.round_law.Goals as goal

pub returns-clause-out : goal.returns-clause-out
returns-clause-out c = round-out

pub returns-clause-back : goal.returns-clause-back
returns-clause-back c = round-back

pub returns-clause-used : goal.returns-clause-used
returns-clause-used c = round-used

pub returns-clause-never : goal.returns-clause-never
returns-clause-never c = λ scenario n line last j lag.
    never-used scenario (cells_before scenario n) (session-law scenario n lag) lag line last j
