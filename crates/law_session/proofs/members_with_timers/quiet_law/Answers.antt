-- How often a member goes out of use.
use Rattle.std.proofs.Common.{arith}
use Rattle.law_model.specs.Common.{cells_before, packets, session_cells}
use Rattle.law_session.proofs.ReturnCellAndLineWordLaws.{session-law}
use Rattle.law_session.proofs.LineFallCountLaws.{goes-out, times-few, times-session}
use Rattle.law_session.proofs.members_with_timers.quiet_law.Goals as goal

pub returns-clause-step : goal.returns-clause-step
returns-clause-step c = λ scenario n line j. goes-out scenario (cells_before scenario n) line j

pub returns-clause-times : goal.returns-clause-times
returns-clause-times c = λ scenario n line j lag.
    times-few scenario (cells_before scenario n) (session-law scenario n lag) lag line j j (omega arith)

pub returns-clause-session : goal.returns-clause-session
returns-clause-session c = λ scenario line lag.
    times-session scenario (session_cells scenario) (session-law scenario (packets scenario) lag) lag line
