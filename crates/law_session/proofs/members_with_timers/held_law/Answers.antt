-- A member that is held.
use Rattle.law_model.specs.Common.{cells_before}
use Rattle.law_session.proofs.ReturnCellAndLineWordLaws.{session-law, word-here}
use Rattle.law_session.proofs.FreshStatusLaws.{out-why, back-why}
use Rattle.law_session.proofs.HeldLineAndStatusRoundLaws.{held-used}
use Rattle.law_session.proofs.members_with_timers.held_law.Goals as goal

pub returns-clause-word : goal.returns-clause-word
returns-clause-word c = word-here

pub returns-clause-out : goal.returns-clause-out
returns-clause-out c = λ scenario n line j lag.
    out-why scenario (cells_before scenario n) (session-law scenario n lag) lag line j

pub returns-clause-back : goal.returns-clause-back
returns-clause-back c = λ scenario n line j lag.
    back-why scenario (cells_before scenario n) (session-law scenario n lag) lag line j

pub returns-clause-held : goal.returns-clause-held
returns-clause-held c = λ scenario n line r last j lag.
    held-used scenario (cells_before scenario n) (session-law scenario n lag) lag line r last j
