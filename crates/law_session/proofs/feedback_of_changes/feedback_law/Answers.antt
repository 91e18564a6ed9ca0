-- What a return packet tells of.
use Rattle.law_model.specs.Common.{cells_before}
use Rattle.law_session.proofs.ReturnCellAndLineWordLaws.{session-law, session-kept, feedback, same_lines, one_count}
use Rattle.law_session.proofs.FreshStatusLaws.{acts_on}
use Rattle.law_session.proofs.feedback_of_changes.feedback_law.Goals as goal

pub returns-clause-whole_count : goal.returns-clause-whole_count
returns-clause-whole_count c = λ scenario n j k told takes.
    feedback scenario (cells_before scenario n) (session-law scenario n takes.lag) takes.lag j k takes.later told
    takes.cell

pub returns-clause-same_lines : goal.returns-clause-same_lines
returns-clause-same_lines c = λ scenario n j k told takes tells.
    same_lines scenario (cells_before scenario n) takes.lag j k takes.later tells

pub returns-clause-statuses : goal.returns-clause-statuses
returns-clause-statuses c = λ scenario n j sq ok lag kept.
    acts_on scenario (cells_before scenario n) (session-law scenario n lag)
    (λ k told. session-kept scenario n k told lag) lag j sq ok kept

pub returns-clause-one_count : goal.returns-clause-one_count
returns-clause-one_count c = λ scenario n from k lag low heard.
    one_count scenario (cells_before scenario n) (session-law scenario n lag) lag from k low heard
