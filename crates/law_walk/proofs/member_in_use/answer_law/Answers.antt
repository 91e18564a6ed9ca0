-- What a return packet answers.
use Rattle.std.proofs.Common.{◌<◌, arith}
use Rattle.law_model.specs.Common.{Scenario, scenario_by, packets, session_cells}
use Rattle.law_session.proofs.ReturnCellAndLineWordLaws.{session-law, session-kept, feedback, same_lines}
use Rattle.law_session.proofs.FreshStatusLaws.{acts_on}
use Rattle.law_walk.proofs.member_in_use.answer_law.Goals as goal

pub returns-clause-whole_count : goal.returns-clause-whole_count
returns-clause-whole_count c leg j k told takes =
    let scenario : Scenario = scenario_by leg in
    feedback scenario (session_cells scenario) (session-law scenario (packets scenario) takes.lag) takes.lag j k
    takes.later told takes.cell

pub returns-clause-same_lines : goal.returns-clause-same_lines
returns-clause-same_lines c leg j k told takes tells =
    let scenario : Scenario = scenario_by leg in
    same_lines scenario (session_cells scenario) takes.lag j k takes.later tells

pub returns-clause-statuses : goal.returns-clause-statuses
returns-clause-statuses c leg j sq ok can kept =
    let scenario : Scenario = scenario_by leg in
    let fits_lag = can.lag in
    let lag : 0 < scenario.lag = omega arith in
    acts_on scenario (session_cells scenario) (session-law scenario (packets scenario) lag)
    (λ k told. session-kept scenario (packets scenario) k told lag) lag j sq ok kept
