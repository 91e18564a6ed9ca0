-- Each clause is a law of lists of windows.
use Rattle.member_path.proofs.FailureWindowListLaws.{slip-most, slip-reached}
use Rattle.member_path.proofs.failure_window.window_laws.slip_law.Goals as goal

pub returns-clause-most : goal.returns-clause-most
returns-clause-most c = slip-most 0 0

pub returns-clause-reached : goal.returns-clause-reached
returns-clause-reached c windows =
    let found = slip-reached windows in (found.before, found.run, found.later, found.are, found.near, found.sum)
