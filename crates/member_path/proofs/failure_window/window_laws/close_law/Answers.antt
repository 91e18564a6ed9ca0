-- Of the last window what lies below the container is left.
use Rattle.member_path.proofs.FailureWindowListLaws.{closed-before, closed-whole, closed-are, closed-slip, closed-last}
use Rattle.member_path.proofs.FailureWindowListLaws.{closed-count, closed-append}
use Rattle.member_path.proofs.failure_window.window_laws.close_law.Goals as goal

pub returns-clause-before : goal.returns-clause-before
returns-clause-before c = closed-before

pub returns-clause-whole : goal.returns-clause-whole
returns-clause-whole c = closed-whole

pub returns-clause-apart : goal.returns-clause-apart
returns-clause-apart c = closed-are

pub returns-clause-slip : goal.returns-clause-slip
returns-clause-slip c = closed-slip

pub returns-clause-last : goal.returns-clause-last
returns-clause-last c = closed-last

pub returns-clause-count : goal.returns-clause-count
returns-clause-count c = closed-count

pub returns-clause-opened : goal.returns-clause-opened
returns-clause-opened c windows first total end = closed-append windows (record { first = first; end = total; slip = 0 }) end
