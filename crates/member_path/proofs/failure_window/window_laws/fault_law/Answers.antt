-- Both ways by induction on the windows.
use Rattle.member_path.proofs.FailureWindowListLaws.{none-are, are-none}
use Rattle.member_path.proofs.failure_window.window_laws.fault_law.Goals as goal

pub returns : goal.returns
returns c windows = (none-are 0 0 windows, are-none 0 0 windows)
