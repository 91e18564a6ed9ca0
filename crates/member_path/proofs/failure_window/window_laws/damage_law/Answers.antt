-- Each clause is a law of lists of windows.
use Rattle.member_path.proofs.FailureWindowListLaws.{whole-undamaged, undamaged-whole, contained-fails, contained-vanishes}
use Rattle.member_path.proofs.failure_window.window_laws.damage_law.Goals as goal

pub returns-clause-whole : goal.returns-clause-whole
returns-clause-whole c windows t = (whole-undamaged windows t, undamaged-whole windows t)

pub returns-clause-fails : goal.returns-clause-fails
returns-clause-fails c = contained-fails

pub returns-clause-vanishes : goal.returns-clause-vanishes
returns-clause-vanishes c = contained-vanishes
