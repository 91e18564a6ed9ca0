-- The cells of the containers that came out are the same, one by one.
use Rattle.member_path.proofs.DelayedPathCellLaws.{cells-agree, calls-agree}
use Rattle.member_path.proofs.path_delay.delay_laws.agree_law.Goals as goal

pub returns-clause-cells : goal.returns-clause-cells
returns-clause-cells c = cells-agree

pub returns-clause-path : goal.returns-clause-path
returns-clause-path c = calls-agree
