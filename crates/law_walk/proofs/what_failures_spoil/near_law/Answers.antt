-- Rows that a failure of one line alone leaves whole.
use Rattle.law_walk.proofs.WholeRowDespiteFailureLaws.{near-whole, behind-whole}
use Rattle.law_walk.proofs.what_failures_spoil.near_law.Goals as goal

pub returns-clause-near : goal.returns-clause-near
returns-clause-near c leg line t sound infers late alone own = near-whole leg line t sound infers late alone own

pub returns-clause-behind : goal.returns-clause-behind
returns-clause-behind c leg line end t sound infers late alone = behind-whole leg line t sound infers late alone end
