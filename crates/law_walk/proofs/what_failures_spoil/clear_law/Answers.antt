-- Rows that a failure leaves whole.
use Rattle.law_walk.proofs.WholeRowDespiteFailureLaws.{clear-whole, row-whole, delivered-before, whole-starts}
use Rattle.law_walk.proofs.what_failures_spoil.clear_law.Goals as goal

pub returns-clause-clear : goal.returns-clause-clear
returns-clause-clear c = clear-whole

pub returns-clause-whole : goal.returns-clause-whole
returns-clause-whole c leg t some clear = row-whole leg some t clear

pub returns-clause-before : goal.returns-clause-before
returns-clause-before c = delivered-before

pub returns-clause-starts : goal.returns-clause-starts
returns-clause-starts c = whole-starts
