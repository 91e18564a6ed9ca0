-- By computation.
use Rattle.pair_live.proofs.WorkedPairTextLaws.{opening_worked, order_worked, scripts_worked, words_worked}
use Rattle.pair_live.proofs.pair_text_laws.pair_text_worked_law.Goals as goal

pub returns-clause-words : goal.returns-clause-words
returns-clause-words c = words_worked

pub returns-clause-order : goal.returns-clause-order
returns-clause-order c = order_worked

pub returns-clause-opening : goal.returns-clause-opening
returns-clause-opening c = opening_worked

pub returns-clause-scripts : goal.returns-clause-scripts
returns-clause-scripts c = scripts_worked
