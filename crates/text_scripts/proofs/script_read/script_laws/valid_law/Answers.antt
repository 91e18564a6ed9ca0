-- By the lines of the text.
use Rattle.text_scripts.proofs.ScriptLineAndFirstFaultLaws.{valid_script, few_lost_text}
use Rattle.text_scripts.proofs.script_read.script_laws.valid_law.Goals as goal

pub returns-clause-valid : goal.returns-clause-valid
returns-clause-valid c = valid_script

pub returns-clause-few_lost : goal.returns-clause-few_lost
returns-clause-few_lost c = few_lost_text
