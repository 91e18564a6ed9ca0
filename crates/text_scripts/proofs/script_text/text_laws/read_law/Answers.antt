-- Line by line; and a script that was read meets what is asked.
use Rattle.text_scripts.proofs.ScriptLineAndFirstFaultLaws.{valid_script, few_lost_text}
use Rattle.text_scripts.proofs.ScriptReadBackLaws.{reads_back}
use Rattle.text_scripts.proofs.script_text.text_laws.read_law.Goals as goal

pub returns-clause-read : goal.returns-clause-read
returns-clause-read c = reads_back

pub returns-clause-again : goal.returns-clause-again
returns-clause-again c text script said none =
    reads_back script (valid_script text script said) (few_lost_text text script said) none
