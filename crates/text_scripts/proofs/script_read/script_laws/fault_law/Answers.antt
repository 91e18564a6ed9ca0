-- Both directions of each law.
use Rattle.text_scripts.proofs.ScriptLineAndFirstFaultLaws.{told_line, said_script}
use Rattle.text_scripts.proofs.script_read.script_laws.fault_law.Goals as goal

pub returns-clause-line : goal.returns-clause-line
returns-clause-line c = told_line

pub returns-clause-script : goal.returns-clause-script
returns-clause-script c = said_script
