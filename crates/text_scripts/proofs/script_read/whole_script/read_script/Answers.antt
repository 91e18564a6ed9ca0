-- The text is one piece, before which nothing stands.
use Rattle.std.proofs.Common.{[]}
use Rattle.text_scripts.proofs.script_read.whole_script.read_script.Goals as goal

pub returns-clause-script : goal.returns-clause-script
returns-clause-script c = c.finish.ensures.script [] c.new.ensures.stands

pub returns-clause-fault : goal.returns-clause-fault
returns-clause-fault c = c.finish.ensures.fault [] c.new.ensures.stands
