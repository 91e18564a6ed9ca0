-- By what is kept of the lines one after another.
use Rattle.text_live.proofs.LiveScriptSayingsLaws.{less_fine, leg_live, lines_agree, more_fine, said_next, sayings_next}
use Rattle.text_live.proofs.LiveScriptSayingsLaws.{script_live}
use Rattle.text_live.proofs.live_laws.said_law.Goals as goal

pub returns-clause-agrees : goal.returns-clause-agrees
returns-clause-agrees c = lines_agree

pub returns-clause-more : goal.returns-clause-more
returns-clause-more c = more_fine

pub returns-clause-less : goal.returns-clause-less
returns-clause-less c = less_fine

pub returns-clause-next : goal.returns-clause-next
returns-clause-next c = said_next

pub returns-clause-sayings : goal.returns-clause-sayings
returns-clause-sayings c = sayings_next

pub returns-clause-leg : goal.returns-clause-leg
returns-clause-leg c = leg_live

pub returns-clause-script : goal.returns-clause-script
returns-clause-script c = script_live
