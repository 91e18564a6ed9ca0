-- By the lines one after another.
use Rattle.text_live.proofs.LiveScriptSayingsLaws.{valid_live, few_lost_live}
use Rattle.text_live.proofs.live_laws.valid_law.Goals as goal

pub returns-clause-valid : goal.returns-clause-valid
returns-clause-valid c = valid_live

pub returns-clause-few_lost : goal.returns-clause-few_lost
returns-clause-few_lost c = few_lost_live
