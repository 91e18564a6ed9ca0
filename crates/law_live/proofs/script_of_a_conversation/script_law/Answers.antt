-- By the rounds of a script beside those of the conversation.
use Rattle.law_live.proofs.AgreeingLegConversationLaws.{script-counts, script-landed, script-text}
use Rattle.law_live.proofs.script_of_a_conversation.script_law.Goals as goal

pub returns-clause-counts : goal.returns-clause-counts
returns-clause-counts c = script-counts

pub returns-clause-landed : goal.returns-clause-landed
returns-clause-landed c = script-landed

pub returns-clause-text : goal.returns-clause-text
returns-clause-text c = script-text
