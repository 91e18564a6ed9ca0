-- A dialogue is a conversation, and what it has heard are lines.
use Rattle.command_parts.proofs.TalkCourseOverOctetsLaws.{dialogue_closed, dialogue_course, dialogue_talks}
use Rattle.command_parts.proofs.dialogue_laws.dialogue_law.Goals as goal

pub returns-clause-talk : goal.returns-clause-talk
returns-clause-talk c = dialogue_talks

pub returns-clause-heard : goal.returns-clause-heard
returns-clause-heard c = λ dialogue octets none. (dialogue_course dialogue octets).all none

pub returns-clause-first : goal.returns-clause-first
returns-clause-first c = λ dialogue octets. (dialogue_course dialogue octets).first

pub returns-clause-closed : goal.returns-clause-closed
returns-clause-closed c = dialogue_closed
