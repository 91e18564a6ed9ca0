-- The frames of a session.
use Rattle.terminal_sink.proofs.ReceivedRowAndGivenFrameLaws.{session-frames, session-last, session-rows}
use Rattle.terminal_sink.proofs.sink_core.sink_laws.session_sink_law.Goals as goal

pub returns-clause-frames : goal.returns-clause-frames
returns-clause-frames c = session-frames

pub returns-clause-last : goal.returns-clause-last
returns-clause-last c = session-last

pub returns-clause-rows : goal.returns-clause-rows
returns-clause-rows c = session-rows
