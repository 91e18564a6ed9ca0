-- What was accepted leads to the same tables and streams.
use Rattle.law_session.proofs.ClientStreamAndReplayLaws.{replayed-frame}
use Rattle.terminal_source.proofs.source_core.source_laws.accepted_law.Goals as goal

pub returns : goal.returns
returns c scenario cells t u low = replayed-frame scenario cells t u low
