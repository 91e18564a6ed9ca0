-- A return packet is told by the rows up to its own, which more rows leave as they are.
use Rattle.terminal_sink.proofs.SinkStateAndMemberStatusLaws.{return-prefix}
use Rattle.terminal_sink.proofs.lcas_sink.rows_law.Goals as goal

pub returns : goal.returns
returns c = return-prefix
