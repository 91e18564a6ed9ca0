-- No row was taken.
use Rattle.std.proofs.Common.{arith}
use Rattle.law_model.specs.Common.{segments_on}
use Rattle.terminal_sink.proofs.sink_core.sink_terminal.SinkCore.new.Goals as goal

pub returns-clause-stands : goal.returns-clause-stands
unfolding segments_on
returns-clause-stands c cells size = record {
  lines = size;
  receives = c.in_ok-new.ensures;
  table = c.new-2.ensures.stands;
  decided = λ t low. absurd (omega arith);
}
