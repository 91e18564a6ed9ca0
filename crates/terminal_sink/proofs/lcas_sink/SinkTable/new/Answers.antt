-- No row was taken, and each line is idle.
use Rattle.std.proofs.Common.{refl, arith}
use Rattle.terminal_sink.proofs.lcas_sink.SinkTable.new.Goals as goal

pub returns-clause-stands : goal.returns-clause-stands
returns-clause-stands c = record {
  taken = refl;
  ack = refl;
  states = c.all_idle.ensures;
  watches = λ line low. c.all_unread.ensures line (omega arith);
  carriers = refl;
}
