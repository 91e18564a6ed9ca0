-- No packet has come, and so the line has said nothing.
use Rattle.std.proofs.Common.{[], refl}
use Rattle.law_model.specs.Common.{has_packet}
use Rattle.terminal_sink.proofs.member_watch.MemberWatch.new.Goals as goal

pub returns : goal.returns
returns c line = record { timers = c.new.ensures (has_packet [] line); said = refl }
