-- Numbers of which one has more than four bits are no packet.
use Rattle.std.proofs.Common.{sym, ◌∙◌}
use Rattle.terminal_source.proofs.SourceTableCourseLaws.{packet_read-none}
use Rattle.terminal_source.proofs.lcas_source.source_table.packet_read.Goals as goal

pub returns-else-are_nibbles : goal.returns-else-are_nibbles
returns-else-are_nibbles c = sym
    (packet_read-none c.args.nibbles.now (sym c.are_nibbles.ensures.value ∙ c.if-are_nibbles.false))
