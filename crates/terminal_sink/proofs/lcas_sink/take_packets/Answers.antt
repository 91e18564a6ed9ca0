-- One line more has its next state.
use Rattle.std.proofs.Common.{◌<◌, length, refl, arith}
use Rattle.terminal_sink.proofs.SinkStateAndMemberStatusLaws.{upto-more}
use Rattle.terminal_sink.proofs.lcas_sink.take_packets.Goals as goal

pub loop-line-preserved : goal.loop-line-preserved
loop-line-preserved c =
    let row = c.loop-line-test.true in
    let inside : c.loop-line.line < length c.loop-line.states = omega arith in
    upto-more c.loop-line.states c.args.states.now c.args.row.now c.loop-line.line c.state_next.result _ inside refl
    c.state_next.ensures c.loop-line.invariant
