-- Octet by octet, and then the last line.
use Rattle.std.proofs.Common.{arith, List, ℕ, ◌+◌, take, subst}
use Rattle.std.proofs.lemmas.Result.{on_ok_weaker, on_err_weaker}
use Rattle.text_captures.specs.packet_trace.Decoder.{DecoderStands}
use Rattle.command_rooms.specs.DecodingSoFar.{HasLines}
use Rattle.command_rooms.proofs.H4TextAndPacketsLaws.{no_lines, one_h4, all_decoded, end_part, stopped_at}
use Rattle.command_rooms.proofs.commands.decode.write_packets.Goals as goal

pub loop-h4-init : goal.loop-h4-init
loop-h4-init g c = record {
  stands = c.new-decoder.ensures.stands;
  lines = no_lines _ _ c.args.out.now;
  given = c.new-decoder.ensures.given;
  bound = omega arith;
}

pub take_h4-requires : goal.take_h4-requires
take_h4-requires g c =
    let given = c.loop-h4.invariant.given in
    let inside = c.loop-h4-test.true in
    let few = c.requires in
    omega arith

pub loop-h4-preserved : goal.loop-h4-preserved
loop-h4-preserved g c =
    let more = one_h4 c.args.octets.now c.loop-h4.h4-index c.loop-h4-test.true in
    let so_far = c.loop-h4.invariant in
    let P : List ℕ → Type 0 = λ os. DecoderStands c.take_h4.new.decoder os in
    let Q : List ℕ → Type 0 = λ os. HasLines g.K.ByteSink.written g.K.ByteSink.faults os c.args.out.now
    c.take_h4.new.out (c.loop-h4.packets + c.in-Ok.n) in
    record {
      stands = subst P more (c.take_h4.ensures.stands (take c.loop-h4.h4-index c.args.octets.now) so_far.stands);
      lines = subst Q more (c.in-Ok.ensures.ok (take c.loop-h4.h4-index c.args.octets.now) _ c.loop-h4.packets
          so_far.stands so_far.lines);
      given = (let before = so_far.given in let now = c.take_h4.ensures.given in omega arith);
      bound = (let before = so_far.bound in let one = c.in-Ok.ensures.one in omega arith);
    }

pub overflow_add-packets : goal.overflow_add-packets
overflow_add-packets g c =
    let bound = c.loop-h4.invariant.bound in
    let one = c.in-Ok.ensures.one in
    let few = c.requires in
    let inside = c.loop-h4-test.true in
    omega arith

pub returns-in-Err-clause-err : goal.returns-in-Err-clause-err
returns-in-Err-clause-err g c =
    stopped_at _ _ c.args.octets.now c.loop-h4.h4-index c.args.out.now _ c.loop-h4-test.true
    (c.in-Err.ensures.err (take c.loop-h4.h4-index c.args.octets.now) _ c.loop-h4.packets c.loop-h4.invariant.stands
    c.loop-h4.invariant.lines)

pub returns-clause-ok : goal.returns-clause-ok
returns-clause-ok g c =
    on_ok_weaker c.put_all.result (all_decoded _ _ c.args.octets.now c.loop-h4.h4-index _ _ c.args.out.now _ _
    c.loop-h4-test.false c.loop-h4.invariant.lines c.end_line-end.ensures.line) c.put_all.ensures.ok

pub returns-clause-err : goal.returns-clause-err
returns-clause-err g c =
    on_err_weaker c.put_all.result (end_part _ _ c.args.octets.now c.loop-h4.h4-index _ _ c.args.out.now _ _
    c.loop-h4-test.false c.loop-h4.invariant.lines c.end_line-end.ensures.line) c.put_all.ensures.err
