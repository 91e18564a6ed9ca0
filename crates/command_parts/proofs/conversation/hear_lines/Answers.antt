-- One line more, and why there is none.
use Rattle.std.proofs.Common.{◌<◌, length, refl, sym, inr, arith, rules}
use Rattle.command_parts.specs.Dialogue.{heard_more}
use Rattle.command_parts.proofs.ListenerLineAndSaidTextLaws.{can_reply, heard_next, line_long, line_stops, rest_long}
use Rattle.command_parts.proofs.ListenerLineAndSaidTextLaws.{shorter, suffix_more}
use Rattle.command_parts.proofs.conversation.hear_lines.Goals as goal

pub returns-then-is_long-clause-stopped : goal.returns-then-is_long-clause-stopped
returns-then-is_long-clause-stopped g c first earlier heard stands =
    let was = c.loop-line.invariant.heard first earlier heard stands in
    line_long _ _ _ _ _ _ _ _ _ _ _ was c.in-Some.line.now c.in-Some.later.now c.in-Some.ensures.some
    c.in-Some.ensures.before (sym (c.if-is_long.ensures.long was.now was.stands.listens))

pub hear-requires-clause-can : goal.hear-requires-clause-can
hear-requires-clause-can g c =
    let (first, earlier, heard, stands) = c.loop-line.invariant.somewhere in
    can_reply _ g.K.ByteSink.written g.K.ByteSink.faults c.loop-line.listener heard c.in-Some.line.now _
    stands.listens c.in-Some.ensures.before (c.if-is_long.ensures.fits refl) c.without_return.ensures

pub loop-line-preserved : goal.loop-line-preserved
loop-line-preserved g c =
    let (first, earlier, heard, stands) = c.loop-line.invariant.somewhere in
    let has = c.in-Ok.ensures.heard first earlier heard stands in
    let less = shorter c.loop-line.rest.now c.in-Some.line.now c.in-Some.later.now c.in-Some.ensures.some in
    let fits = c.if-is_long.ensures.fits refl in
    record {
      somewhere = (first, earlier, heard_more heard c.without_return.result.now has.text, has.stands);
      suffix = suffix_more c.args.octets.now c.loop-line.rest.now c.in-Some.line.now c.in-Some.later.now
          c.loop-line.invariant.suffix c.loop-line.invariant.within c.in-Some.ensures.some;
      within = omega (arith, less, c.loop-line.invariant.within);
      moves = inr (omega (arith, c.in-Ok.ensures.more, c.loop-line.invariant.rises));
      rises = omega (arith, c.in-Ok.ensures.more, c.loop-line.invariant.rises);
      few = λ low. omega (arith, c.in-Ok.ensures.more, fits.1);
      heard = λ first earlier heard stands.
          let was = c.loop-line.invariant.heard first earlier heard stands in
          heard_next _ _ _ _ _ _ _ _ _ _ _ was c.hear.new.out c.hear.new.block c.in-Some.line.now
          c.in-Some.later.now c.without_return.result.now c.hear.new.self c.in-Some.ensures.some
          c.in-Some.ensures.before (sym (c.if-is_long.ensures.long was.now was.stands.listens))
          c.without_return.ensures (c.in-Ok.ensures.heard first earlier was.now was.stands);
    }

pub returns-in-Err-clause-stopped : goal.returns-in-Err-clause-stopped
returns-in-Err-clause-stopped g c first earlier heard stands =
    let was = c.loop-line.invariant.heard first earlier heard stands in
    line_stops _ _ _ _ _ _ _ _ _ _ _ was c.hear.new.out c.hear.new.block c.in-Some.line.now
    c.in-Some.later.now c.without_return.result.now c.in-Err.stop c.in-Some.ensures.some
    c.in-Some.ensures.before (sym (c.if-is_long.ensures.long was.now was.stands.listens))
    c.without_return.ensures (c.in-Err.ensures.stopped first earlier was.now was.stands)

pub returns-then-is_long-2-clause-stopped : goal.returns-then-is_long-2-clause-stopped
returns-then-is_long-2-clause-stopped g c first earlier heard stands =
    let was = c.loop-line.invariant.heard first earlier heard stands in
    let some : 0 < length c.loop-line.rest.now = search rules in
    rest_long _ _ _ _ _ _ _ _ _ _ _ was some c.in_default.ensures.none
    (sym (c.if-is_long-2.ensures.long was.now was.stands.listens))
