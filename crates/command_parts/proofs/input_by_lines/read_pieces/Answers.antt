-- A piece more was read, and the end.
use Rattle.std.proofs.Common.{◌-◌, ◌++◌, ◌∙◌, arith, rules}
use Rattle.std.proofs.lemmas.Result.{IfOk-weaker, IfErr-weaker}
use Rattle.command_parts.proofs.SourceTextAndStopLaws.{reading_none, reading_more, reading_room, taken_all, stops_read}
use Rattle.command_parts.proofs.SourceTextAndStopLaws.{stops_told}
use Rattle.command_parts.proofs.input_by_lines.read_pieces.Goals as goal

pub loop-n-init : goal.loop-n-init
loop-n-init g c = reading_none _ _ _ c.args.source.now _ _ c.at_start-reader.ensures c.new-rest.ensures.items

pub read_more-requires : goal.read_more-requires
read_more-requires g c =
    let it = c.in-Ok.ensures.took in
    reading_room _ _ _ _ _ _ _ _
    (reading_more _ _ _ _ _ _ _ _ it.0 _ _ _ (c.loop-n.room - c.in-Ok.n)
    c.loop-n.invariant it.2 c.in-Ok.ensures.quiet it.1 (omega (arith, c.in-Ok.ensures.within)) it.3)

pub loop-n-preserved : goal.loop-n-preserved
loop-n-preserved g c =
    let it = c.in-Ok.ensures.took in
    let now = reading_more _ _ _ _ _ _ _ _ it.0 _ _ _ (c.loop-n.room - c.in-Ok.n)
    c.loop-n.invariant it.2 c.in-Ok.ensures.quiet it.1 (omega (arith, c.in-Ok.ensures.within)) it.3 in
    record {
      all = now.all;
      taken = now.taken;
      follows = c.in-Ok-read_more.ensures.follows now.all now.follows;
    }

pub returns-in-Err-read_more-clause-stopped : goal.returns-in-Err-read_more-clause-stopped
returns-in-Err-read_more-clause-stopped g c writes =
    let it = c.in-Ok.ensures.took in
    let now = reading_more _ _ _ _ _ _ _ _ it.0 _ _ _ (c.loop-n.room - c.in-Ok.n)
    c.loop-n.invariant it.2 c.in-Ok.ensures.quiet it.1 (omega (arith, c.in-Ok.ensures.within)) it.3 in
    c.stop_after.ensures c.args.source.now now.all _ now.taken
    (λ more. stops_told writes (g.R.PieceReader.says (now.all ++ more)) c.in-Err-read_more.stop
    (c.in-Err-read_more.ensures.stopped now.all now.follows more))

pub read_end-requires : goal.read_end-requires
read_end-requires g c =
    let it = c.in-Ok.ensures.took in
    reading_room _ _ _ _ _ _ _ _
    (reading_more _ _ _ _ _ _ _ _ it.0 _ _ _ (c.loop-n.room - c.in-Ok.n)
    c.loop-n.invariant it.2 c.in-Ok.ensures.quiet it.1 (omega (arith, c.in-Ok.ensures.within)) (c.as_slice.ensures.value ∙ it.3))

pub returns-then-n-eq0 : goal.returns-then-n-eq0
returns-then-n-eq0 g c =
    let it = c.in-Ok.ensures.took in
    let now = reading_more _ _ _ _ _ _ _ _ it.0 _ _ _ (c.loop-n.room - c.in-Ok.n)
    c.loop-n.invariant it.2 c.in-Ok.ensures.quiet it.1 (omega (arith, c.in-Ok.ensures.within)) (c.as_slice.ensures.value ∙ it.3) in
    let read = taken_all _ _ _ _ now.all _ now.taken (c.in-Ok.ensures.end c.if-n-eq0.true) in
    record {
      said = IfOk-weaker c.read_end.result _ _ (λ said says. (now.all, read, says))
          (c.read_end.ensures.said now.all now.follows);
      fits = search rules;
      stopped = λ writes. IfErr-weaker c.read_end.result _ _
          (λ stop stops. stops_read _ _ now.all stop read (stops_told writes (g.R.PieceReader.says now.all) stop stops))
          (c.read_end.ensures.stopped now.all now.follows);
    }
