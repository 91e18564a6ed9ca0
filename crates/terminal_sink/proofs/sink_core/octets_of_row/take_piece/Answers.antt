-- The octets that are left.
use Rattle.std.proofs.Common.{◌≡◌, ◌+◌, ◌-◌, ◌++◌, length, take, drop, sym, ◌∙◌, ap, subst, arith}
use Rattle.std.proofs.lemmas.List.{length-drop, take_all}
use Rattle.law_model.proofs.ListLaws.{take-further}
use Rattle.terminal_sink.specs.sink_core.RowsInReceiver.{Grows, Gives}
use Rattle.terminal_sink.proofs.ReceivedOctetAndDealtIdleLaws.{known-grows, grows-more, gives-more}
use Rattle.terminal_sink.proofs.sink_core.octets_of_row.take_piece.Goals as goal

pub loop-at-preserved : goal.loop-at-preserved
loop-at-preserved g c =
    let at = c.loop-at.at in
    let n = c.take_some-at.result in
    let piece = c.args.piece.now in
    let was = c.args.delineator.now in
    let then' = c.loop-at.delineator in
    let now = c.take_some-at.new.delineator in
    let rest = take (length piece - at) (drop at piece) in
    let inv = c.loop-at.invariant in
    let size : length rest ≡ length piece - at =
    ap length (take_all (length piece - at) (drop at piece) (omega (arith, length-drop at piece)))
    ∙ length-drop at piece in
    let next : take (at + n) piece ≡ take at piece ++ take n rest = take-further at n piece in
    record {
      within = omega (arith, size, c.take_some-at.ensures.within, inv.within);
      known = known-grows then' now (take n rest) inv.known c.take_some-at.ensures.grows;
      grows = subst (Grows was now) (sym next)
          (grows-more was then' now (take at piece) (take n rest) inv.grows c.take_some-at.ensures.grows);
      gives = λ start.
          subst (λ l. Gives (λ o. g.F.FrameOut.stands_for o start) was l c.args.out.now c.take_some-at.new.out)
          (sym next)
          (gives-more (λ o. g.F.FrameOut.stands_for o start) was then' (take at piece)
          (take n rest) c.args.out.now c.loop-at.out c.take_some-at.new.out
          inv.grows (inv.gives start) (c.take_some-at.ensures.gives start));
    }

pub returns : goal.returns
returns g c =
    let at = c.loop-at.at in
    let piece = c.args.piece.now in
    let all : take at piece ≡ piece = take_all at piece (omega (arith, c.loop-at-test.false)) in
    record {
      grows = subst (Grows c.args.delineator.now c.loop-at.delineator) all c.loop-at.invariant.grows;
      gives = λ start. subst (λ l. Gives (λ o. g.F.FrameOut.stands_for o start) c.args.delineator.now l c.args.out.now
          c.loop-at.out) all (c.loop-at.invariant.gives start);
    }
