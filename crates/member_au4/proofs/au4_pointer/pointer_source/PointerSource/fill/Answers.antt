-- What is filled first, and then what is filled in the loop's next turn.
use Rattle.std.proofs.Common.{take, refl, ◌∙◌, subst, arith, take_all}
use Rattle.law_model.proofs.ListLaws.{take-written}
use Rattle.member_au4.specs.au4_pointer.Source.{Asks}
use Rattle.member_au4.proofs.SourceSendSteps.{asks-none, asks-more}
use Rattle.member_au4.proofs.au4_pointer.pointer_source.PointerSource.fill.Goals as goal

pub loop-filled-init : goal.loop-filled-init
loop-filled-init g c = record {
  within = omega arith;
  value = refl;
  wait = refl;
  asks = asks-none (λ f. g.V.VcFeed.stands_for f) c.args.feed.now c.args.self.now.rest;
}

pub loop-filled-preserved : goal.loop-filled-preserved
loop-filled-preserved g c =
    let at = c.loop-filled.filled in
    let n = c.fill_some-filled.result in
    let piece = c.loop-filled.piece in
    let part = c.fill_some-filled.new.piece in
    let inv = c.loop-filled.invariant in
    record {
      within = omega (arith, c.fill_some-filled.ensures.within);
      value = c.fill_some-filled.ensures.value ∙ inv.value;
      wait = c.fill_some-filled.ensures.wait ∙ inv.wait;
      asks = rw (take-written at n piece part _ inv.within (omega (
        arith,
        c.fill_some-filled.ensures.within,
        c.fill_some-filled.auto.piece,
      )))
          (asks-more (λ f. g.V.VcFeed.stands_for f) c.args.feed.now c.loop-filled.feed c.fill_some-filled.new.feed
          c.args.self.now.rest c.loop-filled.self.rest c.fill_some-filled.new.self.rest
          (take at piece) (take n part) inv.asks c.fill_some-filled.ensures.asks);
    }

pub returns-clause-asks : goal.returns-clause-asks
returns-clause-asks g c =
    let piece = c.loop-filled.piece in
    subst (λ l. Asks
    (λ f. g.V.VcFeed.stands_for f) c.args.feed.now c.loop-filled.feed c.args.self.now.rest l
    c.loop-filled.self.rest)
    (take_all c.loop-filled.filled piece (omega (arith, c.loop-filled-test.false))) c.loop-filled.invariant.asks
