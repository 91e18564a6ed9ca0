-- Some octets, and then those of the loop's next turn.
use Rattle.std.proofs.Common.{◌-◌, length, take, drop, refl, sym, ◌∙◌, subst, arith, take_all}
use Rattle.law_model.proofs.ListLaws.{take-further}
use Rattle.member_au4.specs.au4_pointer.Sink.{Gives}
use Rattle.member_au4.proofs.SinkTakeGivesSteps.{gives-none, gives-more}
use Rattle.member_au4.proofs.au4_pointer.pointer_sink.PointerSink.pass.Goals as goal

pub loop-at-init : goal.loop-at-init
loop-at-init g c = record {
  within = omega arith;
  value = refl;
  gives = gives-none (λ o. g.O.VcOut.stands_for o) c.args.out.now c.args.self.now;
}

pub loop-at-preserved : goal.loop-at-preserved
loop-at-preserved g c =
    let at = c.loop-at.at in
    let n = c.pass_some-at.result in
    let piece = c.args.piece.now in
    let rest = take (length piece - at) (drop at piece) in
    let inv = c.loop-at.invariant in
    record {
      within = omega (arith, c.pass_some-at.ensures.within);
      value = c.pass_some-at.ensures.value ∙ inv.value;
      gives = subst
          (Gives (λ o. g.O.VcOut.stands_for o) c.args.out.now c.pass_some-at.new.out c.args.self.now
          c.pass_some-at.new.self) (sym (take-further at n piece))
          (gives-more (λ o. g.O.VcOut.stands_for o) c.args.out.now c.loop-at.out c.pass_some-at.new.out
          c.args.self.now c.loop-at.self c.pass_some-at.new.self (take at piece) (take n rest)
          inv.gives c.pass_some-at.ensures.gives);
    }

pub returns-clause-gives : goal.returns-clause-gives
returns-clause-gives g c =
    let piece = c.args.piece.now in
    subst (Gives (λ o. g.O.VcOut.stands_for o) c.args.out.now c.loop-at.out c.args.self.now c.loop-at.self)
    (take_all c.loop-at.at piece (omega (arith, c.loop-at-test.false))) c.loop-at.invariant.gives
