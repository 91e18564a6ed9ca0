-- Some digits more.
use Rattle.std.proofs.Common.{◌≤◌, ◌-◌, ◌∙◌, ◌++◌, take, drop, sym, ap, subst, arith, append_assoc}
use Rattle.hex.specs.Hex.{encode_lower}
use Rattle.text_got.specs.TextSoFar.{HasText}
use Rattle.text_got.proofs.ToldTextGrowthLaws.{digits-none, digits-then}
use Rattle.text_got.proofs.got_text.GotLines.hex.Goals as goal

pub loop-at-init : goal.loop-at-init
loop-at-init g c = record {
  within = omega arith;
  grows = λ start before has. subst (HasText g.K.ByteSink.written g.K.ByteSink.faults c.args.self.now start)
      (digits-none before) has;
}

pub loop-at-preserved : goal.loop-at-preserved
loop-at-preserved g c =
    let octets = c.args.octets.now in
    let at = c.loop-at.at in
    let end = c.min-end.result in
    let low : at ≤ end = omega (arith, c.min-end.ensures, c.loop-at-test.true) in
    record {
      within = omega (arith, c.min-end.ensures);
      grows =
          λ start before has.
          subst (HasText g.K.ByteSink.written g.K.ByteSink.faults c.digits.new.self start)
          (append_assoc before (encode_lower (take at octets)) (encode_lower (take (end - at) (drop at octets)))
          ∙ ap (λ l. before ++ l) (sym (digits-then octets at end low)))
          (c.digits.ensures start (before ++ encode_lower (take at octets))
          (c.loop-at.invariant.grows start before has));
    }
