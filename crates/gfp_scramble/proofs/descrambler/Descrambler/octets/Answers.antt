-- One octet more is descrambled.
use Rattle.std.proofs.Common.{◌++◌, take, subst, arith}
use Rattle.law_model.specs.Common.{descrambled_octets}
use Rattle.law_model.proofs.ScrambledBitAndAreaLaws.{length-descrambled_octets}
use Rattle.gfp_scramble.specs.Descrambler.{DescramblerStands, unknown}
use Rattle.gfp_scramble.proofs.InPlaceAreaSteps.{back_more, given_more, front_more, front_all}
use Rattle.gfp_scramble.proofs.descrambler.Descrambler.octets.Goals as goal

pub loop-octet-preserved : goal.loop-octet-preserved
loop-octet-preserved c =
    let i = c.loop-octet.octet-index in
    let was = c.args.area.now in
    let area = c.loop-octet.area in
    let fits = c.loop-octet-test.true in
    let size = c.loop-octet.auto.area in
    let so_far = c.loop-octet.invariant in
    record {
      stands = λ settled octets stands. subst (DescramblerStands c.byte.new.self settled)
          (given_more i was area fits size so_far.back octets)
          (c.byte.ensures.stands settled (octets ++ take i was) (so_far.stands settled octets stands));
      front = λ settled octets stands. front_more i was area fits size so_far.back
          (unknown settled) descrambled_octets length-descrambled_octets octets c.byte.result
          (so_far.front settled octets stands)
          (c.byte.ensures.answer settled (octets ++ take i was) (so_far.stands settled octets stands));
      back = back_more i was area fits size so_far.back c.byte.result;
    }

pub returns-clause-answer : goal.returns-clause-answer
returns-clause-answer c settled octets stands =
    front_all (unknown settled) descrambled_octets octets c.args.area.now c.loop-octet.area c.loop-octet.octet-index
    (omega (arith, c.loop-octet-test.false)) c.loop-octet.auto.area (c.loop-octet.invariant.front settled octets stands)
