-- Eight octets more are descrambled.
use Rattle.std.proofs.Common.{◌++◌, ◌*◌, take, subst, arith}
use Rattle.law_model.specs.Common.{descrambled_octets}
use Rattle.law_model.proofs.ScrambledBitAndAreaLaws.{length-descrambled_octets}
use Rattle.gfp_scramble.specs.Descrambler.{DescramblerStands, unknown}
use Rattle.gfp_scramble.proofs.InPlaceAreaSteps.{back_eight, given_eight, front_eight, front_all}
use Rattle.gfp_scramble.proofs.descrambler.Descrambler.words.Goals as goal

pub loop-i-preserved : goal.loop-i-preserved
loop-i-preserved c =
    let i = c.loop-i.i in
    let was = c.args.area.now in
    let area = c.loop-i.area in
    let piece = c.eight.new.area in
    let fits = c.loop-i-test.true in
    let size = c.loop-i.auto.area in
    let so_far = c.loop-i.invariant in
    let same = c.eight.auto.area in
    record {
      stands = λ settled octets stands. subst (DescramblerStands c.eight.new.self settled)
          (given_eight i was area piece fits size so_far.back same octets)
          (c.eight.ensures.stands settled (octets ++ take (8 * i) was) (so_far.stands settled octets stands));
      front = λ settled octets stands. front_eight i was area piece fits size so_far.back same
          (unknown settled) descrambled_octets length-descrambled_octets octets (so_far.front settled octets stands)
          (c.eight.ensures.answer settled (octets ++ take (8 * i) was) (so_far.stands settled octets stands));
      back = back_eight i was area piece fits size so_far.back same;
    }

pub returns-clause-answer : goal.returns-clause-answer
returns-clause-answer c settled octets stands =
    front_all (unknown settled) descrambled_octets octets c.args.area.now c.loop-i.area (8 * c.loop-i.i)
    (omega (arith, c.requires, c.loop-i-test.false)) c.loop-i.auto.area (c.loop-i.invariant.front settled octets stands)
