-- Eight octets more are scrambled.
use Rattle.std.proofs.Common.{◌++◌, ◌*◌, take, subst}
use Rattle.law_model.specs.Common.{scrambled_octets}
use Rattle.law_model.proofs.ScrambledBitAndAreaLaws.{length-scrambled_octets}
use Rattle.gfp_scramble.specs.Scrambler.{ScramblerStands}
use Rattle.gfp_scramble.proofs.InPlaceAreaSteps.{back_eight, given_eight, front_eight}
use Rattle.gfp_scramble.proofs.scrambler.Scrambler.words.Goals as goal

pub loop-i-preserved : goal.loop-i-preserved
loop-i-preserved c =
    let i = c.loop-i.i in
    let was = c.args.area.now in
    let area = c.loop-i.area in
    let piece = c.eight.new.area in
    let fits = c.loop-i-test.true in
    let size = c.loop-i.auto.area in
    let so_far = c.loop-i.invariant in
    let same = c.eight.auto.area in
    record {
      stands = λ octets stands. subst (ScramblerStands c.eight.new.self)
          (given_eight i was area piece fits size so_far.back same octets)
          (c.eight.ensures.stands (octets ++ take (8 * i) was) (so_far.stands octets stands));
      front = λ octets stands. front_eight i was area piece fits size so_far.back same 0 scrambled_octets
          length-scrambled_octets octets (so_far.front octets stands)
          (c.eight.ensures.answer (octets ++ take (8 * i) was) (so_far.stands octets stands));
      back = back_eight i was area piece fits size so_far.back same;
    }
