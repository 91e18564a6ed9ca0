-- One octet more is scrambled.
use Rattle.std.proofs.Common.{◌++◌, take, subst}
use Rattle.law_model.specs.Common.{scrambled_octets}
use Rattle.law_model.proofs.ScrambledBitAndAreaLaws.{length-scrambled_octets}
use Rattle.gfp_scramble.specs.Scrambler.{ScramblerStands}
use Rattle.gfp_scramble.proofs.InPlaceAreaSteps.{back_more, given_more, front_more}
use Rattle.gfp_scramble.proofs.scrambler.Scrambler.octets.Goals as goal

pub loop-octet-preserved : goal.loop-octet-preserved
loop-octet-preserved c =
    let i = c.loop-octet.octet-index in
    let was = c.args.area.now in
    let area = c.loop-octet.area in
    let fits = c.loop-octet-test.true in
    let size = c.loop-octet.auto.area in
    let so_far = c.loop-octet.invariant in
    record {
      stands = λ octets stands. subst (ScramblerStands c.byte.new.self) (given_more i was area fits size so_far.back octets)
          (c.byte.ensures.stands (octets ++ take i was) (so_far.stands octets stands));
      front = λ octets stands. front_more i was area fits size so_far.back 0 scrambled_octets length-scrambled_octets
          octets c.byte.result (so_far.front octets stands)
          (c.byte.ensures.answer (octets ++ take i was) (so_far.stands octets stands));
      back = back_more i was area fits size so_far.back c.byte.result;
    }
