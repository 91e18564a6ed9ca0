-- By the octets before the frame.
use Rattle.std.proofs.Common.{arith}
use Rattle.law_rates.proofs.RateCountLaws.{few_octets}
use Rattle.law_rates.proofs.rate_cursor.RatePlace.wide_tick.Goals as goal

pub overflow_mul-result : goal.overflow_mul-result
overflow_mul-result c =
    let few = few_octets c.args.rate.now c.args.self.now.number c.requires.rate c.requires.place.within in
    omega (arith, few, c.requires.place.octets)
