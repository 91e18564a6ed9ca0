-- It is below the end.
use Rattle.std.proofs.Common.{arith}
use Rattle.law_rates.proofs.RateCountLaws.{due_before}
use Rattle.law_rates.proofs.rate_cursor.RatePlace.tick.Goals as goal

pub overflow_cast-result : goal.overflow_cast-result
overflow_cast-result c =
    let early = (due_before c.args.rate.now c.args.self.now.number c.requires.rate).0 c.requires.more in
    omega (arith, early, c.wide_tick.ensures, c.requires.rate.end)
