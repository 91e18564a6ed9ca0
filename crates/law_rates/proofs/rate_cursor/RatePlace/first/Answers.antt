-- Before the first frame there is nothing.
use Rattle.std.proofs.Common.{sym, arith, length}
use Rattle.std.proofs.Math.Nat.{zero-mod}
use Rattle.law_rates.proofs.RateFrameLaws.{before_none}
use Rattle.law_rates.proofs.rate_cursor.RatePlace.first.Goals as goal

pub returns-clause-place : goal.returns-clause-place
returns-clause-place c = record {
  within = omega arith;
  turn = sym (zero-mod (length c.args.rate.now.sizes));
  octets = sym (before_none c.args.rate.now.sizes);
}
