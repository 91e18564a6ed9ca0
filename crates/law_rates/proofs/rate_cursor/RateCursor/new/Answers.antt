-- The first draws, before the first frame.
use Rattle.std.proofs.Common.{ap, sym, ◌∙◌}
use Rattle.law_rates.specs.Rates.{state_of}
use Rattle.law_rates.proofs.RateFrameLaws.{first_state}
use Rattle.law_rates.proofs.RateCountLaws.{from_first}
use Rattle.law_rates.proofs.rate_cursor.RateCursor.new.Goals as goal

pub invariant_of-result : goal.invariant_of-result
invariant_of-result c = record {
  fits = c.requires;
  at = c.first.ensures.place;
  state = c.new.ensures ∙ sym (ap (state_of c.args.rate.now) c.first.ensures.number ∙ first_state c.args.rate.now);
}

pub returns : goal.returns
returns c = from_first c.args.rate.now c.first.result.number c.first.ensures.number
