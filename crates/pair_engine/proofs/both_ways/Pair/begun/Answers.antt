-- Nothing has moved.
use Rattle.pair_engine.proofs.PairEventAndRoundLaws.{begun-counts, begun-pair}
use Rattle.pair_engine.proofs.both_ways.Pair.begun.Goals as goal

pub invariant_of-result : goal.invariant_of-result
invariant_of-result c = begun-pair c.args.there c.args.back c.requires.pair c.requires.there c.requires.back

pub returns-clause-counts : goal.returns-clause-counts
returns-clause-counts c =
    begun-counts c.args.there c.args.back c.requires.pair c.requires.there c.requires.back
