-- Some list of events led here.
use Rattle.std.proofs.Common.{subst}
use Rattle.law_pair.specs.Common.{IsPair, IsPairWalked}
use Rattle.pair_engine.specs.PairAfterEvent.{Paired}
use Rattle.pair_engine.proofs.both_ways.Pair.is_over.Goals as goal

pub returns-then-taken-self-clause-fits : goal.returns-then-taken-self-clause-fits
returns-then-taken-self-clause-fits c =
    subst (λ (p : Paired). IsPair p.there p.back) c.self.view_is c.self.invariant.pair

pub returns-else-taken-self-clause-fits : goal.returns-else-taken-self-clause-fits
returns-else-taken-self-clause-fits c =
    subst (λ (p : Paired). IsPair p.there p.back) c.self.view_is c.self.invariant.pair

pub returns-then-taken-self-clause-walked : goal.returns-then-taken-self-clause-walked
returns-then-taken-self-clause-walked c =
    subst (λ (p : Paired). IsPairWalked p.there p.back p.counts) c.self.view_is c.self.invariant.walked

pub returns-else-taken-self-clause-walked : goal.returns-else-taken-self-clause-walked
returns-else-taken-self-clause-walked c =
    subst (λ (p : Paired). IsPairWalked p.there p.back p.counts) c.self.view_is c.self.invariant.walked
