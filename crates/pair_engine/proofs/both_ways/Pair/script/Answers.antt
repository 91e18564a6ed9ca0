-- Some list of events led here.
use Rattle.std.proofs.Common.{subst}
use Rattle.law_pair.specs.Common.{IsPairWalked}
use Rattle.pair_engine.specs.PairAfterEvent.{Paired}
use Rattle.pair_engine.proofs.both_ways.Pair.script.Goals as goal

pub returns-in-There-clause-walked : goal.returns-in-There-clause-walked
returns-in-There-clause-walked c =
    subst (λ (p : Paired). IsPairWalked p.there p.back p.counts) c.self.view_is c.self.invariant.walked

pub returns-in-Back-clause-walked : goal.returns-in-Back-clause-walked
returns-in-Back-clause-walked c =
    subst (λ (p : Paired). IsPairWalked p.there p.back p.counts) c.self.view_is c.self.invariant.walked
