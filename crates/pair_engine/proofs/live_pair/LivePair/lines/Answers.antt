-- The lines of a way.
use Rattle.std.proofs.Common.{length, sym, ◌∙◌, ap, subst}
use Rattle.law_pair.specs.declared.pair_events.Way.TheVariants.{There, Back}
use Rattle.pair_engine.specs.LivePairs.{IsLivePair, PairWalking, walking_on}
use Rattle.pair_engine.specs.Ways.{walking_both}
use Rattle.pair_engine.proofs.LivePairLaws.{some-on}
use Rattle.pair_engine.proofs.live_pair.LivePair.lines.Goals as goal

pub lines-requires : goal.lines-requires
lines-requires c =
    some-on (walking_both c.self.inside.there c.self.inside.back) There
    (subst IsLivePair (sym c.self.view_is) c.requires)

pub lines-requires-in-Back : goal.lines-requires-in-Back
lines-requires-in-Back c =
    some-on (walking_both c.self.inside.there c.self.inside.back) Back
    (subst IsLivePair (sym c.self.view_is) c.requires)

pub returns-in-There : goal.returns-in-There
returns-in-There c =
    c.lines.ensures ∙ ap (λ (p : PairWalking). length p.there.core.lines) c.self.view_is
    ∙ ap (λ way. length (walking_on c.args.self.now way).core.lines) (sym c.in-There.is)

pub returns-in-Back : goal.returns-in-Back
returns-in-Back c =
    c.lines-in-Back.ensures ∙ ap (λ (p : PairWalking). length p.back.core.lines) c.self.view_is
    ∙ ap (λ way. length (walking_on c.args.self.now way).core.lines) (sym c.in-Back.is)
