-- It was noted.
use Rattle.std.proofs.Common.{sym, ◌∙◌, ap, subst}
use Rattle.law_model.specs.declared.script_types.Script.{Script}
use Rattle.law_live.specs.Common.{leg_on}
use Rattle.law_pair.specs.Common.{counts_on, way_of}
use Rattle.law_walk.specs.Common.{last_packet}
use Rattle.walk_engine.specs.Common.{note_of}
use Rattle.pair_engine.specs.LivePairs.{IsShownAs, PairLives, PairWalking, walking_counts, walking_on}
use Rattle.pair_engine.proofs.live_pair.LivePair.last_step.Goals as goal

pub returns-in-There : goal.returns-in-There
returns-in-There c = record {
  last = ap (λ (pair : PairWalking). pair.there.last) c.self.view_is
      ∙ ap (λ way. (walking_on c.args.self.now way).last) (sym c.in-There.is);
  step = subst (λ way. (one other : Script) → PairLives one other c.args.self.now →
      IsShownAs c.self.inside.there.last (note_of (leg_on one other way)
      (last_packet (counts_on (walking_counts c.args.self.now) way).ticks))) (sym c.in-There.is)
      (subst (λ (pair : PairWalking). (one other : Script) → PairLives one other pair →
      IsShownAs c.self.inside.there.last (note_of (way_of one other) (last_packet (walking_counts pair).there.ticks)))
      c.self.view_is (λ one other lives. lives.there_way.noted));
}

pub returns-in-Back : goal.returns-in-Back
returns-in-Back c = record {
  last = ap (λ (pair : PairWalking). pair.back.last) c.self.view_is
      ∙ ap (λ way. (walking_on c.args.self.now way).last) (sym c.in-Back.is);
  step = subst (λ way. (one other : Script) → PairLives one other c.args.self.now →
      IsShownAs c.self.inside.back.last (note_of (leg_on one other way)
      (last_packet (counts_on (walking_counts c.args.self.now) way).ticks))) (sym c.in-Back.is)
      (subst (λ (pair : PairWalking). (one other : Script) → PairLives one other pair →
      IsShownAs c.self.inside.back.last (note_of (way_of other one) (last_packet (walking_counts pair).back.ticks)))
      c.self.view_is (λ one other lives. lives.back_way.noted));
}
