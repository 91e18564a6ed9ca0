-- A row of a way is tried.
use Rattle.std.proofs.Common.{sym, subst}
use Rattle.law_model.specs.declared.script_types.Script.{Script}
use Rattle.law_live.specs.Common.{leg_on}
use Rattle.law_pair.specs.Common.{counts_on, way_of}
use Rattle.law_pair.specs.declared.pair_events.Way.TheVariants.{There, Back}
use Rattle.walk_engine.specs.Common.{GivesRows}
use Rattle.pair_engine.specs.LivePairs.{IsLivePair, PairLives, PairWalking, SameWindows, walking_counts}
use Rattle.pair_engine.specs.Ways.{walking_both}
use Rattle.pair_engine.proofs.LivePairLaws.{TakesOn, kept-windows, take-back, take-there}
use Rattle.pair_engine.proofs.LiveWayLaws.{back-beside, there-beside}
use Rattle.pair_engine.proofs.live_pair.LivePair.take.Goals as goal

pub take_way_row-requires : goal.take_way_row-requires
take_way_row-requires g c =
    let (one, other, lives) = subst IsLivePair (sym c.self.view_is) c.requires in
    (one, other, there-beside one other (walking_both c.self.inside.there c.self.inside.back) lives)

pub returns-in-There : goal.returns-in-There
returns-in-There g c =
    let pair : PairWalking = walking_both c.self.inside.there c.self.inside.back in
    let now : PairWalking = walking_both c.take_way_row.new.own c.take_way_row.new.other in
    let e = c.take_way_row.ensures in
    record {
      takes = subst (TakesOn c.args.self.now now) (sym c.in-There.is)
          (subst (λ (p : PairWalking). TakesOn p now There) c.self.view_is
          (λ one other lives. take-there one other pair now c.take_way_row.result lives
          (e.takes one other (there-beside one other pair lives))));
      windows = subst (λ (p : PairWalking). SameWindows p now) c.self.view_is
          (kept-windows pair now c.take_way_row.ensures.own c.take_way_row.ensures.other);
      gives = subst (λ way. (one other : Script) → PairLives one other c.args.self.now →
          GivesRows g.F.FrameOut.stands_for c.args.out.now c.take_way_row.new.out (leg_on one other way)
          (counts_on (walking_counts c.args.self.now) way).rows (counts_on (walking_counts now) way).rows)
          (sym c.in-There.is)
          (subst (λ (p : PairWalking). (one other : Script) → PairLives one other p →
          GivesRows g.F.FrameOut.stands_for c.args.out.now c.take_way_row.new.out (way_of one other)
          p.there.core.sink.taken now.there.core.sink.taken) c.self.view_is
          (λ one other lives. e.gives one other (there-beside one other pair lives)));
    }

pub take_way_row-requires-in-Back : goal.take_way_row-requires-in-Back
take_way_row-requires-in-Back g c =
    let (one, other, lives) = subst IsLivePair (sym c.self.view_is) c.requires in
    (other, one, back-beside one other (walking_both c.self.inside.there c.self.inside.back) lives)

pub returns-in-Back : goal.returns-in-Back
returns-in-Back g c =
    let pair : PairWalking = walking_both c.self.inside.there c.self.inside.back in
    let now : PairWalking = walking_both c.take_way_row-in-Back.new.other c.take_way_row-in-Back.new.own in
    let e = c.take_way_row-in-Back.ensures in
    record {
      takes = subst (TakesOn c.args.self.now now) (sym c.in-Back.is)
          (subst (λ (p : PairWalking). TakesOn p now Back) c.self.view_is
          (λ one other lives. take-back one other pair now c.take_way_row-in-Back.result lives
          (e.takes other one (back-beside one other pair lives))));
      windows = subst (λ (p : PairWalking). SameWindows p now) c.self.view_is
          (kept-windows pair now c.take_way_row-in-Back.ensures.other c.take_way_row-in-Back.ensures.own);
      gives = subst (λ way. (one other : Script) → PairLives one other c.args.self.now →
          GivesRows g.F.FrameOut.stands_for c.args.out.now c.take_way_row-in-Back.new.out (leg_on one other way)
          (counts_on (walking_counts c.args.self.now) way).rows (counts_on (walking_counts now) way).rows)
          (sym c.in-Back.is)
          (subst (λ (p : PairWalking). (one other : Script) → PairLives one other p →
          GivesRows g.F.FrameOut.stands_for c.args.out.now c.take_way_row-in-Back.new.out (way_of other one)
          p.back.core.sink.taken now.back.core.sink.taken) c.self.view_is
          (λ one other lives. e.gives other one (back-beside one other pair lives)));
    }
