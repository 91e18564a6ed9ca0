-- Both ways tick, or neither does.
use Rattle.std.proofs.Common.{◌<◌, refl, sym, ◌∙◌, ap, subst}
use Rattle.law_model.specs.declared.script_types.Script.{Script}
use Rattle.law_pair.specs.Common.{pair_plan}
use Rattle.pair_engine.specs.LivePairs.{CanTurn, PairLives, PairWalking, SameWindows, TicksBoth, walking_counts}
use Rattle.pair_engine.specs.WayCalls.{late_cause}
use Rattle.pair_engine.specs.Ways.{walking_both}
use Rattle.pair_engine.proofs.LivePairLaws.{can-both, kept-windows, stalls-both, ticks-both}
use Rattle.pair_engine.proofs.live_pair.LivePair.tick.Goals as goal

pub live_stall-requires : goal.live_stall-requires
live_stall-requires c =
    let (one, other, can) = c.requires.ready in
    (one, other, (subst (CanTurn one other) (sym c.self.view_is) can).lives)

pub returns-in-Some : goal.returns-in-Some
returns-in-Some c = record {
  ticks = λ one other can. stalls-both one other c.args.self.now _ can c.requires.left
      (sym c.in-Some.is ∙ c.live_stall.ensures one other (subst (PairLives one other) (sym c.self.view_is) can.lives)
      ∙ ap (λ (p : PairWalking). late_cause (pair_plan one other) (walking_counts p)) c.self.view_is);
  windows = λ way. refl;
}

pub tick_both-requires : goal.tick_both-requires
tick_both-requires c =
    let pair : PairWalking = walking_both c.self.inside.there c.self.inside.back in
    let left = subst (λ (p : PairWalking). p.there.core.source.core.ticks < p.there.core.source.total)
    (sym c.self.view_is) c.requires.left in
    let (one, other, ready) = c.requires.ready in
    let can = subst (CanTurn one other) (sym c.self.view_is) ready in
    (one, other, can-both one other pair can left (sym c.in-None.is ∙ c.live_stall.ensures one other can.lives))

pub returns-in-None : goal.returns-in-None
returns-in-None c =
    let pair : PairWalking = walking_both c.self.inside.there c.self.inside.back in
    let now : PairWalking = walking_both c.tick_both.new.there c.tick_both.new.back in
    let left = subst (λ (p : PairWalking). p.there.core.source.core.ticks < p.there.core.source.total)
    (sym c.self.view_is) c.requires.left in
    record {
      ticks = subst (λ (p : PairWalking). (one other : Script) → CanTurn one other p → TicksBoth one other p now)
          c.self.view_is
          (λ one other can.
          let both = can-both one other pair can left (sym c.in-None.is ∙ c.live_stall.ensures one other can.lives) in
          ticks-both one other pair now both (c.tick_both.ensures.ticks one other both));
      windows = subst (λ (p : PairWalking). SameWindows p now) c.self.view_is
          (kept-windows pair now c.tick_both.ensures.there c.tick_both.ensures.back);
    }
