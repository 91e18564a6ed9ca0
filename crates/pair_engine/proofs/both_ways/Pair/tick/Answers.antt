-- Both ways tick, or neither does.
use Rattle.std.proofs.Common.{Option, None, sym, ◌∙◌, ap}
use Rattle.law_model.specs.declared.walk_events.StallCause.{StallCause}
use Rattle.law_pair.specs.Common.{PairCounts, tick_by}
use Rattle.law_pair.specs.declared.pair_events.PairEvent.TheVariants.{Tick}
use Rattle.law_pair.specs.declared.pair_events.Way.{Way}
use Rattle.pair_engine.specs.PairAfterEvent.{Paired, after, answer_by, moved_of, with_counts}
use Rattle.pair_engine.proofs.PairEventAndRoundLaws.{can-tick-both, paired, tick-walk}
use Rattle.pair_engine.proofs.both_ways.Pair.tick.Goals as goal

pub tick_stall-requires : goal.tick_stall-requires
tick_stall-requires c = c.self.invariant

pub tick_both-requires : goal.tick_both-requires
tick_both-requires c =
    let f = c.self.inside in (
      f.there.script,
      f.back.script,
      can-tick-both f.there f.back c.self.invariant (sym c.tick_stall.ensures ∙ c.in-None.is),
    )

pub invariant_of-self : goal.invariant_of-self
invariant_of-self c =
    let f = c.self.inside in
    let can = can-tick-both f.there f.back c.self.invariant (sym c.tick_stall.ensures ∙ c.in-None.is) in
    let e = c.tick_both.ensures in
    tick-walk f.there f.back c.tick_both.new.there c.tick_both.new.back _ c.self.invariant
    (e.ticks f.there.script f.back.script can) e.there e.back

pub returns-in-None : goal.returns-in-None
returns-in-None c =
    let f = c.self.inside in
    let was : Paired = paired f.there f.back in
    let none = sym c.tick_stall.ensures ∙ c.in-None.is in
    let goes = c.tick_both.ensures.ticks f.there.script f.back.script
    (can-tick-both f.there f.back c.self.invariant none) in
    record {
      pair = ap (with_counts was) (goes.counts
          ∙ ap (λ (found : Option (Way × StallCause)). (tick_by found was.counts).counts) (sym none))
          ∙ ap (λ (p : Paired). after p Tick) c.self.view_is;
      moved = ap (λ (found : Option (Way × StallCause)). answer_by (tick_by found was.counts).cause None) (sym none)
          ∙ ap (λ (p : Paired). moved_of p Tick) c.self.view_is;
      rows = record {
        there = ap (λ (s : PairCounts). s.there.rows) goes.counts
            ∙ ap (λ (p : Paired). p.counts.there.rows) c.self.view_is;
        back = ap (λ (s : PairCounts). s.back.rows) goes.counts
            ∙ ap (λ (p : Paired). p.counts.back.rows) c.self.view_is;
      };
    }
