-- The next item of a way lands, or stalls.
use Rattle.std.proofs.Common.{refl, ◌∙◌, ap}
use Rattle.law_model.specs.Common.{Leg, Counts, Step}
use Rattle.law_pair.specs.Common.{land_item}
use Rattle.law_pair.specs.declared.pair_events.PairEvent.TheVariants.{Item}
use Rattle.law_pair.specs.declared.pair_events.Way.TheVariants.{There, Back}
use Rattle.law_walk.specs.Common.{walk_plan}
use Rattle.pair_engine.specs.PairAfterEvent.{Paired, next_refusal}
use Rattle.pair_engine.proofs.PairEventAndRoundLaws.{quiet-follows, seen-follows}
use Rattle.pair_engine.proofs.both_ways.Pair.land.Goals as goal

abbrev landing : Leg → Counts → Step
landing leg s = land_item (walk_plan leg) s

pub invariant_of-self : goal.invariant_of-self
invariant_of-self c =
    (quiet-follows There c.self.inside.there c.self.inside.back c.land.new.self Item landing next_refusal
    c.land.result c.self.invariant refl refl c.land.ensures.quiet c.land.ensures.goes).walk

pub invariant_of-self-in-Back : goal.invariant_of-self-in-Back
invariant_of-self-in-Back c =
    (quiet-follows Back c.self.inside.back c.self.inside.there c.land-in-Back.new.self Item landing next_refusal
    c.land-in-Back.result c.self.invariant refl refl c.land-in-Back.ensures.quiet c.land-in-Back.ensures.goes).walk

pub returns-in-There : goal.returns-in-There
returns-in-There c =
    let now = seen-follows _ _ _ There Item c.land.result c.self.view_is c.in-There.is c.moved_on.ensures
    (quiet-follows There c.self.inside.there c.self.inside.back c.land.new.self Item landing next_refusal
    c.land.result c.self.invariant refl refl c.land.ensures.quiet c.land.ensures.goes) in
    record {
      pair = now.pair;
      moved = now.moved;
      rows = record {
        there = c.land.ensures.quiet.still.rows ∙ ap (λ (p : Paired). p.counts.there.rows) c.self.view_is;
        back = ap (λ (p : Paired). p.counts.back.rows) c.self.view_is;
      };
      fits = now.walk.pair;
      walked = now.walk.walked;
    }

pub returns-in-Back : goal.returns-in-Back
returns-in-Back c =
    let now = seen-follows _ _ _ Back Item c.land-in-Back.result c.self.view_is c.in-Back.is
    c.moved_on-in-Back.ensures
    (quiet-follows Back c.self.inside.back c.self.inside.there c.land-in-Back.new.self Item landing next_refusal
    c.land-in-Back.result c.self.invariant refl refl c.land-in-Back.ensures.quiet c.land-in-Back.ensures.goes) in
    record {
      pair = now.pair;
      moved = now.moved;
      rows = record {
        there = ap (λ (p : Paired). p.counts.there.rows) c.self.view_is;
        back = c.land-in-Back.ensures.quiet.still.rows ∙ ap (λ (p : Paired). p.counts.back.rows) c.self.view_is;
      };
      fits = now.walk.pair;
      walked = now.walk.walked;
    }
