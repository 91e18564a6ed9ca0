-- A line of a way carries.
use Rattle.std.proofs.Common.{◌<◌, ℕ, length, Option, None, refl, sym, ◌∙◌, ap, subst}
use Rattle.law_model.specs.Common.{Leg, Counts, Step, carry}
use Rattle.law_model.specs.declared.item_refusals.Refusal.{Refusal}
use Rattle.law_walk.specs.Common.{walk_plan}
use Rattle.law_pair.specs.Common.{plan_on}
use Rattle.law_pair.specs.declared.pair_events.PairEvent.{PairEvent}
use Rattle.law_pair.specs.declared.pair_events.PairEvent.TheVariants.{Carry}
use Rattle.law_pair.specs.declared.pair_events.Way.{Way}
use Rattle.law_pair.specs.declared.pair_events.Way.TheVariants.{There, Back}
use Rattle.pair_engine.specs.PairAfterEvent.{Paired, plan_of}
use Rattle.pair_engine.proofs.PairEventAndRoundLaws.{paired, line-in, quiet-follows, seen-follows}
use Rattle.pair_engine.proofs.both_ways.Pair.carry.Goals as goal

abbrev carrying : ℕ → Leg → Counts → Step
carrying line leg s = carry (walk_plan leg) s line

abbrev refuses_none : Leg → Counts → Option Refusal
refuses_none leg s = None

abbrev carry_on : ℕ → Way → PairEvent
carry_on line way = Carry way line

pub invariant_of-self : goal.invariant_of-self
invariant_of-self c =
    (quiet-follows There c.self.inside.there c.self.inside.back c.carry.new.self (carry_on c.args.line)
    (carrying c.args.line) refuses_none c.carry.result c.self.invariant refl refl c.carry.ensures.quiet
    c.carry.ensures.goes).walk

pub invariant_of-self-in-Back : goal.invariant_of-self-in-Back
invariant_of-self-in-Back c =
    (quiet-follows Back c.self.inside.back c.self.inside.there c.carry-in-Back.new.self (carry_on c.args.line)
    (carrying c.args.line) refuses_none c.carry-in-Back.result c.self.invariant refl refl
    c.carry-in-Back.ensures.quiet c.carry-in-Back.ensures.goes).walk

pub returns-in-There : goal.returns-in-There
returns-in-There c =
    let now = seen-follows _ _ _ There (carry_on c.args.line) c.carry.result c.self.view_is c.in-There.is
    c.moved_on.ensures
    (quiet-follows There c.self.inside.there c.self.inside.back c.carry.new.self (carry_on c.args.line)
    (carrying c.args.line) refuses_none c.carry.result c.self.invariant refl refl c.carry.ensures.quiet
    c.carry.ensures.goes) in
    record {
      pair = now.pair;
      moved = now.moved;
      rows = record {
        there = c.carry.ensures.quiet.still.rows ∙ ap (λ (p : Paired). p.counts.there.rows) c.self.view_is;
        back = ap (λ (p : Paired). p.counts.back.rows) c.self.view_is;
      };
    }

pub returns-in-Back : goal.returns-in-Back
returns-in-Back c =
    let now = seen-follows _ _ _ Back (carry_on c.args.line) c.carry-in-Back.result c.self.view_is c.in-Back.is
    c.moved_on-in-Back.ensures
    (quiet-follows Back c.self.inside.back c.self.inside.there c.carry-in-Back.new.self (carry_on c.args.line)
    (carrying c.args.line) refuses_none c.carry-in-Back.result c.self.invariant refl refl
    c.carry-in-Back.ensures.quiet c.carry-in-Back.ensures.goes) in
    record {
      pair = now.pair;
      moved = now.moved;
      rows = record {
        there = ap (λ (p : Paired). p.counts.there.rows) c.self.view_is;
        back = c.carry-in-Back.ensures.quiet.still.rows ∙ ap (λ (p : Paired). p.counts.back.rows) c.self.view_is;
      };
    }

pub carry-requires-clause-line : goal.carry-requires-clause-line
carry-requires-clause-line c =
    let f = c.self.inside in
    line-in (paired f.there f.back) There c.args.line c.self.invariant.pair
    (subst (λ (p : Paired). c.args.line < length (plan_on (plan_of p) There).paths) (sym c.self.view_is)
    (subst (λ w. c.args.line < length (plan_on (plan_of c.args.self.now) w).paths) c.in-There.is c.requires))

pub carry-requires-in-Back-clause-line : goal.carry-requires-in-Back-clause-line
carry-requires-in-Back-clause-line c =
    let f = c.self.inside in
    line-in (paired f.there f.back) Back c.args.line c.self.invariant.pair
    (subst (λ (p : Paired). c.args.line < length (plan_on (plan_of p) Back).paths) (sym c.self.view_is)
    (subst (λ w. c.args.line < length (plan_on (plan_of c.args.self.now) w).paths) c.in-Back.is c.requires))
