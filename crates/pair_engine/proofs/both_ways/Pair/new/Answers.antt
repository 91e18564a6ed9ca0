-- Both ways are before any event.
use Rattle.std.proofs.Common.{sym, ◌∙◌, ap, subst}
use Rattle.law_model.specs.declared.script_types.Script.{Script}
use Rattle.law_pair.specs.Common.{IsPair, pair_begin, pair_plan}
use Rattle.pair_engine.specs.Ways.{IsNewWay}
use Rattle.pair_engine.proofs.both_ways.Pair.new.Goals as goal

pub begun-requires : goal.begun-requires
begun-requires c =
    let there = c.in_ok-there.ensures in
    let back = c.in_ok-back.ensures in
    record {
      pair = subst (λ (x : Script). IsPair x c.in_ok-back.back.script) (sym there.script_is)
          (subst (IsPair c.args.there) (sym back.script_is) c.requires);
      there = subst (λ (x : Script). IsNewWay x c.in_ok-there.there) (sym there.script_is) there;
      back = subst (λ (x : Script). IsNewWay x c.in_ok-back.back) (sym back.script_is) back;
    }

pub returns-clause-there : goal.returns-clause-there
returns-clause-there c = c.begun.ensures.there ∙ c.in_ok-there.ensures.script_is

pub returns-clause-back : goal.returns-clause-back
returns-clause-back c = c.begun.ensures.back ∙ c.in_ok-back.ensures.script_is

pub returns-clause-counts : goal.returns-clause-counts
returns-clause-counts c =
    c.begun.ensures.counts
    ∙ ap (λ (x : Script). pair_begin (pair_plan x c.in_ok-back.back.script)) c.in_ok-there.ensures.script_is
    ∙ ap (λ (x : Script). pair_begin (pair_plan c.args.there x)) c.in_ok-back.ensures.script_is
