-- An item lands, or stalls.
use Rattle.std.proofs.Common.{rules, refl, sym, ◌∙◌, ap}
use Rattle.law_model.specs.Common.{Counts, leg_of}
use Rattle.law_model.specs.declared.script_types.Script.{Script}
use Rattle.walk_engine.specs.Common.{landing_of, counts_after, moved_of}
use Rattle.law_walk.specs.Common.{walk_plan}
use Rattle.walk_engine.proofs.WalkRoundAndTotalsLaws.{landed_of, landed-none, land-turn, land-end, landed-rows}
use Rattle.walk_engine.proofs.walk_core.walk.Walk.land_all.Goals as goal

pub loop-init : goal.loop-init
loop-init c = record {
  script = refl;
  landed = landed-none (walk_plan (leg_of c.args.self.now.script)) c.args.self.now.counts
      (landing_of c.args.client) (landed_of c.args.client);
  rows = refl;
}

pub returns-in-Stalled : goal.returns-in-Stalled
returns-in-Stalled c =
    let inv = c.loop.invariant in
    let after = c.land.ensures.counts
    ∙ ap (λ (x : Script). counts_after (leg_of x) c.loop.self.counts (landing_of c.args.client)) inv.script in
    record {
      script = search rules;
      counts =
          let said = sym c.in-Stalled.is ∙ c.land.ensures.moved
          ∙ ap (λ (x : Script). moved_of (leg_of x) c.loop.self.counts (landing_of c.args.client)) inv.script in
          land-end (leg_of c.args.self.now.script) c.args.self.now.counts c.args.client c.loop.self.counts
          c.land.new.self.counts _ inv.landed after said;
      rows = ap (λ (s : Counts). s.rows) after
          ∙ landed-rows c.args.client (leg_of c.args.self.now.script) c.loop.self.counts ∙ inv.rows;
    }

pub loop-smaller : goal.loop-smaller
loop-smaller c =
    let inv = c.loop.invariant in
    let after = c.land.ensures.counts
    ∙ ap (λ (x : Script). counts_after (leg_of x) c.loop.self.counts (landing_of c.args.client)) inv.script in
    let said = c.land.ensures.moved
    ∙ ap (λ (x : Script). moved_of (leg_of x) c.loop.self.counts (landing_of c.args.client)) inv.script in
    (land-turn (leg_of c.args.self.now.script) c.args.self.now.counts c.args.client c.loop.self.counts
    c.land.new.self.counts c.land.result inv.landed after said c.in_default.not-Stalled).1

pub loop-preserved : goal.loop-preserved
loop-preserved c =
    let inv = c.loop.invariant in
    let after = c.land.ensures.counts
    ∙ ap (λ (x : Script). counts_after (leg_of x) c.loop.self.counts (landing_of c.args.client)) inv.script in
    let said = c.land.ensures.moved
    ∙ ap (λ (x : Script). moved_of (leg_of x) c.loop.self.counts (landing_of c.args.client)) inv.script in
    record {
      script = c.land.ensures.script ∙ inv.script;
      landed = (land-turn (leg_of c.args.self.now.script) c.args.self.now.counts c.args.client
          c.loop.self.counts c.land.new.self.counts c.land.result inv.landed after said c.in_default.not-Stalled).0;
      rows = ap (λ (s : Counts). s.rows) after
          ∙ landed-rows c.args.client (leg_of c.args.self.now.script) c.loop.self.counts ∙ inv.rows;
    }
