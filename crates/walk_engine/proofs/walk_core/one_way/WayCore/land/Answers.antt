-- The item is landed by the source side.
use Rattle.std.proofs.Common.{sym, ◌∙◌, ap, subst}
use Rattle.law_walk.specs.Common.{is_client}
use Rattle.terminal_group.specs.Item.{kind_of}
use Rattle.walk_engine.specs.walk_core.WayParts.{WayStands}
use Rattle.walk_engine.specs.Common.{Parts, IsDue, counts_of, landing_of, refusal_in_event}
use Rattle.walk_engine.proofs.LandedItemSteps.{land-taken, land-why}
use Rattle.walk_engine.proofs.WayEventAndToldSourceLaws.{makes-from}
use Rattle.walk_engine.proofs.walk_core.one_way.WayCore.land.Goals as goal

pub returns : goal.returns
returns c =
    record {
      makes = λ leg backs stands due.
          let is = subst (WayStands leg backs) (sym c.self.view_is) stands in
          let now = subst (λ (p : Parts). IsDue leg (counts_of p backs) (kind_of c.args.item)) (sym c.self.view_is) due in
          let e = c.land.ensures in
          makes-from leg backs _ _ _ _ _ c.self.view_is
          (land-taken leg backs _ is (kind_of c.args.item) now c.land.new.self c.land.result
          (record {
            met = e.met;
            given = record { stands = e.made; ticks = e.ticks; same = e.kind };
            landed = e.landed;
            rest = e.rest;
          }));
      refusal = λ leg backs stands due.
          let is = subst (WayStands leg backs) (sym c.self.view_is) stands in
          let now = subst (λ (p : Parts). IsDue leg (counts_of p backs) (kind_of c.args.item)) (sym c.self.view_is) due in
          land-why leg backs _ is (kind_of c.args.item) now c.land.result c.land.ensures.met
          ∙ ap (λ (p : Parts). refusal_in_event leg (counts_of p backs) (landing_of (is_client (kind_of c.args.item))))
          c.self.view_is;
      ticks = c.land.ensures.ticks ∙ ap (λ (p : Parts). p.source.core.ticks) c.self.view_is;
      inbox = c.land.ensures.rest.inbox ∙ ap (λ (p : Parts). p.source.inbox) c.self.view_is;
      rest = ap (λ (p : Parts). record p { source = c.land.new.self }) c.self.view_is;
    }
