-- The item is landed by the direction.
use Rattle.std.proofs.Common.{sym, ◌∙◌, ap, subst}
use Rattle.law_walk.specs.Common.{is_client}
use Rattle.terminal_group.specs.ReturnInbox.{Inbox}
use Rattle.terminal_group.specs.Item.{kind_of}
use Rattle.walk_engine.specs.Common.{IsDue, Walking, LiveStands, Parts, counts_of, landing_of, walking_counts}
use Rattle.walk_engine.specs.Common.{walking_of, refusal_in_event, windows_in}
use Rattle.walk_engine.proofs.LandedItemSteps.{landed-live}
use Rattle.walk_engine.proofs.WayEventAndToldSourceLaws.{live-from}
use Rattle.walk_engine.proofs.walk_core.live_walk.LiveWalk.say.Goals as goal

pub returns : goal.returns
returns c =
    let f = c.self.inside in
    record {
      makes = λ leg stands due.
          let is = subst (LiveStands leg) (sym c.self.view_is) stands in
          let now = subst (λ (w : Walking). IsDue leg (walking_counts w) (kind_of c.args.item)) (sym c.self.view_is) due in
          let e = c.land.ensures in
          let makes = e.makes leg f.way.source.inbox.come is.stands now in
          live-from leg _ _ _ _ _ c.self.view_is (record {
            stands = landed-live leg (walking_of f.way f.ring f.last) c.land.new.self is makes.stands
                e.ticks e.inbox e.rest;
            counts = ap (λ (i : Inbox). counts_of c.land.new.self i.come) e.inbox ∙ makes.counts;
            moved = makes.moved;
          });
      refusal = λ leg stands due.
          let is = subst (LiveStands leg) (sym c.self.view_is) stands in
          let now = subst (λ (w : Walking). IsDue leg (walking_counts w) (kind_of c.args.item)) (sym c.self.view_is) due in
          c.land.ensures.refusal leg f.way.source.inbox.come is.stands now
          ∙ ap (λ (w : Walking). refusal_in_event leg (walking_counts w) (landing_of (is_client (kind_of c.args.item))))
          c.self.view_is;
      windows = ap (λ (p : Parts). windows_in p.lines) c.land.ensures.rest
          ∙ ap (λ (w : Walking). windows_in w.way.lines) c.self.view_is;
    }
