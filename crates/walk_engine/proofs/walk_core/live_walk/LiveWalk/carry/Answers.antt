-- A line carries.
use Rattle.std.proofs.Common.{◌<◌, length, sym, ◌∙◌, ap, subst}
use Rattle.walk_engine.specs.Common.{Walking, LiveStands, Parts, counts_of, walking_of, windows_in}
use Rattle.walk_engine.proofs.LineCarryAndSendRingLaws.{carried-live}
use Rattle.walk_engine.proofs.WayEventAndToldSourceLaws.{is-live, way-stands, live-from}
use Rattle.walk_engine.proofs.walk_core.live_walk.LiveWalk.carry.Goals as goal

pub carry-requires-clause-line : goal.carry-requires-clause-line
carry-requires-clause-line c =
    subst (λ (w : Walking). c.args.line < length w.way.lines) (sym c.self.view_is) c.requires.line

pub carry-requires-clause-stands : goal.carry-requires-clause-stands
carry-requires-clause-stands c = way-stands _ (is-live _ _ c.self.view_is c.requires.stands)

pub returns : goal.returns
returns c =
    record {
      makes = λ leg stands.
          let f = c.self.inside in
          let is = subst (LiveStands leg) (sym c.self.view_is) stands in
          let e = c.carry.ensures in
          let makes = e.makes leg f.way.source.inbox.come is.stands in
          live-from leg _ _ _ _ _ c.self.view_is (record {
            stands = carried-live leg (walking_of f.way f.ring f.last) c.carry.new.self is makes.stands e.rest;
            counts = ap (λ (p : Parts). counts_of c.carry.new.self p.source.inbox.come) e.rest ∙ makes.counts;
            moved = c.carried.ensures ∙ makes.moved;
          });
      landed = ap (λ (p : Parts). p.source.landed) c.carry.ensures.rest
          ∙ ap (λ (w : Walking). w.way.source.landed) c.self.view_is;
      windows = c.carry.ensures.windows ∙ ap (λ (w : Walking). windows_in w.way.lines) c.self.view_is;
    }
