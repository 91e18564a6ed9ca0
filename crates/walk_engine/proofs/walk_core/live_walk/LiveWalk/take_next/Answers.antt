-- A row is taken, or the cells that were popped wait for more.
use Rattle.std.proofs.Common.{◌+◌, ◌≤◌, length, sym, ◌∙◌, ap, subst}
use Rattle.walk_engine.specs.Common.{GivesRows, Walking, LiveStands, Parts, listed, walking_counts, take_moved}
use Rattle.walk_engine.specs.Common.{windows_in}
use Rattle.walk_engine.proofs.TakeRowAndBackSteps.{take-counts, waits-walk, taken-walk, said-is, said-room, is-free}
use Rattle.walk_engine.proofs.WayEventAndToldSourceLaws.{is-live, way-stands, live-from}
use Rattle.walk_engine.proofs.walk_core.live_walk.LiveWalk.take_next.Goals as goal

pub take-requires : goal.take-requires
take-requires g c = way-stands _ (is-live _ _ c.self.view_is c.requires.stands)

pub say-requires : goal.say-requires
say-requires g c =
    let f = c.self.inside in
    let (leg, is) = is-live _ _ c.self.view_is c.requires.stands in
    let none = is-free leg _ _ is c.self.view_is c.requires.free in
    let takes = c.take.ensures.takes leg f.way.source.inbox.come is.stands none in
    let said = said-is leg f.way f.ring f.last is none c.take.new.self c.take.result takes
    c.take.ensures.rest c.in-Taken.back c.in-Taken.is in
    subst (λ p. length f.ring + length (listed p) ≤ 4) (sym said) (said-room leg f.way f.ring f.last is none)

pub returns-in-Waiting : goal.returns-in-Waiting
returns-in-Waiting g c =
    let f = c.self.inside in
    record {
      makes = λ leg stands.
          let is = subst (LiveStands leg) (sym c.self.view_is) stands in
          let none = is-free leg _ _ is c.self.view_is c.requires.free in
          let e = c.take.ensures in
          let takes = e.takes leg f.way.source.inbox.come is.stands none in
          live-from leg _ _ _ _ _ c.self.view_is (record {
            stands = waits-walk leg f.way f.ring f.last is none c.take.new.self c.take.result takes e.rest c.in-Waiting.line
                c.in-Waiting.is;
            counts = take-counts leg f.way f.ring f.last is none c.take.new.self c.take.result takes e.rest;
            moved = ap take_moved (sym c.in-Waiting.is) ∙ takes.makes.moved;
          });
      landed = ap (λ (p : Parts). p.source.landed) c.take.ensures.rest
          ∙ ap (λ (w : Walking). w.way.source.landed) c.self.view_is;
      windows = c.take.ensures.windows ∙ ap (λ (w : Walking). windows_in w.way.lines) c.self.view_is;
      gives = λ leg stands.
          let is = subst (LiveStands leg) (sym c.self.view_is) stands in
          let none = is-free leg _ _ is c.self.view_is c.requires.free in
          subst (λ (w : Walking). GivesRows g.F.FrameOut.stands_for c.args.out.now c.take.new.out leg (walking_counts w).rows
          c.take.new.self.sink.taken) c.self.view_is
          (c.take.ensures.gives leg f.way.source.inbox.come is.stands none);
    }

pub returns-in-Taken : goal.returns-in-Taken
returns-in-Taken g c =
    let f = c.self.inside in
    record {
      makes = λ leg stands.
          let is = subst (LiveStands leg) (sym c.self.view_is) stands in
          let none = is-free leg _ _ is c.self.view_is c.requires.free in
          let e = c.take.ensures in
          let takes = e.takes leg f.way.source.inbox.come is.stands none in
          live-from leg _ _ _ _ _ c.self.view_is (record {
            stands = taken-walk leg f.way f.ring f.last is none c.take.new.self c.take.result takes e.rest c.in-Taken.back
                c.say.new.self c.in-Taken.is c.say.ensures;
            counts = take-counts leg f.way f.ring f.last is none c.take.new.self c.take.result takes e.rest;
            moved = ap take_moved (sym c.in-Taken.is) ∙ takes.makes.moved;
          });
      landed = ap (λ (p : Parts). p.source.landed) c.take.ensures.rest
          ∙ ap (λ (w : Walking). w.way.source.landed) c.self.view_is;
      windows = c.take.ensures.windows ∙ ap (λ (w : Walking). windows_in w.way.lines) c.self.view_is;
      gives = λ leg stands.
          let is = subst (LiveStands leg) (sym c.self.view_is) stands in
          let none = is-free leg _ _ is c.self.view_is c.requires.free in
          subst (λ (w : Walking). GivesRows g.F.FrameOut.stands_for c.args.out.now c.take.new.out leg (walking_counts w).rows
          c.take.new.self.sink.taken) c.self.view_is
          (c.take.ensures.gives leg f.way.source.inbox.come is.stands none);
    }
