-- The first return packet is the source's next return cell.
use Rattle.std.proofs.Common.{List, drop, sym, ◌∙◌, ap, subst}
use Rattle.law_model.specs.declared.control_packet.Packet.{Packet}
use Rattle.walk_engine.specs.Common.{Walking, LiveStands, Parts, counts_of, walking_of, path_of, windows_in}
use Rattle.walk_engine.proofs.TakeRowAndBackSteps.{back-stays, back-yes, back-counts, back-kept, inbox-room, backs-few}
use Rattle.walk_engine.proofs.TakeRowAndBackSteps.{no-packet}
use Rattle.walk_engine.proofs.WayEventAndToldSourceLaws.{is-live, live-from}
use Rattle.walk_engine.proofs.walk_core.live_walk.LiveWalk.back.Goals as goal

pub put-requires : goal.put-requires
put-requires c =
    let f = c.self.inside in
    let (leg, is) = is-live _ _ c.self.view_is c.requires in
    record {
      room = inbox-room leg f.way f.ring f.last is;
      few = backs-few leg f.way f.ring f.last is;
    }

pub returns-in-Some : goal.returns-in-Some
returns-in-Some c =
    record {
      makes = λ leg stands.
          let f = c.self.inside in
          let is = subst (LiveStands leg) (sym c.self.view_is) stands in
          let there = sym c.in-Some.is ∙ c.pop.ensures.cell in
          live-from leg _ _ _ _ _ c.self.view_is (record {
            stands = subst (λ (p : Parts). LiveStands leg (walking_of p c.pop.new.self f.last)) (sym c.put.ensures)
                (back-kept leg f.way f.ring f.last is c.pop.new.self c.in-Some.cell there c.pop.ensures.rest);
            counts = ap (λ (p : Parts). counts_of p p.source.inbox.come) c.put.ensures
                ∙ back-counts leg f.way f.ring f.last is c.pop.new.self c.in-Some.cell there c.pop.ensures.rest;
            moved = back-yes leg f.way f.ring f.last is c.pop.new.self c.in-Some.cell there c.pop.ensures.rest;
          });
      landed = ap (λ (p : Parts). p.source.landed) c.put.ensures ∙ ap (λ (w : Walking). w.way.source.landed) c.self.view_is;
      windows = ap (λ (p : Parts). windows_in p.lines) c.put.ensures
          ∙ ap (λ (w : Walking). windows_in w.way.lines) c.self.view_is;
    }

pub returns-in-None-clause-makes : goal.returns-in-None-clause-makes
returns-in-None-clause-makes c leg stands =
    let f = c.self.inside in
    let is = subst (LiveStands leg) (sym c.self.view_is) stands in
    let none = no-packet f.ring (sym c.in-None.is ∙ c.pop.ensures.cell) in
    let stays = back-stays leg (counts_of f.way f.way.source.inbox.come) (path_of f.ring f.way.source.inbox) is.back
    none in
    live-from leg _ _ _ _ _ c.self.view_is (record {
      stands = subst (λ (r : List Packet). LiveStands leg (walking_of f.way r f.last))
          (sym (c.pop.ensures.rest ∙ ap (drop 1) none ∙ sym none)) is;
      counts = stays.0;
      moved = stays.1;
    })

pub returns-in-None-clause-landed : goal.returns-in-None-clause-landed
returns-in-None-clause-landed c = ap (λ (w : Walking). w.way.source.landed) c.self.view_is

pub returns-in-None-clause-windows : goal.returns-in-None-clause-windows
returns-in-None-clause-windows c = ap (λ (w : Walking). windows_in w.way.lines) c.self.view_is
