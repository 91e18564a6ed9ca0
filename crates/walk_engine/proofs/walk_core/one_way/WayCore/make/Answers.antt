-- A frame is made, and goes to its place in the send rings.
use Rattle.std.proofs.Common.{rules, ◌+◌, ◌%◌, ◌<◌, length, refl, sym, ◌∙◌, ap, subst, arith, is_some}
use Rattle.law_model.proofs.ListLaws.{at-index}
use Rattle.member_cells.specs.HeldPlaces.{held}
use Rattle.law_model.specs.Common.{steps_in, frame_of}
use Rattle.terminal_source.specs.source_core.Terminal.{SameKind, needed}
use Rattle.terminal_source.specs.source_core.GivenScenario.{with_cell}
use Rattle.terminal_group.specs.ReturnInbox.{cell_for, rest_for}
use Rattle.terminal_group.specs.SourceByCounts.{Counted, SameCounts, missing_from}
use Rattle.walk_engine.specs.walk_core.WayParts.{WayStands}
use Rattle.walk_engine.specs.Common.{Parts, sent_frames, CanTick, with_passed}
use Rattle.walk_engine.proofs.LineCarryAndSendRingLaws.{frame-size, sent-places}
use Rattle.walk_engine.proofs.TickAndFullRingLaws.{tick-makes_at, sent-read}
use Rattle.walk_engine.proofs.WayEventAndToldSourceLaws.{makes-from, same-left, same-missing, same-cell, same-rest}
use Rattle.walk_engine.proofs.walk_core.one_way.WayCore.make.Goals as goal

pub next_place-place-requires : goal.next_place-place-requires
next_place-place-requires c =
    let (leg, backs, stands) = c.requires.stands in
    let is = subst (WayStands leg backs) (sym c.self.view_is) stands in
    record { places = sent-places leg c.self.inside.source.core.ticks _ c.self.inside.sent.items is.sent }

pub make-requires : goal.make-requires
make-requires c =
    let p = c.pass_on.ensures in
    record {
      places =
          let f = c.self.inside in
          let (leg, backs, stands) = c.requires.stands in
          let is = subst (WayStands leg backs) (sym c.self.view_is) stands in
          let size = ap length c.deref.ensures.value ∙ is.lines.size in
          let sent =
          sent-read leg f.source.core.ticks c.ticks-ticks.result f.lines.items c.deref.result.now _ _
          (rw c.core.ensures at c.ticks-ticks.ensures) c.deref.ensures.value (c.next_place-place.ensures.has leg size) is.sent in
          let places = c.next_place-place.ensures.places in
          let at = c.next_place-place.ensures.place in
          let there = at-index c.next_place-place.new.sent.items c.next_place-place.result c.index_mut.result.now
          (omega (arith, places, at)) c.index_mut.ensures.value in
          frame-size leg f.source.core.ticks _ c.next_place-place.new.sent.items sent c.next_place-place.result
          c.index_mut.result.now there ∙ sym is.source.lines ∙ sym c.pass_on.ensures.kind.lines;
      left = same-left c.self.inside.source c.pass_on.new.source p.rest p.ticks p.kind
          (subst (λ (p : Parts). p.source.core.ticks < p.source.total) (sym c.self.view_is) c.requires.left);
      cell = same-missing c.self.inside.source c.pass_on.new.source p.rest p.ticks p.kind
          ∙ ap (λ (p : Parts). missing_from p.source) c.self.view_is ∙ c.requires.cell;
    }

pub returns : goal.returns
returns c =
    let p = c.pass_on.ensures in
    record {
      makes = λ leg backs stands can.
          let f = c.self.inside in
          let is = subst (WayStands leg backs) (sym c.self.view_is) stands in
          let free = subst (λ (p : Parts). CanTick leg backs p c.args.told c.make.result) (sym c.self.view_is) can in
          let m = c.make.ensures in
          let size = ap length c.deref.ensures.value ∙ is.lines.size in
          let sent =
          sent-read leg f.source.core.ticks c.ticks-ticks.result f.lines.items c.deref.result.now _ _
          (rw c.core.ensures at c.ticks-ticks.ensures) c.deref.ensures.value (c.next_place-place.ensures.has leg size) is.sent in
          let rest : SameCounts f.source c.make.new.self = record {
            total = m.rest.total ∙ ap (λ (s : Counted). s.total) p.rest;
            landed = m.rest.landed ∙ ap (λ (s : Counted). s.landed) p.rest;
          } in
          let kind : SameKind c.make.new.self.core f.source.core = record {
            lines = m.kind.lines ∙ p.kind.lines;
            lag = m.kind.lag ∙ p.kind.lag;
            size = m.kind.size ∙ p.kind.size;
            statuses = m.kind.statuses ∙ p.kind.statuses;
          } in
          makes-from leg backs _ _ _ _ _ c.self.view_is
          (tick-makes_at leg backs _ is c.args.told c.make.result free c.make.new.self rest
          (λ scenario cells made. m.made _ cells (p.made scenario cells made))
          (m.ticks ∙ ap (λ n. n + 1) p.ticks) kind
          (held c.make.new.frame.items)
          (λ scenario cells made. m.frame _ cells (p.made scenario cells made)
          ∙ ap (λ n. frame_of (with_passed scenario (steps_in f.source.core.ticks) c.args.told)
          (with_cell cells c.make.result) n) p.ticks)
          (sent_frames c.next_place-place.new.sent) sent
          c.next_place-place.new.sent.items c.make.new.frame refl refl c.next_place-place.result
          (c.next_place-place.ensures.place ∙ ap (λ n. n % 32) (rw c.core.ensures at c.ticks-ticks.ensures)));
      cell = c.make.ensures.cell ∙ same-cell c.self.inside.source c.pass_on.new.source p.rest p.ticks p.kind
          ∙ ap (λ (p : Parts). cell_for (is_some (needed p.source.core)) p.source.inbox.cells) c.self.view_is;
      inbox = c.make.ensures.inbox ∙ same-rest c.self.inside.source c.pass_on.new.source p.rest p.ticks p.kind
          ∙ ap (λ (p : Parts). record p.source.inbox
          { cells = rest_for (is_some (needed p.source.core)) p.source.inbox.cells }) c.self.view_is;
      landed = c.make.ensures.rest.landed ∙ ap (λ (s : Counted). s.landed) c.pass_on.ensures.rest
          ∙ ap (λ (p : Parts). p.source.landed) c.self.view_is;
      ticks = c.make.ensures.ticks ∙ ap (λ n. n + 1) c.pass_on.ensures.ticks
          ∙ ap (λ (p : Parts). p.source.core.ticks + 1) c.self.view_is;
      rest = search rules;
    }
