-- Return cells were moved into the inbox.
use Rattle.std.proofs.Common.{length, inl, inr, refl, sym, ◌∙◌, ap, subst}
use Rattle.terminal_source.specs.source_core.Terminal.{Terminal}
use Rattle.thread_rings.specs.EndsOfRing.{in_passed}
use Rattle.terminal_group.specs.ReturnInbox.{told_taken}
use Rattle.terminal_group.specs.SourceByCounts.{Counted}
use Rattle.thread_group.specs.GroupParts.{parts, Keeps}
use Rattle.thread_group.proofs.GroupPartsAfterStepLaws.{keeps-moved, told-moved, full-come, few-come}
use Rattle.thread_group.proofs.group_state.GroupState.come.Goals as goal

pub take_cells-requires-clause-room : goal.take_cells-requires-clause-room
take_cells-requires-clause-room c = c.args.self.now.keeps.fits

pub take_cells-requires-clause-few : goal.take_cells-requires-clause-few
take_cells-requires-clause-few c = few-come _ _ c.args.self.now.keeps

pub invariant_of-self : goal.invariant_of-self
invariant_of-self c =
    let g = c.args.self.now in
    let inbox = c.take_cells.new.source.inbox in
    let back = c.take_cells.new.back in
    record {
      lines = g.lines ∙ sym (ap (λ (s : Counted). s.core.lines) c.take_cells.ensures.rest);
      keeps = subst (λ (s : Counted). Keeps (parts s.core s.total g.landing g.journal s.inbox g.tx.items back)
          (length g.frame.items)) (sym c.take_cells.ensures.rest)
          (keeps-moved _ _ inbox back g.keeps c.take_cells.ensures.moved);
    }

pub returns : goal.returns
returns c =
    let m = c.take_cells.ensures.moved in
    let core = ap (λ (s : Counted). s.core) c.take_cells.ensures.rest in
    record {
      script = record {
        lines = ap (λ (t : Terminal). t.lines) core;
        lag = ap (λ (t : Terminal). t.lag) core;
        size = ap (λ (t : Terminal). t.size) core;
        statuses = ap (λ (t : Terminal). t.statuses) core;
        total = ap (λ (s : Counted). s.total) c.take_cells.ensures.rest;
        lost = m.lost;
        items = refl;
      };
      landed = record { frames = refl; commands = refl; journal = refl; slots = refl; bytes = refl; refusals = refl };
      source = core;
      tx = refl;
      returns = m.same;
      received = m.received;
      moved = elim c.take_cells.ensures.until [
        | inl drained ↦ inl drained
        | inr full ↦ inr (full-come _ _
            (keeps-moved _ _ c.take_cells.new.source.inbox c.take_cells.new.back c.args.self.now.keeps m) full)
      ];
      taken = ap (λ (t : Terminal). told_taken c.take_cells.new.source.inbox.lost t.lag t.ticks
          (in_passed c.take_cells.new.back)) core
          ∙ told-moved _ _ c.take_cells.new.source.inbox c.take_cells.new.back c.args.self.now.keeps m;
    }
