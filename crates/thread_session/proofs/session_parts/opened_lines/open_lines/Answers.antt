-- One line more is opened.
use Rattle.std.proofs.Common.{ℕ, ◌∙◌, ap, subst, arith}
use Rattle.thread_session.specs.session_parts.LinesOpened.{slots_of, IsLineOpened}
use Rattle.thread_session.proofs.OpenedLineAndGroupLaws.{none-opened, opened-more}
use Rattle.thread_session.proofs.session_parts.opened_lines.open_lines.Goals as goal

pub loop-line-init : goal.loop-line-init
loop-line-init c = record {
  are = rw (c.in_ok-tx.ensures.items, c.in_ok-workers.ensures.items, c.in_ok-rx.ensures.items)
      (none-opened c.args.config.now);
  tx = omega (arith, c.in_ok-tx.ensures.capacity);
  workers = omega (arith, c.in_ok-workers.ensures.capacity);
  rx = omega (arith, c.in_ok-rx.ensures.capacity);
}

pub loop-line-preserved : goal.loop-line-preserved
loop-line-preserved c =
    let config = c.args.config.now in
    let line = c.loop-line.line in
    record {
      are = rw (
        c.push_reserved.ensures.items,
        c.push_reserved-in-loop-line.ensures.items,
        c.push_reserved-in-loop-line-2.ensures.items,
      )
          (opened-more config line c.loop-line.tx.items _ c.loop-line.rx.items _ _ _ c.loop-line.invariant.are
          (subst (λ (n : ℕ). IsLineOpened config line n c.in_ok-out.out c.in_ok-out.worker c.in_ok-out.into)
          (c.slots-slots.ensures ∙ ap (slots_of config) c.from.ensures) c.in_ok-out.ensures));
      tx = omega arith;
      workers = omega arith;
      rx = omega arith;
    }
