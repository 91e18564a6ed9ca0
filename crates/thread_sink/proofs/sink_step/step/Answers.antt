-- A cell is popped, or a look for it missed.
use Rattle.std.proofs.Common.{inr, refl, sym, ◌∙◌, ap, arith}
use Rattle.law_model.specs.Common.{first_open}
use Rattle.thread_sink.specs.ReceivedByRings.{received}
use Rattle.thread_sink.proofs.SinkStepAndFrameLaws.{popped-more, later-cell, keeps-cell}
use Rattle.thread_sink.proofs.sink_step.step.Goals as goal

pub returns-then-take_cell-clause-later : goal.returns-then-take_cell-clause-later
returns-then-take_cell-clause-later g c =
    let line = c.in-Waiting.line in
    let there = c.in-Waiting.ensures.allows.0 in
    later-cell _ _ c.args.core.now _ _ c.args.back.now line (c.take_cell.ensures.took c.if-take_cell.true)
    (omega (arith, there, c.requires.lines, c.requires.rings)) c.take_cell.ensures.same

pub returns-then-take_cell-clause-keeps : goal.returns-then-take_cell-clause-keeps
returns-then-take_cell-clause-keeps g c keeps =
    keeps-cell c.args.rows.now c.take_cell.new.rows c.args.core.now c.args.rx.now.items _ c.args.back.now
    c.in-Waiting.line (c.take_cell.ensures.took c.if-take_cell.true) c.take_cell.ensures.same keeps

pub returns-then-take_cell-clause-does : goal.returns-then-take_cell-clause-does
returns-then-take_cell-clause-does g c keeps =
    let line = c.in-Waiting.line in
    let there = c.in-Waiting.ensures.allows.0 in
    let more = popped-more c.args.rows.now c.take_cell.new.rows c.args.rx.now.items c.take_cell.new.rx.items line
    (c.take_cell.ensures.took c.if-take_cell.true) (omega (arith, there, c.requires.lines, c.requires.rings)) in
    inr (omega (arith, more))

pub returns-else-take_cell-clause-does : goal.returns-else-take_cell-clause-does
returns-else-take_cell-clause-does g c keeps =
    let cells = received c.args.rx.now.items in (
      (refl, (c.take_cell.ensures.stays c.if-take_cell.false).0),
      sym (c.in-Waiting.ensures.answer cells keeps.gathers ∙ ap (first_open cells) c.requires.rows),
      c.take_cell.ensures.missed c.if-take_cell.false,
    )
