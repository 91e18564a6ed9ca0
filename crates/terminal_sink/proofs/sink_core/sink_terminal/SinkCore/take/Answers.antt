-- A row is taken.
use Rattle.std.proofs.Common.{◌≡◌, ◌+◌, ◌++◌, length, drop, None, sym, ◌∙◌, ap, subst}
use Rattle.law_model.specs.Common.{first_open, governing, deliver, longest_frame}
use Rattle.terminal_sink.specs.declared.sink_core.sink_terminal.TakeAnswer.TheVariants.{Taken}
use Rattle.terminal_sink.specs.sink_core.TakenAndGiven.{received_rows, answer_at, added_frames}
use Rattle.terminal_sink.specs.sink_core.RowsInReceiver.{Receives}
use Rattle.terminal_sink.specs.sink_core.Core.{SinkStands}
use Rattle.terminal_sink.proofs.ReceivedRowAndGivenFrameLaws.{received-more, decided-none, decided-more, answer-taken}
use Rattle.terminal_sink.proofs.ReceivedRowAndGivenFrameLaws.{carriers-next}
use Rattle.terminal_sink.proofs.sink_core.sink_terminal.SinkCore.take.Goals as goal

pub returns-in-Row-clause-answer : goal.returns-in-Row-clause-answer
returns-in-Row-clause-answer g c cells gathers stands =
    let inside = c.self.inside in
    let before = subst (λ v. SinkStands v cells) (sym c.self.view_is) stands in
    let same : c.args.rows.now.rows ≡ inside.taken = c.requires.rows ∙ sym (ap (λ v. v.taken) c.self.view_is) in
    let none : first_open cells inside.taken ≡ None = ap (first_open cells) (sym same)
    ∙ sym (c.in-Row.ensures.answer cells gathers) in
    let governs : c.packets-packets.result.now ≡ governing cells (inside.taken + 1) =
    c.packets-packets.ensures.governing cells (c.advance.ensures.stands cells gathers)
    ∙ ap (governing cells) (c.advance.ensures.rows ∙ ap (λ n. n + 1) same) in
    subst (λ v. Taken c.pass_row-back.result ≡ answer_at v.options cells v.taken) c.self.view_is
    (answer-taken inside.table.options cells inside.taken c.pass_row-back.result none
    (c.pass_row-back.ensures.back cells governs before.table))

pub returns-in-Row-clause-stands : goal.returns-in-Row-clause-stands
returns-in-Row-clause-stands g c cells gathers stands =
    let inside = c.self.inside in
    let options = inside.table.options in
    let before = subst (λ v. SinkStands v cells) (sym c.self.view_is) stands in
    let same : c.args.rows.now.rows ≡ inside.taken = c.requires.rows ∙ sym (ap (λ v. v.taken) c.self.view_is) in
    let none : first_open cells inside.taken ≡ None = ap (first_open cells) (sym same)
    ∙ sym (c.in-Row.ensures.answer cells gathers) in
    let governs : c.packets-packets.result.now ≡ governing cells (inside.taken + 1) =
    c.packets-packets.ensures.governing cells (c.advance.ensures.stands cells gathers)
    ∙ ap (governing cells) (c.advance.ensures.rows ∙ ap (λ n. n + 1) same) in
    let carry = carriers-next options cells inside.taken _ (c.carriers.ensures.exact _ before.table) in
    record {
      lines = before.lines;
      receives = subst (λ options. Receives c.take_row.new.delineator
          (received_rows options inside.size cells (inside.taken + 1))) (sym c.pass_row-back.ensures.options)
          (subst (Receives c.take_row.new.delineator) (sym (received-more options inside.size cells inside.taken))
          (c.take_row.ensures.receives options cells (received_rows options inside.size cells inside.taken) gathers
          carry before.receives));
      table = c.pass_row-back.ensures.stands cells governs before.table;
      decided = decided-more cells inside.taken before.decided (decided-none cells inside.taken none);
    }

pub returns-in-Row-clause-gives : goal.returns-in-Row-clause-gives
returns-in-Row-clause-gives g c cells gathers stands start frames given =
    let inside = c.self.inside in
    let options = inside.table.options in
    let before = subst (λ v. SinkStands v cells) (sym c.self.view_is) stands in
    let carry = carriers-next options cells inside.taken _ (c.carriers.ensures.exact _ before.table) in
    let come = received_rows options inside.size cells inside.taken in
    let F = g.F.FrameOut.stands_for in
    subst (λ v. F c.take_row.new.out start (frames ++ added_frames v.options v.size cells v.taken (inside.taken + 1)))
    c.self.view_is
    (subst (λ rows. F c.take_row.new.out start
    (frames ++ drop (length (deliver longest_frame come)) (deliver longest_frame rows)))
    (sym (received-more options inside.size cells inside.taken))
    (c.take_row.ensures.gives options cells come gathers carry before.receives start frames given))
