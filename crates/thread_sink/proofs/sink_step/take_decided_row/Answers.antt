-- The row that is decided is taken, and its return packet sent.
use Rattle.std.proofs.Common.{◌≡◌, ◌+◌, ◌%◌, ◌<◌, ◌≤◌, ◌++◌, length, true, sym, ◌∙◌, ap, ap₂, subst}
use Rattle.thread_rings.specs.EndsOfRing.{out_free}
use Rattle.terminal_sink.specs.declared.sink_core.sink_terminal.TakeAnswer.TheVariants.{Taken}
use Rattle.terminal_sink.specs.sink_core.TakenAndGiven.{answer_by, back_at, rows_taken}
use Rattle.thread_sink.specs.ReceivedByRings.{received, back_cells, backs}
use Rattle.thread_sink.specs.Step.{packet_in}
use Rattle.thread_sink.proofs.SinkStepAndFrameLaws.{back-room, backs-more}
use Rattle.thread_sink.proofs.sink_step.take_decided_row.Goals as goal

pub returns-clause-keeps : goal.returns-clause-keeps
returns-clause-keeps g c none keeps =
    let cells = received c.args.rx.now in
    let t = c.args.core.now.taken in
    let options = c.args.core.now.options in
    let free = out_free c.has_room.new.back in
    let found : c.has_room.result ≡ true = (let open_ = c.if-not-has_room.false in cc) in
    let answer : c.take-answer.result ≡ Taken (back_at options cells t) =
    c.take-answer.ensures.answer cells keeps.gathers keeps.stands ∙ ap (λ o. answer_by o options cells t) none in
    let taken : c.take-answer.new.self.taken ≡ t + 1 = c.take-answer.ensures.taken
    ∙ ap (λ a. t + rows_taken a) answer in
    let packet : c.packet_of.result ≡ back_at options cells t = c.packet_of.ensures ∙ ap packet_in answer in
    let room : length (back_cells c.packet_of.result) ≤ free =
    subst (λ p. length (back_cells p) ≤ free) (sym packet)
    (back-room options cells t free (λ late last. c.has_room.ensures.room found (subst (λ n. 22 < n) (sym c.taken.ensures) late)
    (ap (λ n. n % 16) c.taken.ensures ∙ last))) in
    record {
      gathers = c.take-answer.ensures.gathers cells keeps.gathers;
      stands = c.take-answer.ensures.stands cells keeps.gathers keeps.stands;
      lines = c.take-answer.ensures.lines ∙ keeps.lines ∙ sym c.take-answer.ensures.own_lines;
      rings = keeps.rings ∙ sym c.take-answer.ensures.own_lines;
      rows = c.take-answer.ensures.rows;
      sent = c.send_back.ensures.sent room
          ∙ ap₂ (λ l p. l ++ back_cells p) (c.has_room.ensures.passed ∙ keeps.sent) packet
          ∙ sym (backs-more options cells t c.take-answer.new.self.taken taken)
          ∙ ap (λ options. backs options cells c.take-answer.new.self.taken) (sym c.take-answer.ensures.options);
    }
