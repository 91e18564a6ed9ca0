-- A packet ends with the row.
use Rattle.std.proofs.Common.{[], ◌∷◌, ◌++◌, Some, sym, ◌∙◌, ap, ap₂, subst}
use Rattle.law_model.specs.Common.{return_of}
use Rattle.terminal_sink.specs.lcas_sink.SinkStates.{SinkTableStands as HasTold}
use Rattle.terminal_sink.specs.sink_core.TakenAndGiven.{read_rows, packet_rows}
use Rattle.terminal_sink.proofs.ReceivedRowAndGivenFrameLaws.{packet-ends, read-more, length-read, packet_rows-more}
use Rattle.terminal_sink.proofs.ReceivedRowAndGivenFrameLaws.{packet_rows-between, governing-back, back-here}
use Rattle.terminal_sink.proofs.sink_core.sink_terminal.pass_row.Goals as goal

pub returns-then-ends_packet-clause-stands : goal.returns-then-ends_packet-clause-stands
returns-then-ends_packet-clause-stands c cells governs told =
    let t = c.args.t in
    let (late, last) = packet-ends t (sym c.ends_packet.ensures.value ∙ c.if-ends_packet.true) in
    let rows = read_rows cells (packet_rows t) in
    subst (HasTold c.packet_row.new.self)
    (ap (λ row. rows ++ row ∷ []) (governs ∙ governing-back cells t late last) ∙ sym (read-more cells (packet_rows t))
    ∙ ap (read_rows cells) (sym (packet_rows-more t late last)))
    (c.packet_row.ensures.stands rows told)

pub returns-then-ends_packet-clause-back : goal.returns-then-ends_packet-clause-back
returns-then-ends_packet-clause-back c cells governs told =
    let t = c.args.t in
    let (late, last) = packet-ends t (sym c.ends_packet.ensures.value ∙ c.if-ends_packet.true) in
    let rows = read_rows cells (packet_rows t) in
    ap Some (c.packet_row.ensures.packet rows told
    ∙ ap₂ (λ row n. return_of c.args.table.now.options (rows ++ row ∷ []) n) (governs ∙ governing-back cells t late last)
    (length-read cells (packet_rows t)))
    ∙ sym (back-here c.args.table.now.options cells t late last)

pub returns-else-ends_packet-clause-stands : goal.returns-else-ends_packet-clause-stands
returns-else-ends_packet-clause-stands c cells governs told =
    let t = c.args.t in
    subst (HasTold c.args.table.now)
    (ap (read_rows cells) (packet_rows-between t (sym c.ends_packet.ensures.value ∙ c.if-ends_packet.false))) told
