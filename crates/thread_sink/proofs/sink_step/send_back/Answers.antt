-- The return cell of the packet is pushed.
use Rattle.std.proofs.Common.{◌≡◌, [], ◌∷◌, ◌++◌, sym, ◌∙◌, ap, ap₂}
use Rattle.member_cells.specs.declared.containers_and_cells.BackCell.TheVariants.{Packet as PacketCell}
use Rattle.thread_sink.specs.ReceivedByRings.{back_cells}
use Rattle.thread_sink.proofs.sink_step.send_back.Goals as goal

pub returns-then-ready-clause-sent : goal.returns-then-ready-clause-sent
returns-then-ready-clause-sent c room =
    let e : back_cells c.args.packet ≡ PacketCell c.nibbles.result ∷ [] =
    ap back_cells c.in-Some.is ∙ ap (λ n. PacketCell n ∷ []) (sym c.nibbles.ensures) in
    c.push.ensures.passed ∙ ap₂ (λ l cells. l ++ cells) c.ready.ensures.passed (sym e)
