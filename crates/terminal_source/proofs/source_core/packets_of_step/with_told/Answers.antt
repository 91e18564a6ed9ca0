-- Member status and RS-Ack are those of the return packet, and 0 where there is none.
use Rattle.std.proofs.Common.{ℕ, Bool, Some, sym, ◌∙◌, ap, arith}
use Rattle.law_model.specs.Common.{number_behind, telling, passed_on}
use Rattle.law_model.specs.declared.control_packet.Packet.{Packet}
use Rattle.terminal_source.proofs.SourceTerminalScenarioLaws.{mst-passed, rs_ack-passed}
use Rattle.terminal_source.proofs.source_core.packets_of_step.with_told.Goals as goal

-- a packet with these two fields
abbrev with_fields : Packet → ℕ → Bool → Packet
with_fields packet mst rs_ack = record packet { mst = mst; rs_ack = rs_ack }

pub returns-in-Some : goal.returns-in-Some
returns-in-Some c =
    let packet = c.args.packet in
    let told = c.in-Some.told in
    ap (λ mst. with_fields packet mst told.rs_ack) (sym (mst-passed told.mst (omega arith)))
    ∙ ap (with_fields packet (telling (passed_on (Some told)) packet).mst) (sym (rs_ack-passed told.rs_ack))
    ∙ ap (λ some. telling (passed_on some) packet) (sym c.in-Some.is)

pub returns-in-None : goal.returns-in-None
unfolding number_behind
returns-in-None c = ap (λ some. telling (passed_on some) c.args.packet) (sym c.in-None.is)
