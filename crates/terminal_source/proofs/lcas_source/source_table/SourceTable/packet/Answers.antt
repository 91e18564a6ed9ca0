-- The fields of the packet are what the table and the bits of the group tell of the line.
use Rattle.std.proofs.Common.{◌<◌, ◌-◌, sym, ◌∙◌, ap, subst}
use Rattle.law_model.specs.Common.{Course, forward_packet}
use Rattle.terminal_source.proofs.MemberOrderExchangeLaws.{packet-fields}
use Rattle.terminal_source.proofs.lcas_source.source_table.SourceTable.packet.Goals as goal

pub returns : goal.returns
returns c =
    let f = c.self.inside in
    packet-fields f.table c.args.line f.steps f.bits c.change_bit.result c.first.result c.place-ctrl.result.1
    c.active_count.result c.place-ctrl.result.0
    (subst (λ (course : Course). 0 < course.steps) (sym c.self.view_is) c.requires) c.self.invariant.bits
    c.change_bit.ensures c.place-ctrl.ensures.sq c.place-ctrl.ensures.ctrl
    c.first.ensures c.active_count.ensures
    ∙ ap (λ (course : Course). forward_packet course.source.table c.args.line (course.steps - 1)) c.self.view_is
