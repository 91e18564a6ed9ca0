-- The first packet is popped.
use Rattle.std.proofs.Common.{List, ◌∙◌, ap, sym, slice_get, Some, option_map}
use Rattle.member_cells.specs.declared.containers_and_cells.BackCell.TheVariants.{Packet as Nibbles}
use Rattle.law_model.specs.declared.control_packet.Packet.{Packet}
use Rattle.walk_engine.specs.Common.{packet_cell}
use Rattle.walk_engine.proofs.walk_parts.return_ring.ReturnRing.pop.Goals as goal

pub returns-clause-cell : goal.returns-clause-cell
returns-clause-cell c =
    ap (λ n. Some (Nibbles n)) c.nibbles.ensures
    ∙ ap (option_map packet_cell) (sym c.in-Some.is ∙ c.pop_front.ensures.value)
    ∙ ap (λ (ring : List Packet). option_map packet_cell (slice_get ring 0)) c.self.view_is
