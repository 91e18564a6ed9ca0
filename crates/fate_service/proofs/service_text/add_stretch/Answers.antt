-- Text by text.
use Rattle.fate_service.proofs.ServiceTextLaws.{extends-then}
use Rattle.fate_service.proofs.service_text.add_stretch.Goals as goal

pub returns-clause-text : goal.returns-clause-text
returns-clause-text c =
    extends-then (extends-then (extends-then (extends-then (extends-then
    (extends-then c.add_came.ensures.text c.add_carried.ensures.text) c.add_room.ensures.text) c.text.ensures)
    c.decimal.ensures.text) c.text-2.ensures) c.decimal-2.ensures.text
