-- Text by text.
use Rattle.fate_service.proofs.ServiceTextLaws.{extends-then}
use Rattle.fate_service.proofs.service_text.add_came.Goals as goal

pub returns-clause-text : goal.returns-clause-text
returns-clause-text c =
    extends-then (extends-then (extends-then (extends-then (extends-then
    (extends-then c.decimal.ensures.text c.text.ensures) c.decimal-2.ensures.text) c.text-2.ensures)
    c.add_tally.ensures.text) c.text-3.ensures) c.add_tally-2.ensures.text
