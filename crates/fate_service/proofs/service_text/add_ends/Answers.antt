-- Text by text.
use Rattle.std.proofs.Common.{subst}
use Rattle.text_report.specs.TextCursor.{Extends}
use Rattle.fate_service.proofs.ServiceTextLaws.{extends-then}
use Rattle.fate_service.proofs.service_text.add_ends.Goals as goal

pub returns-clause-text : goal.returns-clause-text
returns-clause-text c =
    extends-then (extends-then (extends-then (extends-then (extends-then
    (extends-then c.add_left.ensures.text c.text.ensures) c.decimal.ensures.text) c.text-2.ensures)
    c.decimal-2.ensures.text) c.text-3.ensures)
    (subst (λ l. Extends c.text-3.new.self c.text-4.new.self l) c.truth.ensures.text c.text-4.ensures)
