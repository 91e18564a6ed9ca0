-- The very header has no fault, and any other is read as one with these two fields.
use Rattle.std.proofs.Common.{◌≡◌, sym, refl, ◌∙◌, rules}
use Rattle.law_model.specs.Common.{type_header}
use Rattle.gfp_headers.proofs.TypeHeaderLaws.{header-plain, type_fault-plain, type_fault-none, type_check-right}
use Rattle.gfp_headers.proofs.type_header.read_type.Goals as goal

pub returns-clause-value : goal.returns-clause-value
returns-clause-value c = rw (type_fault-plain c.args.octets.now) c.read_with.ensures.value

pub returns-clause-ok : goal.returns-clause-ok
returns-clause-ok c = (rw (sym header-plain) c.read_with.ensures.ok)

pub returns-then-eq-clause-value : goal.returns-then-eq-clause-value
returns-then-eq-clause-value c =
    let same : c.args.octets.now ≡ type_header = search rules in
    rw (type_fault-none c.args.octets.now same) refl

pub returns-then-eq-clause-check : goal.returns-then-eq-clause-check
returns-then-eq-clause-check c said found =
    let same : c.args.octets.now ≡ type_header = search rules in (
      λ no. absurd cc,
      λ h. absurd (h.2 (h.0 ∙ type_check-right c.args.octets.now same ∙ sym h.1)),
    )
