-- The two words are those that the octets say.
use Rattle.std.proofs.Common.{◌≡◌, Some, None, refl, sym, ◌∙◌, ap}
use Rattle.gfp_headers.specs.TypeField.{field_fault_with}
use Rattle.gfp_headers.proofs.TypeHeaderLaws.{type_fault-check, type_fault-field, field_with-none}
use Rattle.gfp_headers.proofs.TypeHeaderLaws.{header_with-only, header_with-field, header_with-checked}
use Rattle.gfp_headers.proofs.type_header.read_with.Goals as goal

pub returns-then-said-found-clause-value : goal.returns-then-said-found-clause-value
returns-then-said-found-clause-value c =
    rw (type_fault-check c.args.pfi c.args.extension c.args.octets.now c.word-field.result c.word-said.result
    c.hec-found.result c.word-field.ensures c.word-said.ensures c.hec-found.ensures.value c.if-said-found.true) refl

pub returns-then-said-found-clause-ok : goal.returns-then-said-found-clause-ok
returns-then-said-found-clause-ok c = (
  λ no. absurd cc,
  λ h. absurd (c.if-said-found.true
      (header_with-checked c.args.pfi c.args.extension c.args.octets.now c.word-field.result c.word-said.result
      c.hec-found.result c.word-field.ensures c.word-said.ensures c.hec-found.ensures.value h)),
)

pub returns-in-None-clause-value : goal.returns-in-None-clause-value
returns-in-None-clause-value c =
    rw (type_fault-field c.args.pfi c.args.extension c.args.octets.now c.word-field.result c.word-said.result
    c.hec-found.result c.word-field.ensures c.word-said.ensures c.hec-found.ensures.value c.if-said-found.false
    ∙ sym c.fault_of_field.ensures ∙ c.in-None.is) refl

pub returns-in-None-clause-ok : goal.returns-in-None-clause-ok
returns-in-None-clause-ok c = (
  λ yes. header_with-only c.args.pfi c.args.extension c.args.octets.now c.word-field.result c.word-said.result
      c.hec-found.result c.told-octets c.fits-octets c.word-field.ensures c.word-said.ensures
      c.hec-found.ensures.value c.if-said-found.false (sym c.fault_of_field.ensures ∙ c.in-None.is),
  λ h. refl,
)

pub returns-in-Some-clause-value : goal.returns-in-Some-clause-value
returns-in-Some-clause-value c =
    rw (type_fault-field c.args.pfi c.args.extension c.args.octets.now c.word-field.result c.word-said.result
    c.hec-found.result c.word-field.ensures c.word-said.ensures c.hec-found.ensures.value c.if-said-found.false
    ∙ sym c.fault_of_field.ensures ∙ c.in-Some.is) refl

pub returns-in-Some-clause-ok : goal.returns-in-Some-clause-ok
returns-in-Some-clause-ok c = (
  λ no. absurd cc,
  λ h. (let none : Some c.in-Some.fault ≡ None = sym c.in-Some.is ∙ c.fault_of_field.ensures
      ∙ ap (field_fault_with c.args.pfi c.args.extension)
      (header_with-field c.args.pfi c.args.extension c.args.octets.now c.word-field.result c.word-field.ensures h)
      ∙ field_with-none c.args.pfi c.args.extension c.requires.pfi c.requires.extension in absurd cc),
)
