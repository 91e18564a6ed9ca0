-- What reading a type header answers is its fault, or that it has none.
use Rattle.std.proofs.Common.{◌≡◌, [], ◌∷◌, Option, Some, None, refl, sym, ◌∙◌, ap, Result, Ok, Err, MatchOption}
use Rattle.law_model.specs.Common.{type_fault, outcome_by}
use Rattle.law_model.specs.declared.frame_faults.TypeFault.{TypeFault}
use Rattle.gfp_delineate.proofs.delineator.client_step.Goals as goal

-- what the answer of reading a type header says of it
type_right : (fault : Option TypeFault) (result : Result (Unit {0}) TypeFault) (unit : Unit {0}) → result ≡ Ok unit →
    MatchOption fault (result ≡ Ok tt) (λ fault. result ≡ Err fault) → fault ≡ None
type_right None result unit is answer = refl
type_right (Some fault) result unit is answer = absurd cc

type_wrong : (fault : Option TypeFault) (result : Result (Unit {0}) TypeFault) (found : TypeFault) →
    result ≡ Err found → MatchOption fault (result ≡ Ok tt) (λ fault. result ≡ Err fault) → fault ≡ Some found
type_wrong None result found is answer = absurd cc
type_wrong (Some fault) result found is answer = cc

pub returns-in-Ok-clause-outcome : goal.returns-in-Ok-clause-outcome
returns-in-Ok-clause-outcome c =
    ap (λ fault. outcome_by fault c.args.area.now ∷ [])
    (sym (ap type_fault (sym c.first_four.ensures)
    ∙ type_right (type_fault c.first_four.result) _ c.in-Ok.field-0 c.in-Ok.is c.read_type.ensures.value))

pub returns-in-Err-clause-outcome : goal.returns-in-Err-clause-outcome
returns-in-Err-clause-outcome c =
    ap (λ fault. outcome_by fault c.args.area.now ∷ [])
    (sym (ap type_fault (sym c.first_four.ensures)
    ∙ type_wrong (type_fault c.first_four.result) _ c.in-Err.fault c.in-Err.is c.read_type.ensures.value))
