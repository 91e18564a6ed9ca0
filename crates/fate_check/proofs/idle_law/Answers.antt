-- The rows, and the tables that they stand on.
use Rattle.fate_check.proofs.IdleFailureRemovalLaws.{same-rows, same-table}
use Rattle.fate_check.proofs.idle_law.Goals as goal

pub returns : goal.returns
returns c = record {
  whole = λ scenario cells rows line t before after window there idle taken.
      same-rows scenario line before after window there cells rows t idle taken;
  tables = λ scenario cells line k windows. same-table scenario cells line k windows;
}
