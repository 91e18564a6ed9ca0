-- What is kept of rows that aren't whole.
use Rattle.std.specs.Prelude.{◌≡◌, ℕ, suc, ◌==◌, ◌&&◌, if◌then◌else◌, List, [], ◌∷◌, length, Option}
use Rattle.fate_engine.specs.declared.fate_law.Cause.{Cause}
use Rattle.fate_engine.specs.declared.fate_law.SpoiledRun.{SpoiledRun}
use Rattle.fate_engine.specs.fate_law.RowCauses.{same_cause, spoiled_runs}

-- how many rows there are, and the runs among them
pub record RunList : Type 0 where
  pub rows : ℕ
  pub runs : List SpoiledRun

-- they are those of rows with these causes
pub record AreRuns (runs : RunList) (causes : List (Option Cause)) : Type 0 where
  pub count : runs.rows ≡ length causes
  pub are : runs.runs ≡ spoiled_runs 0 causes

-- a row that isn't whole behind runs of rows before it
unfoldable pub with_row : ℕ → Cause → List SpoiledRun → List SpoiledRun
with_row row cause [] = record { first = row; end = suc row; cause = cause } ∷ []
with_row row cause (run ∷ []) =
    if run.end == row && same_cause run.cause cause then record { first = run.first; end = suc row; cause = run.cause }
    ∷ []
    else run ∷ record { first = row; end = suc row; cause = cause } ∷ []
with_row row cause (run ∷ next ∷ runs) = run ∷ with_row row cause (next ∷ runs)
