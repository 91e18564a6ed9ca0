-- A session whose packets tell something else.
use Rattle.std.specs.Prelude.{List}
use Rattle.law_model.specs.Common.{Scenario, Told}

abbrev pub telling_of : Scenario → List Told → Scenario
telling_of scenario tells = record scenario { tells = tells }
