-- A list with one call more is one more step of the fold over it.
use Rattle.std.proofs.Common.{[], ◌∷◌}
use Rattle.std.proofs.lemmas.List.Sums.{fold-append}
use Rattle.law_model.specs.source.Course.{begun}
use Rattle.law_model.specs.Common.{called}
use Rattle.terminal_source.proofs.lcas_source.calls_law.Goals as goal

pub returns : goal.returns
returns c = λ lines statuses calls call. fold-append called (begun lines statuses) calls (call ∷ [])
