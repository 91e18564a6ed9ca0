-- No row has come.
use Rattle.std.proofs.Common.{refl}
use Rattle.fate_engine.specs.Common.{spoiled_runs}
use Rattle.fate_engine.proofs.fate_core.spoiled_runs.SpoiledRuns.new.Goals as goal

pub returns : goal.returns
unfolding spoiled_runs
returns c = record { count = refl; are = c.new.ensures.items }
