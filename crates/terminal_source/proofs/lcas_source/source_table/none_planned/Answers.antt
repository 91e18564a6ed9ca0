-- None of the 128 places is planned.
use Rattle.std.proofs.Common.{refl}
use Rattle.terminal_source.specs.lcas_source.TableFields.{none_planned}
use Rattle.terminal_source.proofs.lcas_source.source_table.none_planned.Goals as goal

pub returns : goal.returns
unfolding none_planned
returns c = refl
