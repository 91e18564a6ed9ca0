-- Each of the 128 places is without a status.
use Rattle.std.proofs.Common.{refl}
use Rattle.law_model.specs.Common.{none_kept}
use Rattle.terminal_source.proofs.lcas_source.member_table.unknown.Goals as goal

pub returns : goal.returns
unfolding none_kept
returns c = refl
