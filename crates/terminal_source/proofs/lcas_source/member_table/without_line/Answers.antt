-- What is retained is what the filter keeps.
use Rattle.std.proofs.Common.{rules}
use Rattle.arrayvec.proofs.ArrayVecLemmas.{filter-from_retain}
use Rattle.terminal_source.proofs.lcas_source.member_table.without_line.Goals as goal

pub returns : goal.returns
returns c = filter-from_retain _ _ _ (λ x b f' y called. search rules) _ _ c.retain.ensures.filtered
