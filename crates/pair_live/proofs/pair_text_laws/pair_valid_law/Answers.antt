-- By the lines one after another.
use Rattle.pair_live.proofs.PairLineSayingsLaws.{scripts_pair}
use Rattle.pair_live.proofs.pair_text_laws.pair_valid_law.Goals as goal

pub returns : goal.returns
returns c = scripts_pair
