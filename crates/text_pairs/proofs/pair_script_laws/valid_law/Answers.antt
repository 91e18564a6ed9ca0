-- By the lines of the text.
use Rattle.text_pairs.proofs.PairScriptReaderLaws.{valid_pair}
use Rattle.text_pairs.proofs.pair_script_laws.valid_law.Goals as goal

pub returns : goal.returns
returns c = valid_pair
