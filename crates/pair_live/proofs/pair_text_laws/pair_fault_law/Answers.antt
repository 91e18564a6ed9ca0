-- As in any language of lines.
use Rattle.text_lines.proofs.LineLanguageAndTableLaws.{first_fault}
use Rattle.pair_live.specs.PairLines.{pair_lines}
use Rattle.pair_live.proofs.pair_text_laws.pair_fault_law.Goals as goal

pub returns : goal.returns
returns c = first_fault pair_lines
