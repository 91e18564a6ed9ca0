-- Both directions of each law.
use Rattle.text_pairs.specs.PairTextLines.{of_script, no_division}
use Rattle.text_pairs.proofs.PairScriptReaderLaws.{told_line}
use Rattle.text_pairs.proofs.pair_script_laws.fault_law.Goals as goal

pub returns-clause-line : goal.returns-clause-line
returns-clause-line c = λ text number fault. told_line text number (of_script fault)

pub returns-clause-undivided : goal.returns-clause-undivided
returns-clause-undivided c = λ text number. told_line text number no_division
