-- As in any language of lines.
use Rattle.text_lines.proofs.LineLanguageAndTableLaws.{first_fault}
use Rattle.text_live.specs.LiveLines.{live_lines}
use Rattle.text_live.proofs.live_laws.fault_law.Goals as goal

pub returns : goal.returns
returns c = first_fault live_lines
