-- What is said before the first line.
use Rattle.std.proofs.Common.{sym, subst}
use Rattle.text_scripts.specs.script_read.Drafts.{IsDraft}
use Rattle.text_scripts.proofs.ScriptDraftGrowthLaws.{IsDraft-first}
use Rattle.text_scripts.proofs.script_read.script_reader.ScriptReader.new.Goals as goal

pub returns-clause-reader : goal.returns-clause-reader
returns-clause-reader c = record { draft = subst IsDraft (sym c.no_lines.ensures) IsDraft-first }
