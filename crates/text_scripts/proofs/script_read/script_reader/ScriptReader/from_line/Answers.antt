-- Nothing is said yet.
use Rattle.std.proofs.Common.{sym, subst, refl}
use Rattle.text_scripts.specs.script_read.Drafts.{IsDraft}
use Rattle.text_scripts.proofs.ScriptDraftGrowthLaws.{IsDraft-first}
use Rattle.text_scripts.proofs.script_read.script_reader.ScriptReader.from_line.Goals as goal

pub returns-clause-reader : goal.returns-clause-reader
returns-clause-reader c = record { draft = subst IsDraft (sym c.no_lines.ensures) IsDraft-first }

pub returns-clause-at : goal.returns-clause-at
returns-clause-at c = record { number = refl; draft = c.no_lines.ensures }
