-- The configuration is whole, or it isn't.
use Rattle.std.proofs.Common.{sym, subst, arith}
use Rattle.text_scripts.specs.script_read.ScriptInPieces.{IsUntested}
use Rattle.text_scripts.proofs.ScriptLineAndFirstFaultLaws.{missing_told, config_whole}
use Rattle.text_scripts.proofs.ScriptDraftGrowthLaws.{IsUntested-draft}
use Rattle.text_scripts.proofs.script_read.script_reader.ScriptReader.end.Goals as goal

pub returns-then-self-lt6-clause-fault : goal.returns-then-self-lt6-clause-fault
returns-then-self-lt6-clause-fault c =
    missing_told c.args.self.number c.args.self.draft c.awaited.result (omega arith) c.awaited.ensures

pub returns-clause-whole : goal.returns-clause-whole
returns-clause-whole c = config_whole c.args.self.draft (omega arith)

pub returns-clause-untested : goal.returns-clause-untested
returns-clause-untested c =
    subst IsUntested (sym c.finished.ensures)
    (IsUntested-draft c.args.self.draft c.requires.reader.draft (omega arith))
