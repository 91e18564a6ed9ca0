-- A draft that passes the tests is a script that meets all that is said of one.
use Rattle.std.proofs.Common.{sym, ◌∙◌, ◌++◌, inr}
use Rattle.text_lines.specs.Language.{said_by}
use Rattle.text_scripts.specs.script_read.Script.{script_lines}
use Rattle.text_scripts.proofs.ScriptLineAndFirstFaultLaws.{end_fails, end_tested}
use Rattle.text_scripts.proofs.script_read.script_reader.ScriptReader.finish.Goals as goal

pub returns-in-Err-end-clause-fault : goal.returns-in-Err-end-clause-fault
returns-in-Err-end-clause-fault c text stands =
    inr (end_fails (said_by script_lines (text ++ c.args.piece.now)) c.read_rest.new.self.number
    c.read_rest.new.self.draft c.in-Err-end.fault (stands.said c.args.piece.now ∙ c.in-Ok.ensures.said)
    c.in-Err-end.ensures.fault)

pub returns-in-Some-clause-fault : goal.returns-in-Some-clause-fault
returns-in-Some-clause-fault c text stands =
    inr (end_tested (said_by script_lines (text ++ c.args.piece.now)) c.read_rest.new.self.number
    c.read_rest.new.self.draft c.in-Ok-end.script _ (stands.said c.args.piece.now ∙ c.in-Ok.ensures.said)
    c.in-Ok-end.ensures.whole c.in-Ok-end.ensures.script (sym c.limit_fault.ensures ∙ c.in-Some.is))

pub returns-in-None-clause-script : goal.returns-in-None-clause-script
returns-in-None-clause-script c text stands =
    end_tested (said_by script_lines (text ++ c.args.piece.now)) c.read_rest.new.self.number
    c.read_rest.new.self.draft c.in-Ok-end.script _ (stands.said c.args.piece.now ∙ c.in-Ok.ensures.said)
    c.in-Ok-end.ensures.whole c.in-Ok-end.ensures.script (sym c.limit_fault.ensures ∙ c.in-None.is)

pub returns-in-None-clause-valid : goal.returns-in-None-clause-valid
returns-in-None-clause-valid c = c.in-Ok-end.ensures.untested.valid (sym c.limit_fault.ensures ∙ c.in-None.is)
