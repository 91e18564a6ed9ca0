-- What the input says is a script.
use Rattle.std.proofs.lemmas.Result.{IfOk-weaker}
use Rattle.text_scripts.specs.script_read.Script.{script_of}
use Rattle.command_parts.proofs.SourceTextAndStopLaws.{said-script}
use Rattle.command_parts.proofs.script_of_input.read_whole_script.Goals as goal

pub returns-clause-script : goal.returns-clause-script
returns-clause-script g c =
    IfOk-weaker c.read_pieces.result _ _
    (λ script it. record { text = it.0; read = it.1; says = said-script (script_of it.0) script it.2 })
    c.read_pieces.ensures.said
