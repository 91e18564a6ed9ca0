-- What is counted is the length, or more than can be read.
use Rattle.std.proofs.Common.{[], refl}
use Rattle.law_model.specs.Common.{Start}
use Rattle.text_scripts.specs.script_text.ScriptText.{script_text}
use Rattle.text_scripts.proofs.ScriptTextGrowthLaws.{count-tells}
use Rattle.text_scripts.proofs.script_text.write_script_text.is_too_long.Goals as goal

pub returns : goal.returns
returns c =
    let start : Start = record { octets = []; faults = 0; name = 0 } in
    count-tells (script_text c.args.script.now) c.add_script.new.out.octets (c.add_script.ensures start [] refl)
