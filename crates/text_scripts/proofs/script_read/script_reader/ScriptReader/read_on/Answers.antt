-- What was read moves from the rest to the text before it.
use Rattle.std.proofs.Common.{◌≡◌, ◌⊎◌, ◌++◌, List, ℕ, take, Err, subst}
use Rattle.text_scripts.specs.declared.script_read.script_fault.ScriptFault.TheVariants.{Memory}
use Rattle.text_scripts.specs.script_read.Script.{script_of}
use Rattle.text_scripts.specs.script_read.ScriptInPieces.{ReaderStands}
use Rattle.text_scripts.proofs.ScriptLineAndFirstFaultLaws.{follows_on, fails_on}
use Rattle.text_scripts.proofs.script_read.script_reader.ScriptReader.read_on.Goals as goal

pub returns-in-Ok-clause-follows : goal.returns-in-Ok-clause-follows
returns-in-Ok-clause-follows c all follows =
    let used : ℕ = c.in-Ok.used in
    follows_on c.args.self c.read_lines.new.self c.args.rest.items c.without_front.result.items all used follows
    c.without_front.ensures
    (subst (λ (t : List ℕ). ReaderStands c.read_lines.new.self (follows.text ++ take used t)) c.as_slice.ensures.value
    (c.in-Ok.ensures.stands follows.text follows.stands))

pub returns-in-Err-clause-fault : goal.returns-in-Err-clause-fault
returns-in-Err-clause-fault c all follows =
    fails_on c.args.rest.items all c.in-Err.fault follows
    (subst (λ (t : List ℕ).
    (c.in-Err.fault ≡ Memory) ⊎ ((more : List ℕ) → script_of (follows.text ++ (t ++ more)) ≡ Err c.in-Err.fault))
    c.as_slice.ensures.value (c.in-Err.ensures.fault follows.text follows.stands))
