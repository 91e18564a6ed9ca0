-- What was read moves from the rest to the text before it.
use Rattle.std.proofs.Common.{◌≡◌, ◌⊎◌, ◌≤◌, ◌++◌, ◌∙◌, List, ℕ, take, drop, length, length-drop, Err, ap, subst}
use Rattle.std.proofs.Common.{arith}
use Rattle.std.proofs.lemmas.List.{take_all}
use Rattle.text_pairs.specs.PairOfText.{pair_of_halves}
use Rattle.text_pairs.specs.Pieces.{no_memory, said_after}
use Rattle.text_pairs.proofs.PairScriptReaderLaws.{follows_on, fails_on}
use Rattle.text_pairs.proofs.pair_reader.PairReader.read_on.Goals as goal

pub returns-in-Ok-from_slice-clause-follows : goal.returns-in-Ok-from_slice-clause-follows
returns-in-Ok-from_slice-clause-follows c all follows =
    let used : ℕ = c.in-Ok.used in
    follows_on c.args.self c.in-Ok.reader c.args.rest.items c.in-Ok-from_slice.left.items all used follows
    (c.in-Ok-from_slice.ensures.items
    ∙ take_all _ _ (omega (arith, length-drop used c.deref.result.now)) ∙ ap (drop used) c.deref.ensures.value)
    (subst (λ (t : List ℕ). used ≤ length t) c.as_slice.ensures.value c.in-Ok.ensures.within)
    c.in-Ok.ensures.count
    (subst (λ (t : List ℕ). (more : List ℕ) → said_after c.args.self (take used t ++ more)
    ≡ said_after c.in-Ok.reader more) c.as_slice.ensures.value c.in-Ok.ensures.said)

pub returns-clause-fault : goal.returns-clause-fault
returns-clause-fault c all follows =
    fails_on c.args.self c.args.rest.items all c.in-Err.fault follows
    (subst (λ (t : List ℕ). (c.in-Err.fault ≡ no_memory)
    ⊎ ((more : List ℕ) → pair_of_halves (said_after c.args.self (t ++ more)) ≡ Err c.in-Err.fault))
    c.as_slice.ensures.value c.in-Err.ensures.fault)
