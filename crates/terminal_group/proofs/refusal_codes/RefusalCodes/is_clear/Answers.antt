-- A word that is 0 has no other code.
use Rattle.std.proofs.Common.{◌/◌, List, ℕ, length, sym, ap, ◌∙◌, arith, eqb-true}
use Rattle.terminal_group.specs.RefusalCodes.{code_at}
use Rattle.terminal_group.proofs.RefusalCodeLaws.{same-word, clear-word}
use Rattle.terminal_group.proofs.refusal_codes.RefusalCodes.is_clear.Goals as goal

pub returns : goal.returns
returns c clear other same =
    let words : List ℕ = c.self.inside.words.items in
    let size = ap length c.self.view_is in
    let is = c.index.ensures ∙ same-word words (c.args.number / 32) c.index.result.now (omega (arith, c.requires, size))
    in
    sym (ap (λ (l : List ℕ). code_at l other) c.self.view_is)
    ∙ clear-word words (c.args.number / 32) other (sym is ∙ eqb-true c.index.result.now 0 clear) same
