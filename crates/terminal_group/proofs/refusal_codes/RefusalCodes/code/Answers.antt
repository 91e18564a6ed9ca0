-- The bits of its place.
use Rattle.std.proofs.Common.{◌/◌, ◌%◌, List, ℕ, length, ap, ◌∙◌, arith}
use Rattle.terminal_group.specs.RefusalCodes.{code_in, code_at}
use Rattle.terminal_group.proofs.RefusalCodeLaws.{same-word, shifted}
use Rattle.terminal_group.proofs.refusal_codes.RefusalCodes.code.Goals as goal

pub returns : goal.returns
returns c =
    let words : List ℕ = c.self.inside.words.items in
    let size = ap length c.self.view_is in
    let is = c.index-word.ensures ∙ same-word words (c.args.number / 32) c.index-word.result.now
    (omega (arith, c.requires, size)) in
    shifted (c.args.number % 32) c.index-word.result.now ∙ ap (λ word. code_in word (c.args.number % 32)) is
    ∙ ap (λ (l : List ℕ). code_at l c.args.number) c.self.view_is
