-- All words are 0.
use Rattle.std.proofs.Common.{◌≡◌, List, ℕ, sym, subst}
use Rattle.terminal_group.specs.RefusalCodes.{code_at}
use Rattle.terminal_group.proofs.RefusalCodeLaws.{clear-words}
use Rattle.terminal_group.proofs.refusal_codes.RefusalCodes.none.Goals as goal

pub returns-clause-none : goal.returns-clause-none
returns-clause-none c number =
    let all = c.in_ok-vec.ensures.items_if_clones_equal (λ y h. h) in
    subst (λ (words : List ℕ). code_at words number ≡ 0) (sym all) (clear-words _ number)
