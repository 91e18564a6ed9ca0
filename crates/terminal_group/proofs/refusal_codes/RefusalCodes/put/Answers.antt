-- The bits of its place were 0.
use Rattle.std.proofs.Common.{◌≡◌, ◌+◌, ◌*◌, ◌^◌, ◌/◌, ◌%◌, ◌<◌, List, ℕ, get_or, set, length, ap, ◌∙◌, arith}
use Rattle.terminal_group.specs.RefusalCodes.{code_in, code_at}
use Rattle.terminal_group.proofs.RefusalCodeLaws.{same-word, word-here, word-other}
use Rattle.terminal_group.proofs.refusal_codes.RefusalCodes.put.Goals as goal

-- by the words that are kept
inside : (now words : List ℕ) (number : ℕ) → words ≡ now → number < 32 * length now → number < 32 * length words
inside now words number same low = let size = ap length same in omega (arith, size, low)

word-is : (words : List ℕ) (number word : ℕ) → word ≡ get_or words (number / 32) word → number < 32 * length words →
    word ≡ get_or words (number / 32) 0
word-is words number word is low = is ∙ same-word words (number / 32) word (omega (arith, low))

pub with_code-requires-clause-none : goal.with_code-requires-clause-none
with_code-requires-clause-none c =
    let words : List ℕ = c.self.inside.words.items in
    let low = inside c.args.self.now words c.args.number c.self.view_is c.requires.room in
    ap (λ word. code_in word (c.args.number % 32))
    (word-is words c.args.number c.index.result.now c.index.ensures low)
    ∙ ap (λ (l : List ℕ). code_at l c.args.number) c.self.view_is ∙ c.requires.none

pub returns-clause-put : goal.returns-clause-put
returns-clause-put c =
    let words : List ℕ = c.self.inside.words.items in
    let n : ℕ = c.args.number in
    let low = inside c.args.self.now words n c.self.view_is c.requires.room in
    ap (λ word. code_at (set words (n / 32) word) n) (c.with_code.ensures
    ∙ ap (λ word. word + c.args.code * 2 ^ (2 * (n % 32))) (word-is words n c.index.result.now c.index.ensures low))
    ∙ word-here words n c.args.code low (ap (λ (l : List ℕ). code_at l n) c.self.view_is ∙ c.requires.none)
    c.requires.code

pub returns-clause-others : goal.returns-clause-others
returns-clause-others c other apart =
    let words : List ℕ = c.self.inside.words.items in
    let n : ℕ = c.args.number in
    let low = inside c.args.self.now words n c.self.view_is c.requires.room in
    ap (λ word. code_at (set words (n / 32) word) other) (c.with_code.ensures
    ∙ ap (λ word. word + c.args.code * 2 ^ (2 * (n % 32))) (word-is words n c.index.result.now c.index.ensures low))
    ∙ word-other words n c.args.code other low
    (ap (λ (l : List ℕ). code_at l n) c.self.view_is ∙ c.requires.none) c.requires.code apart
    ∙ ap (λ (l : List ℕ). code_at l other) c.self.view_is
