-- What the place adds isn't in the word yet.
use Rattle.std.proofs.Common.{◌+◌, ◌*◌, ◌^◌, ◌%◌, ap, ◌∙◌, arith}
use Rattle.std.proofs.lemmas.Nat.{shl_whole}
use Rattle.terminal_group.proofs.RefusalCodeLaws.{put-fits}
use Rattle.terminal_group.proofs.refusal_codes.with_code.Goals as goal

pub overflow_add-result : goal.overflow_add-result
overflow_add-result c =
    let whole = shl_whole c.args.code 2 (2 * c.args.place) 64 c.requires.code (omega (arith, c.requires.place)) in
    let low = put-fits 32 c.args.place c.args.word c.args.code c.requires.place c.ranges.word.fits c.requires.none
    c.requires.code in
    let from = ap (λ n. n * 2 ^ (2 * c.args.place) % 2 ^ 64) c.from.ensures in
    omega (arith, whole, low, from)

pub returns : goal.returns
returns c =
    ap (λ n. c.args.word + n * 2 ^ (2 * c.args.place) % 2 ^ 64) c.from.ensures
    ∙ ap (λ n. c.args.word + n)
    (shl_whole c.args.code 2 (2 * c.args.place) 64 c.requires.code (omega (arith, c.requires.place)))
