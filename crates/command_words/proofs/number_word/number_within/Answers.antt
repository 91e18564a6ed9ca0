-- A value beyond the bound stays there.
use Rattle.std.proofs.Common.{◌+◌, ◌-◌, ◌*◌, slice_index_or, rules}
use Rattle.command_words.proofs.NumberTooLargeLaws.{too_large}
use Rattle.command_words.proofs.number_word.number_within.Goals as goal

pub returns-then-next-from-clause-value : goal.returns-then-next-from-clause-value
returns-then-next-from-clause-value c =
    too_large c.args.least c.args.most c.loop-c.n
    (10 * c.loop-c.n + (slice_index_or c.args.word.now c.loop-c.c-index 0 - 48)) c.loop-c.c-index 0 c.args.word.now
    c.loop-c.invariant.value
    (search rules) (search rules) (search rules)
