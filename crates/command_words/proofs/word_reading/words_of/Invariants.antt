-- The words so far are copied.
use Rattle.std.proofs.Common.{◌≡◌, map, take, string_bytes}
use Rattle.command_words.proofs.word_reading.words_of.Given as goal

abbrev pub invariant-loop-value : goal.invariant-loop-value
invariant-loop-value l = map string_bytes l.words.items ≡ map (λ value. value.now) (take l.value-index l.values)
