-- The octets so far are the word, again and again.
use Rattle.std.proofs.Common.{◌≡◌, ◌*◌, take}
use Rattle.std.specs.Int.{to_le_bytes, w64}
use Rattle.gfp_delineate.specs.Repeated.{repeated}
use Rattle.gfp_delineate.proofs.idle_runs.few_words.Given as goal

abbrev pub invariant-loop-i : goal.invariant-loop-i
invariant-loop-i l = take (8 * l.i) l.piece ≡ repeated l.i (to_le_bytes w64 l.word)
