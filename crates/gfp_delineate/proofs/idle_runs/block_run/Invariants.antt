-- Each block so far is eight times the word.
use Rattle.std.proofs.Common.{◌≡◌, ◌*◌, take}
use Rattle.std.specs.Int.{to_le_bytes, w64}
use Rattle.gfp_delineate.specs.Repeated.{repeated}
use Rattle.gfp_delineate.proofs.idle_runs.block_run.Given as goal

abbrev pub invariant-loop-i : goal.invariant-loop-i
invariant-loop-i l = take (64 * l.i) l.piece ≡ repeated (8 * l.i) (to_le_bytes w64 l.word)
