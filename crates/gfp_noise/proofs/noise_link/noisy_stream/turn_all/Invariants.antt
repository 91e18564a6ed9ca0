-- The flips so far are done.
use Rattle.std.proofs.Common.{◌≡◌, take, fold}
use Rattle.gfp_noise.specs.flip_law.FlipPlaces.{turned}
use Rattle.gfp_noise.proofs.noise_link.noisy_stream.turn_all.Given as goal

abbrev pub invariant-loop-flip : goal.invariant-loop-flip
invariant-loop-flip l = l.stream ≡ fold turned l.fn.stream (take l.flip-index l.flips)
