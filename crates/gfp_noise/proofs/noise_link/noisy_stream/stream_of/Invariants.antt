-- The stream has the frames so far.
use Rattle.std.proofs.Common.{◌≡◌, take}
use Rattle.gfp_noise.specs.flip_law.FlippedStream.{fcs_stream}
use Rattle.gfp_noise.specs.gfp_fcs.Encoder.{EncoderStands}
use Rattle.gfp_noise.proofs.noise_link.noisy_stream.stream_of.Given as goal

abbrev pub invariant-loop-frame : goal.invariant-loop-frame
invariant-loop-frame l = record {
  octets : l.stream.items ≡ fcs_stream (take l.frame-index l.frames);
  stands : EncoderStands l.encoder (take l.frame-index l.frames);
}
