-- The frames and flips that a text says, or its first fault.
use Rattle.std.specs.Prelude.{ℕ, List, length, All, Result}
use Rattle.text_lines.specs.LanguageTable.{said_in, formed}
use Rattle.text_lines.specs.declared.text_faults.LineFault.{LineFault}
use Rattle.gfp_noise.specs.flip_law.FlipPlaces.{LiesIn, IsRising}
use Rattle.gfp_noise.specs.flip_law.FlippedStream.{fcs_stream, IsFrame}
use Rattle.gfp_noise.specs.declared.noise_link.noise_keyword.NoiseKeyword.{NoiseKeyword}
use Rattle.gfp_noise.specs.declared.noise_link.noise_text_fault.NotRising.{NotRising}
use Rattle.gfp_noise.specs.declared.noise_link.noise_draft.NoiseDraft.{NoiseDraft}
use Rattle.gfp_noise.specs.declared.noise_link.noise_draft.Noise.{Noise}
use Rattle.gfp_noise.specs.noise_link.NoiseTextLines.{noise_table}

abbrev pub noise_in : NoiseDraft → Noise
noise_in d = record { frames = d.frames; flips = d.flips }

-- frames and flips, or the number of the first faulty line, counted from 1, and what is wrong with it
abbrev pub noise_of : List ℕ → Result Noise (ℕ × LineFault NoiseKeyword NotRising)
noise_of text = formed noise_in (said_in noise_table text)

-- each frame has 64 to 9,600 octets, and the flips lie in the stream of the frames and rise strictly
pub record IsNoise (noise : Noise) : Type 0 where
  pub frames : All IsFrame noise.frames
  pub flips : All (LiesIn (length (fcs_stream noise.frames))) noise.flips
  pub rising : IsRising 0 noise.flips
