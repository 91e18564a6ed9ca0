-- What an encoder of frames with an FCS has written.
use Rattle.std.specs.Prelude.{ℕ, List, map}
use Rattle.law_model.specs.Common.{joined}
use Rattle.gfp_scramble.specs.Scrambler.{Scrambling}
use Rattle.gfp_scramble.specs.Scrambler as scrambler
use Rattle.gfp_model.specs.fcs_model.Fcs.{fcs_area}

-- these frames were written: their areas were scrambled
abbrev pub EncoderStands : Scrambling → List (List ℕ) → Type 0
EncoderStands encoder frames = scrambler.ScramblerStands encoder (joined (map fcs_area frames))
