-- What is written of frames whose stream is received with its flips. This text is this project's own.
use Rattle.std.specs.Prelude.{◌≡◌, ℕ, List, [], ◌∷◌, ◌++◌, length, drop, codes, decimal, take, replicate, Bool, false}
use Rattle.std.specs.List.{fold, flat_map}
use Rattle.text_report.specs.ReportLines.{got_texts}
use Rattle.gfp_model.specs.declared.fcs_model.FcsWhy.{FcsWhy}
use Rattle.gfp_model.specs.fcs_model.Fcs.{FcsOutcome, delivery, dropping, frame_in}
use Rattle.gfp_noise.specs.flip_law.FlipPlaces.{turned, flips_of}
use Rattle.gfp_noise.specs.flip_law.FlippedStream.{fcs_stream, AreFew, clear}
use Rattle.gfp_noise.specs.gfp_fcs.Delineator.{fcs_outcomes}
use Rattle.gfp_noise.specs.declared.noise_link.noise_draft.Noise.{Noise}

-- the stream as it is received: that of the frames, with its bits turned over one after another
unfoldable pub received : Noise → List ℕ
received noise = fold turned (fcs_stream noise.frames) noise.flips

-- ---- what comes of a stream
-- the frames that are delivered
abbrev pub delivered : List FcsOutcome → List (List ℕ)
delivered outcomes = flat_map frame_in outcomes

-- why frames are dropped
abbrev pub why_in : FcsOutcome → List FcsWhy
why_in (delivery frame) = []
why_in (dropping why) = why ∷ []

abbrev pub causes : List FcsOutcome → List FcsWhy
causes outcomes = flat_map why_in outcomes

-- ---- the text
abbrev pub counts_text : ℕ → ℕ → ℕ → ℕ → List ℕ
counts_text frames flips got dropped =
    codes "noise frames " ++ decimal frames ++ codes " flips " ++ decimal flips ++ codes " got " ++ decimal got
    ++ codes " dropped " ++ decimal dropped ++ codes "\n"

-- a line for each frame that is delivered, and the counts
abbrev pub outcomes_text : ℕ → ℕ → List FcsOutcome → List ℕ
outcomes_text frames flips outcomes =
    got_texts (delivered outcomes)
    ++ counts_text frames flips (length (delivered outcomes)) (length (causes outcomes))

abbrev pub noise_text : Noise → List ℕ
noise_text noise = outcomes_text (length noise.frames) (length noise.flips) (fcs_outcomes (received noise))

-- ---- single flips
-- the flips as bits of the stream
abbrev pub flip_bits : Noise → List Bool
flip_bits noise = flips_of (length (fcs_stream noise.frames)) noise.flips

-- the two idles have no flip, each other core header has one at most, and each area with the 43 area bits before it one
-- at most
pub record AreSingle (noise : Noise) : Type 0 where
  pub idles : take 64 (flip_bits noise) ≡ replicate 64 false
  pub few : AreFew [] (drop 64 (flip_bits noise)) noise.frames

-- the frames whose area and the 43 area bits before it have no flip
abbrev pub untouched : Noise → List (List ℕ)
untouched noise = clear [] (drop 64 (flip_bits noise)) noise.frames

-- what is then written: a line for each of these frames, and the counts
abbrev pub untouched_text : Noise → List ℕ
untouched_text noise =
    got_texts (untouched noise)
    ++ counts_text (length noise.frames) (length noise.flips) (length (untouched noise))
    (length (causes (fcs_outcomes (received noise))))
