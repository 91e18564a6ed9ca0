-- The lines of a noise's text, as a table. This language is this project's own.
use Rattle.std.specs.Prelude.{ℕ, ◌+◌, ◌-◌, ◌*◌, ◌/◌, ◌%◌, nat_lt, List, [], ◌∷◌, ◌++◌, length, Option, Some, None}
use Rattle.std.specs.Prelude.{codes, bytes_eq, if◌then◌else◌}
use Rattle.text_lines.specs.WordsOfLine.{word_at, number_at, octets_of}
use Rattle.text_lines.specs.Fields.{Field, within, digits, where_true}
use Rattle.text_lines.specs.Language.{Language}
use Rattle.text_lines.specs.LanguageTable.{Table, Told, language_of}
use Rattle.text_lines.specs.declared.text_faults.LineFault.{LineFault}
use Rattle.gfp_model.specs.declared.fcs_model.Flip.{Flip}
use Rattle.gfp_noise.specs.flip_law.FlipPlaces.{at}
use Rattle.gfp_noise.specs.declared.noise_link.noise_keyword.NoiseKeyword.{NoiseKeyword}
use Rattle.gfp_noise.specs.declared.noise_link.noise_keyword.NoiseKeyword.TheVariants as word
use Rattle.gfp_noise.specs.declared.noise_link.noise_text_fault.NotRising.{NotRising}
use Rattle.gfp_noise.specs.declared.noise_link.noise_draft.NoiseDraft.{NoiseDraft}
use Rattle.law_model.specs.Common.{longest_frame}

-- the words that may begin a line
abbrev pub keyword_of : List ℕ → Option NoiseKeyword
keyword_of w =
    if bytes_eq w (codes "frame") then Some word.Frame
    else if bytes_eq w (codes "flip") then Some word.Flip
    else None

-- no frame stands behind a flip
abbrev pub place : NoiseKeyword → ℕ
place word.Frame = 0
place word.Flip = 1

-- what the words after a keyword have to be: a frame's digits, or the place of an octet of the stream and of a bit in
-- it
abbrev pub fields : NoiseDraft → NoiseKeyword → List Field
fields d word.Frame = digits 64 longest_frame ∷ []
fields d word.Flip = within 0 (d.size - 1) ∷ within 0 7 ∷ []

-- the bit isn't behind that of the flip before
abbrev pub not_rising : NoiseDraft → NotRising
not_rising d = record { place = (d.least - 1) / 8; bit = (d.least - 1) % 8 }

abbrev pub early : NoiseDraft → NoiseKeyword → List (List ℕ) → Option NotRising
early d word.Frame ws = None
early d word.Flip ws = where_true (nat_lt (8 * number_at 0 ws + number_at 1 ws) d.least) (not_rising d)

-- ---- what a line without a fault says, and what it adds
abbrev pub frame_said : List (List ℕ) → List ℕ
frame_said ws = octets_of (word_at 0 ws)

abbrev pub flip_said : List (List ℕ) → Flip
flip_said ws = record { place = number_at 0 ws; bit = number_at 1 ws }

-- a frame is sent as twelve octets more than it has
abbrev pub with_frame : NoiseDraft → List ℕ → NoiseDraft
with_frame d frame = record d { size = d.size + (length frame + 12); frames = d.frames ++ frame ∷ [] }

abbrev pub with_flip : NoiseDraft → Flip → NoiseDraft
with_flip d flip = record d { least = at flip + 1; flips = d.flips ++ flip ∷ [] }

abbrev pub after : NoiseDraft → NoiseKeyword → List (List ℕ) → NoiseDraft
after d word.Frame ws = with_frame d (frame_said ws)
after d word.Flip ws = with_flip d (flip_said ws)

-- before the first line: the stream begins with two idles, of four octets each
abbrev pub at_first : NoiseDraft
at_first = record { size = 8; least = 0; frames = []; flips = [] }

-- ---- the table; no line has to be there
abbrev pub noise_table : Table NoiseDraft NoiseKeyword NotRising
noise_table = record {
  first = at_first;
  keyword = keyword_of;
  place = place;
  must = 0;
  awaited = λ next. word.Frame;
  fields = fields;
  own = early;
  after = after;
}

abbrev pub noise_lines : Language (Told NoiseDraft NoiseKeyword) (LineFault NoiseKeyword NotRising)
noise_lines = language_of noise_table
