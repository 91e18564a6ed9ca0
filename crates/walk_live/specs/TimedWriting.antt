-- What is written so far by a `TimedLines`, whose block and sink are lent.
use Rattle.std.specs.Prelude.{◌≡◌, ℕ, List, [], ◌∷◌, ◌++◌, Option, flat_map, codes, decimal}
use Rattle.hex.specs.Hex.{encode_lower}
use Rattle.law_model.specs.Common.{Start}
use Rattle.law_live.specs.Common.{got_at_text}
use Rattle.text_got.specs.TextSoFar.{Seen, WritesOrWaits, named, seen, told_of}
use Rattle.walk_live.specs.declared.timed_lines.TimedLines.{TimedLines}
use Rattle.walk_live.specs.declared.timed_lines.Whose.{Whose}
use Rattle.walk_live.specs.declared.timed_lines.Whose.TheVariants.{Walk, There, Back}

-- the lines of frames that come out in a tick
abbrev pub timed_texts : ℕ → List (List ℕ) → List ℕ
timed_texts ticks frames = flat_map (got_at_text ticks) frames

-- their first words; and the lines of any frames behind such words
abbrev pub got_words : Whose → List ℕ
got_words Walk = codes "got "
got_words There = codes "got there "
got_words Back = codes "got back "

abbrev pub worded_text : List ℕ → ℕ → List ℕ → List ℕ
worded_text words ticks frame = words ++ decimal ticks ++ codes " " ++ encode_lower frame ++ codes "\n"

abbrev pub worded_texts : List ℕ → ℕ → List (List ℕ) → List ℕ
worded_texts words ticks frames = flat_map (worded_text words ticks) frames

-- by which reference it writes, and in which block lines wait
abbrev pub out_of : {K : Type 0} → TimedLines K → ℕ
out_of lines = lines.out.ghost_name

abbrev pub block_of : {K : Type 0} → TimedLines K → ℕ
block_of lines = lines.block.ghost_name

-- a start: what the sink told, behind the name of the block and the ticks
abbrev pub timed_start : {K : Type 0} → (K → Option (List ℕ)) → (K → ℕ) → K → ℕ → ℕ → ℕ → Start
timed_start written faults first out block ticks =
    record { octets = block ∷ ticks ∷ named (written first); faults = faults first; name = out }

-- by these references, with these words and ticks, this text was written since the sink told this, or waits
pub record IsTimed {K : Type 0} (written : K → Option (List ℕ)) (faults : K → ℕ) (lines : TimedLines K)
    (sink waiting time : ℕ) (first_words : List ℕ) (first : Seen) (all : List ℕ) : Type 0 where
  pub out : lines.out.ghost_name ≡ sink
  pub block : lines.block.ghost_name ≡ waiting
  pub words : got_words lines.whose ≡ first_words
  pub ticks : lines.ticks ≡ time
  pub text : WritesOrWaits lines.failed first (seen (written lines.out.now) (faults lines.out.now)) lines.block.now all

abbrev pub IsTimedSince : {K : Type 0} → (K → Option (List ℕ)) → (K → ℕ) → TimedLines K → ℕ → ℕ → List ℕ → List ℕ →
    List ℕ → Type 0
IsTimedSince written faults lines out before [] words text = ⊥
IsTimedSince written faults lines out before (block ∷ []) words text = ⊥
IsTimedSince written faults lines out before (block ∷ (ticks ∷ octets)) words text =
    IsTimed written faults lines out block ticks words (seen (told_of octets) before) text

-- of a list the first text waited before, the second one has the first words of each line, and the others are frames,
-- of which the lines are written or wait
abbrev pub HasTimed : {K : Type 0} → (K → Option (List ℕ)) → (K → ℕ) → TimedLines K → Start → List (List ℕ) → Type 0
HasTimed written faults lines start [] = ⊥
HasTimed written faults lines start (waited ∷ []) = ⊥
HasTimed written faults lines start (waited ∷ (words ∷ frames)) =
    IsTimedSince written faults lines start.name start.faults start.octets words
    (waited ++ worded_texts words lines.ticks frames)
