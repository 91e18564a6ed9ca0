-- What it is that lines add up.
use Rattle.std.specs.Prelude.{◌≡◌, ◌≢◌, ℕ, ◌+◌, ◌*◌, ◌<◌, ◌≤◌, List, [], ◌∷◌, length, sum_by, take, All}
use Rattle.std.specs.Prelude.{Some, slice_get, filter, nat_le, ◌&&◌}
use Rattle.fate_service.specs.declared.landed_frames.CarriedFrame.{CarriedFrame}
use Rattle.fate_service.specs.declared.landed_frames.Tally.{Tally}
use Rattle.fate_service.specs.declared.width_run.WidthRun.{WidthRun}
use Rattle.fate_service.specs.declared.stretch_counts.Peak.{Peak}
use Rattle.fate_service.specs.declared.stretch_counts.Stretch.{Stretch}
use Rattle.fate_service.specs.Stretches.{delay_of}

-- ---- one behind the other
-- parts follow each other from one number to another, and none of them is empty
unfoldable pub FollowOn : ℕ → List (ℕ × ℕ) → ℕ → Type 0
FollowOn from [] end = from ≡ end
FollowOn from (part ∷ parts) end = (part.0 ≡ from) × (part.0 < part.1) × FollowOn part.1 parts end

-- runs follow each other, each as long as the rows have its number
unfoldable pub AreRuns : (ℕ → ℕ) → ℕ → List WidthRun → ℕ → Type 0
AreRuns width from [] end = from ≡ end
AreRuns width from (run ∷ runs) end =
    (run.first ≡ from) × (run.first < run.end)
    × ((t : ℕ) → run.first ≤ t → t < run.end → width t ≡ run.members)
    × (run.end < end → width run.end ≢ run.members) × AreRuns width run.end runs end

-- ---- sums
-- of numbers of frames and of their octets
abbrev pub total_of : {X : Type 0} → (X → Tally) → List X → Tally
total_of column lines = record {
  frames = sum_by (λ line. (column line).frames) lines;
  octets = sum_by (λ line. (column line).octets) lines;
}

-- how many frames these are, and how many octets they have
abbrev pub tally_of : List (List ℕ) → Tally
tally_of frames = record { frames = length frames; octets = sum_by length frames }

-- the octets that carried frames take of the stream: eight more than each has
abbrev pub stream_octets : Stretch → ℕ
stream_octets counts =
    counts.ended.got.octets + counts.ended.lost.octets
    + 8 * (counts.ended.got.frames + counts.ended.lost.frames)

-- ---- the greatest
-- that of ticks from one on to below another, and the first of them that has it
pub record IsPeak (queue : ℕ → ℕ) (first end : ℕ) (peak : Peak) : Type 0 where
  pub from : first ≤ peak.tick
  pub below : peak.tick < end
  pub is : peak.queue ≡ queue peak.tick
  pub most : (t : ℕ) → first ≤ t → t < end → queue t ≤ peak.queue
  pub least : (t : ℕ) → first ≤ t → t < peak.tick → queue t < peak.queue

-- that of some peaks, and the first of them that is as great
pub record IsHighest (peaks : List Peak) (peak : Peak) : Type 0 where
  pub number : ℕ
  pub there : slice_get peaks number ≡ Some peak
  pub most : All (λ (other : Peak). other.queue ≤ peak.queue) peaks
  pub least : All (λ (other : Peak). other.queue < peak.queue) (take number peaks)

-- ---- delays
-- how many frames were got, and how many of them with a delay of at most so many ticks
abbrev pub got_count : List CarriedFrame → ℕ
got_count carried = length (filter (λ (frame : CarriedFrame). frame.got) carried)

abbrev pub got_within : List CarriedFrame → ℕ → ℕ
got_within carried most =
    length (filter (λ (frame : CarriedFrame). frame.got && nat_le (delay_of frame) most) carried)

-- at least so many of 100 frames that were got don't exceed it, and fewer don't exceed a smaller one
pub record IsLeastFor (carried : List CarriedFrame) (share delay : ℕ) : Type 0 where
  pub enough : share * got_count carried ≤ 100 * got_within carried delay
  pub less : (d : ℕ) → d < delay → 100 * got_within carried d < share * got_count carried
