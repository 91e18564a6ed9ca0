-- The counts of a stretch: from one tick on to below another. Frames that are offered count where they land, and those
-- that are carried in the row of their last octet.
use Rattle.std.specs.Prelude.{ℕ, zero, suc, ◌+◌, ◌-◌, nat_le, nat_lt, ◌&&◌, if◌then◌else◌, min, max, Bool}
use Rattle.std.specs.Prelude.{List, [], ◌∷◌, length, filter, take, drop}
use Rattle.fate_engine.specs.Common.{begun_before}
use Rattle.fate_service.specs.declared.landed_frames.OfferedFrame.{OfferedFrame}
use Rattle.fate_service.specs.declared.landed_frames.CarriedFrame.{CarriedFrame}
use Rattle.fate_service.specs.declared.row_states.RowState.{RowState}
use Rattle.fate_service.specs.declared.stretch_counts.Came.{Came}
use Rattle.fate_service.specs.declared.stretch_counts.Ended.{Ended}
use Rattle.fate_service.specs.declared.stretch_counts.Peak.{Peak}
use Rattle.fate_service.specs.declared.stretch_counts.Stretch.{Stretch}
use Rattle.fate_service.specs.FrameColumns.{no_frames, with_frame, with_frame_if}
use Rattle.fate_service.specs.RowStates.{dark_among}

-- a number from one on and below another
abbrev pub is_in : ℕ → ℕ → ℕ → Bool
is_in first end n = nat_le first n && nat_lt n end

-- ---- frames that landed
abbrev pub with_offered : Came → OfferedFrame → Came
with_offered came frame = record {
  offered = with_frame came.offered frame.octets;
  refused = with_frame_if frame.refused came.refused frame.octets;
}

unfoldable pub came_on : Came → List OfferedFrame → Came
came_on came [] = came
came_on came (frame ∷ frames) = came_on (with_offered came frame) frames

abbrev pub came_of : List OfferedFrame → Came
came_of frames = came_on (record { offered = no_frames; refused = no_frames }) frames

abbrev pub came_in : List OfferedFrame → ℕ → ℕ → Came
came_in offered first end = came_of (filter (λ (frame : OfferedFrame). is_in first end frame.due) offered)

-- ---- frames that were carried
-- the ticks from a frame's due tick to the row of its last octet
abbrev pub delay_of : CarriedFrame → ℕ
delay_of frame = frame.last - frame.due

abbrev pub with_carried : Ended → CarriedFrame → Ended
with_carried ended frame =
    if frame.got
    then record { got = with_frame ended.got frame.octets; lost = ended.lost; delay = max ended.delay (delay_of frame) }
    else record { got = ended.got; lost = with_frame ended.lost frame.octets; delay = ended.delay }

unfoldable pub ended_on : Ended → List CarriedFrame → Ended
ended_on ended [] = ended
ended_on ended (frame ∷ frames) = ended_on (with_carried ended frame) frames

abbrev pub ended_of : List CarriedFrame → Ended
ended_of frames = ended_on (record { got = no_frames; lost = no_frames; delay = 0 }) frames

abbrev pub ended_in : List CarriedFrame → ℕ → ℕ → Ended
ended_in carried first end = ended_of (filter (λ (frame : CarriedFrame). is_in first end frame.last) carried)

-- ---- the queue in a tick: the accepted frames that are due by then, less those whose piece begins before the place of
-- its row
abbrev pub queue_at : List ℕ → List (ℕ × ℕ) → ℕ → ℕ → ℕ
queue_at accepted sent place tick =
    length (filter (λ due. nat_le due tick) accepted) - begun_before place sent

-- where so many ticks were made: what was begun by then is all that is
abbrev pub queue_in : List ℕ → List (ℕ × ℕ) → (ℕ → ℕ) → ℕ → ℕ → ℕ
queue_in accepted sent place made tick = queue_at accepted sent (place (min made tick)) tick

-- the greater one of a queue and the greatest before it
abbrev pub higher : Peak → ℕ → ℕ → Peak
higher peak queue tick = if nat_lt peak.queue queue then record { queue = queue; tick = tick } else peak

-- the greatest of so many ticks from one on, and the first of them that has it
unfoldable pub peak_on : (ℕ → ℕ) → Peak → ℕ → ℕ → Peak
peak_on queue peak tick zero = peak
peak_on queue peak tick (suc n) = peak_on queue (higher peak (queue tick) tick) (tick + 1) n

abbrev pub peak_in : (ℕ → ℕ) → ℕ → ℕ → Peak
peak_in queue first end = peak_on queue (record { queue = 0; tick = first }) first (end - first)

-- ---- what is known of a walk, as plain data: the places at which rows begin, how many ticks were made, how many rows were
-- taken and what each is,
-- the frames that have landed, and the sides of the pieces of those that are begun
pub record Known : Type 0 where
  pub place : ℕ → ℕ
  pub ticks : ℕ
  pub rows : ℕ
  pub states : List RowState
  pub offered : List OfferedFrame
  pub accepted : List ℕ
  pub carried : List CarriedFrame
  pub sent : List (ℕ × ℕ)

-- the octets that rows had room for
abbrev pub capacity_in : (ℕ → ℕ) → ℕ → ℕ → ℕ → ℕ
capacity_in place rows first end = place (min rows end) - place (min rows first)

-- the dark rows
abbrev pub dark_in : List RowState → ℕ → ℕ → ℕ
dark_in states first end = dark_among (drop first (take end states))

abbrev pub stretch_of : Known → ℕ → ℕ → Stretch
stretch_of known first end = record {
  came = came_in known.offered first end;
  ended = ended_in known.carried first end;
  capacity = capacity_in known.place known.rows first end;
  peak = peak_in (queue_in known.accepted known.sent known.place known.ticks) first end;
  dark = dark_in known.states first end;
}

-- ---- the stretches of an interval, up to a tick: of at most so many
unfoldable pub spans_on : ℕ → ℕ → ℕ → ℕ → List (ℕ × ℕ)
spans_on zero interval first told = []
spans_on (suc n) interval first told =
    if nat_lt first told then (first, min told (first + interval)) ∷ spans_on n interval (first + interval) told else []

abbrev pub spans_of : ℕ → ℕ → List (ℕ × ℕ)
spans_of interval told = spans_on told interval 0 told

-- ---- the ticks that are told of: those that were made, and one more where a frame landed before it
unfoldable pub told_on : ℕ → List OfferedFrame → ℕ
told_on told [] = told
told_on told (frame ∷ frames) = told_on (max told (frame.due + 1)) frames
