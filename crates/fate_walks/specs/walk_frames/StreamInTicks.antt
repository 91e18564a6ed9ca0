-- The stream of a leg in a number of ticks, after its first frames.
use Rattle.std.specs.Prelude.{◌≡◌, ℕ, ◌≤◌, ◌<◌, take, Some, slice_get}
use Rattle.law_model.specs.Common.{Leg, DueFrame, scenario_by, offers_of, Stream, place_of}
use Rattle.law_walk.specs.Common.{session_of, stream_met}

-- the place of the stream at which a row begins
abbrev pub place_in : Leg → ℕ → ℕ
place_in leg row = place_of (scenario_by leg) (session_of leg) row

-- the stream in a number of ticks, after the first frames
abbrev pub stream_in : Leg → ℕ → ℕ → Stream
stream_in leg ticks frames =
    stream_met (scenario_by leg) (session_of leg) ticks (take frames (offers_of leg.items))

-- the first frames are due by a tick
abbrev pub IsEarly : Leg → ℕ → ℕ → Type 0
IsEarly leg frames from = (j : ℕ) (offer : DueFrame) → j < frames →
    slice_get (offers_of leg.items) j ≡ Some offer → offer.due ≤ from

-- those after them aren't due before another
abbrev pub IsLate : Leg → ℕ → ℕ → Type 0
IsLate leg frames to = (j : ℕ) (offer : DueFrame) → frames ≤ j → slice_get (offers_of leg.items) j ≡ Some offer →
    to ≤ offer.due

pub record Between (leg : Leg) (frames from to : ℕ) : Type 0 where
  pub early : IsEarly leg frames from
  pub late : IsLate leg frames to
