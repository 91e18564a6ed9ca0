-- A client that keeps to a bucket, while some members at least carry payload.
use Rattle.std.specs.Prelude.{◌≡◌, ℕ, zero, suc, ◌+◌, ◌*◌, ◌<◌, ◌≤◌, List, [], fold, map, length, slice_get, All}
use Rattle.std.specs.Prelude.{Option, Some}
use Rattle.law_model.specs.Common.{Extent, client, shortest_frame, longest_frame, most_waiting, Leg, Scenario}
use Rattle.law_model.specs.Common.{scenario_by, frames_at, IsWithin, size, Stream, offered, stream_before, width, Told}
use Rattle.law_walk.specs.Common.{session_extents, place_after, session_of}

-- the octets on the stream of the frames that land before frame t is made, and not sooner
abbrev pub arrivals : Scenario → ℕ → ℕ
arrivals scenario t = size (map client (frames_at scenario t))

-- those of a number of ticks in turn
unfoldable pub arrivals_in : Scenario → ℕ → ℕ → ℕ
arrivals_in scenario from zero = 0
arrivals_in scenario from (suc count) = arrivals_in scenario from count + arrivals scenario (from + count)

-- the stream once they have landed
abbrev pub stream_at : Scenario → List (Option Told) → ℕ → Stream
stream_at scenario cells t = fold offered (stream_before scenario cells t) (frames_at scenario t)

-- how many octets may land at once, and how many more with each further tick; and how short a frame may be
pub record Bucket : Type 0 where
  pub burst : ℕ
  pub rate : ℕ
  pub shortest : ℕ

-- from a tick on a client keeps to a bucket that fits, while some members at least carry payload: that many carry the
-- rate, and the queue has room for a burst of the shortest frames. As that begins no frame waits, and at most eight
-- octets are left of what was begun, as of the two idles at the start of a stream
pub record KeepsTo (bucket : Bucket) (leg : Leg) (from members : ℕ) : Type 0 where
  pub none_waits : (stream_before (scenario_by leg) (session_of leg) from).waiting ≡ []
  pub little_left : size (stream_before (scenario_by leg) (session_of leg) from).pieces ≤ place_after leg from + 8
  pub carries : (t : ℕ) → from ≤ t → t < leg.config.ticks →
      members ≤ width (scenario_by leg) (session_of leg) t
  pub keeps : (t more : ℕ) → from ≤ t → t + more < leg.config.ticks →
      arrivals_in (scenario_by leg) t (suc more) ≤ bucket.burst + bucket.rate * more
  pub lengths : (t : ℕ) → from ≤ t → t < leg.config.ticks →
      All (λ (frame : List ℕ). IsWithin bucket.shortest longest_frame (length frame)) (frames_at (scenario_by leg) t)
  pub shortest : shortest_frame ≤ bucket.shortest
  pub rate : bucket.rate ≤ leg.config.size * members
  pub burst : bucket.burst ≤ most_waiting * (bucket.shortest + 8)

-- the accepted frame with a number lies in the rows from one on and before another
pub record LiesIn (leg : Leg) (number first end : ℕ) : Type 0 where
  pub extent : Extent
  pub is : slice_get (session_extents leg) number ≡ Some extent
  pub begins : place_after leg first ≤ extent.from
  pub ends : extent.to ≤ place_after leg end
