-- Where a cursor is in the frames of a rate.
use Rattle.std.specs.Prelude.{◌≡◌, ℕ, ◌-◌, ◌%◌, ◌≤◌, List, length, map}
use Rattle.std.specs.List.{range_with_len}
use Rattle.law_rates.specs.Rates.{IsRate, RateFrame, count_of, frame_at, octets_before, state_of}
use Rattle.law_rates.specs.declared.number_draws.Draws.{Draws}
use Rattle.law_rates.specs.declared.rate_cursor.RatePlace.{RatePlace}
use Rattle.law_rates.specs.declared.rate_frames.Rate.{Rate}

-- a place is before a frame, or behind the last
pub record IsPlace (rate : Rate) (place : RatePlace) : Type 0 where
  pub within : place.number ≤ count_of rate
  pub turn : place.turn ≡ place.number % length rate.sizes
  pub octets : place.octets ≡ octets_before rate.sizes place.number

-- and the draws of that frame are next
pub record IsCursor (rate : Rate) (place : RatePlace) (draws : Draws) : Type 0 where
  pub fits : IsRate rate
  pub at : IsPlace rate place
  pub state : draws.state ≡ state_of rate place.number

-- the frames from a number on
unfoldable pub frames_from : Rate → ℕ → List RateFrame
frames_from rate k = map (frame_at rate) (range_with_len k (count_of rate - k))
