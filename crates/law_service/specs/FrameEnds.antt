-- Where the frames of a client end on the stream, told as they land.
use Rattle.std.specs.Prelude.{ℕ, zero, suc, ◌+◌, List, [], ◌∷◌, ◌++◌, map, filter, Option}
use Rattle.law_model.specs.Common.{client, size_of, Leg, DueFrame, Scenario, scenario_by, comes_at, kept_by, size}
use Rattle.law_model.specs.Common.{Stream, frame_refusal, offered, stream_before, Told}
use Rattle.law_walk.specs.Common.{session_of}

-- the place at which a stream ends once the frames that wait are begun, with no idle among them
abbrev pub filled : Stream → ℕ
filled stream = size stream.pieces + size (map client stream.waiting)

-- a frame that was accepted: how many ticks were made when it landed; and the place at which its piece ends
pub record Placed : Type 0 where
  pub due : ℕ
  pub frame : List ℕ
  pub to : ℕ

-- one that a stream accepts comes behind all that the stream has
abbrev pub placed_by : Stream → DueFrame → Placed
placed_by stream offer =
    record { due = offer.due; frame = offer.frame; to = filled stream + size_of (client offer.frame) }

-- of offers that land one after the other those that are accepted
abbrev pub placed_offers : Stream → List DueFrame → List Placed
placed_offers stream [] = []
placed_offers stream (offer ∷ offers) =
    kept_by (frame_refusal offer.frame stream) (placed_by stream offer)
    (placed_offers (offered stream offer.frame) offers)

-- those that are accepted before frame t is made
unfoldable pub placed_before : Scenario → List (Option Told) → ℕ → List Placed
placed_before scenario cells zero = []
placed_before scenario cells (suc t) =
    placed_before scenario cells t
    ++ placed_offers (stream_before scenario cells t) (filter (comes_at t) scenario.offers)

-- all of a leg, in item order
abbrev pub placed_frames : Leg → List Placed
placed_frames leg = placed_before (scenario_by leg) (session_of leg) leg.config.ticks
