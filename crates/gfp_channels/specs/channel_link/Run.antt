-- What a run has in hand, as it is made and written, and what was received so far, as private clauses say it.
use Rattle.std.specs.Prelude.{◌≡◌, ℕ, ◌+◌, ◌-◌, nat_le, Bool, true, false, List, [], ◌∷◌, ◌++◌, length, take, drop}
use Rattle.std.specs.Prelude.{Option, if◌then◌else◌, flat_map}
use Rattle.law_model.specs.Common.{Start, Segment}
use Rattle.text_got.specs.TextSoFar.{HasText}
use Rattle.gfp_model.specs.declared.linear_model.Cut.{Cut}
use Rattle.gfp_model.specs.linear_model.ChannelArea.{LinearOutcome, frame_in, linear_outcomes}
use Rattle.gfp_model.specs.linear_model.Channels.{silent}
use Rattle.gfp_channels.specs.gfp_linear.Queue.{Queued, unbegun}
use Rattle.gfp_channels.specs.gfp_linear.Delineator.{LinearReceiver, StandsIn}
use Rattle.gfp_channels.specs.declared.channel_link.channel_draft.ChannelPlan.{ChannelPlan}
use Rattle.gfp_channels.specs.declared.channel_link.channel_run.Refusal.{Refusal}
use Rattle.gfp_channels.specs.declared.channel_link.channel_reception.Reception.{Reception}
use Rattle.gfp_channels.specs.channel_link.ChannelReportText.{after_offers, got_text, refused}

-- ---- before the stream begins
-- the channels with their frames, those that were refused, and the receiver
pub record Prepared : Type 0 where
  pub queue : Queued
  pub refused : List Refusal
  pub receiver : LinearReceiver

-- all frames of a plan were offered, and nothing of their stream has come
pub record IsReady (run : Prepared) (plan : ChannelPlan) : Type 0 where
  pub queue : run.queue ≡ unbegun (after_offers (silent plan.channels) plan.offers)
  pub refused : run.refused ≡ refused plan
  pub receiver : StandsIn run.receiver true []

-- ---- while it comes
-- the segment that goes on behind octets of which the first has a place
unfoldable pub open_segment : ℕ → Bool → List Cut → List ℕ → Segment
open_segment place first [] octets = record { first = first; base = place; octets = octets }
open_segment place first (cut ∷ cuts) octets =
    if nat_le (length octets) (cut.first - place) then record { first = first; base = place; octets = octets }
    else open_segment cut.end false cuts (drop (cut.end - place) octets)

-- it has an octet more
abbrev pub longer_by : Segment → ℕ → Segment
longer_by segment o = record { first = segment.first; base = segment.base; octets = segment.octets ++ o ∷ [] }

-- what came of the segments that end before it
unfoldable pub ended_outcomes : ℕ → Bool → List Cut → List ℕ → List LinearOutcome
ended_outcomes place first [] octets = []
ended_outcomes place first (cut ∷ cuts) octets =
    if nat_le (length octets) (cut.first - place) then []
    else linear_outcomes first (take (cut.first - place) octets)
    ++ ended_outcomes cut.end false cuts (drop (cut.end - place) octets)

-- how many cuts end by a place
unfoldable pub ended_by : ℕ → List Cut → ℕ
ended_by place [] = 0
ended_by place (cut ∷ cuts) = if nat_le cut.end place then ended_by place cuts + 1 else 0

-- the octets of a segment came, after others that brought outcomes: the lines of the frames that were delivered were
-- written since a start, or wait, and the frames are counted
pub record ReceivedIn {K : Type 0} (written : K → Option (List ℕ)) (faults : K → ℕ) (reception : Reception K)
    (start : Start) (before : List LinearOutcome) (segment : Segment) : Type 0 where
  pub stands : StandsIn reception.delineator segment.first segment.octets
  pub text : HasText written faults reception.lines start
      (flat_map got_text (flat_map frame_in (before ++ linear_outcomes segment.first segment.octets)))
  pub got : reception.got ≡ length (flat_map frame_in (before ++ linear_outcomes segment.first segment.octets))

-- these octets were sent with the cuts of their stream
pub record Received {K : Type 0} (written : K → Option (List ℕ)) (faults : K → ℕ) (reception : Reception K)
    (start : Start) (cuts : List Cut) (sent : List ℕ) : Type 0 where
  pub place : reception.place ≡ length sent
  pub ended : reception.ended ≡ ended_by (length sent) cuts
  pub goes_on : ReceivedIn written faults reception start (ended_outcomes 0 true cuts sent)
      (open_segment 0 true cuts sent)
