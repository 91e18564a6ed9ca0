-- What a receiver of frames with channel numbers knows of the octets of a segment that have come.
use Rattle.std.specs.Prelude.{ℕ, ⊤, ◌&&◌, nat_le, Bool, false, List, [], ◌∷◌, length, map, take, drop, Option, Some}
use Rattle.std.specs.Prelude.{None, if◌then◌else◌, option_to_list}
use Rattle.gfp_model.specs.declared.linear_model.LinearWhy.{LinearWhy}
use Rattle.gfp_model.specs.declared.linear_model.LinearWhy.TheVariants.{Unsettled, TooLong}
use Rattle.gfp_model.specs.linear_model.ChannelArea.{LinearOutcome, delivery, dropping, by_type, linear_type_fault}
use Rattle.gfp_delineate.specs.declared.hunt_presync_sync.AreaWhy.{AreaWhy}
use Rattle.gfp_delineate.specs.declared.hunt_presync_sync.AreaWhy.TheVariants.{Unsettled as NotSettled, TooLong as IsLong}
use Rattle.gfp_delineate.specs.ReceivedAreas.{AreaEnd, keeping, passing, Progress, IsAt}
use Rattle.gfp_channels.specs.declared.gfp_linear.linear_delineator.LinearStep.{LinearStep}
use Rattle.gfp_channels.specs.declared.gfp_linear.linear_delineator.LinearStep.TheVariants.{Nothing, Frame, Dropped}
use Rattle.law_model.specs.Common.{longest_extended_area}

-- how far a receiver is, and whether the last `byte` or `feed` completed the frame in the area that it keeps
pub record LinearReceiver : Type 0 where
  pub progress : Progress
  pub holds : Bool

-- the frame that the last `byte` or `feed` completed
abbrev pub frame_of : LinearReceiver → Option (List ℕ)
frame_of receiver =
    if receiver.holds && nat_le 8 (length receiver.progress.area) then Some (drop 8 receiver.progress.area) else None

-- an answer that tells of a frame
abbrev pub IsFrame : LinearStep → Type 0
IsFrame Nothing = ⊥
IsFrame (Frame cid) = ⊤
IsFrame (Dropped why) = ⊥

-- the outcomes that an answer tells, where this frame is held
abbrev pub outcomes_told : Option (List ℕ) → LinearStep → List LinearOutcome
outcomes_told frame Nothing = []
outcomes_told frame (Frame cid) = map (delivery cid) (option_to_list frame)
outcomes_told frame (Dropped why) = dropping why ∷ []

abbrev pub told_linear : LinearReceiver → LinearStep → List LinearOutcome
told_linear receiver step = outcomes_told (frame_of receiver) step

-- what comes of an area by how it ended
abbrev pub why_of : AreaWhy → LinearWhy
why_of NotSettled = Unsettled
why_of (IsLong pli) = TooLong pli

abbrev pub linear_of_end : AreaEnd → LinearOutcome
linear_of_end (keeping area) = by_type (linear_type_fault (take 4 area)) area
linear_of_end (passing why) = dropping (why_of why)

-- these octets of a segment have come, which is the first one of its stream or a later one
abbrev pub StandsIn : LinearReceiver → Bool → List ℕ → Type 0
StandsIn receiver first octets = IsAt receiver.progress longest_extended_area false first octets
