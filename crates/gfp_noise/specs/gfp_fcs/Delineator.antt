-- What a receiver of frames with an FCS knows of the octets of a stream that have come.
use Rattle.std.specs.Prelude.{ℕ, ◌-◌, ◌&&◌, nat_le, Bool, true, List, [], ◌∷◌, length, map, take, drop, Option, Some}
use Rattle.std.specs.Prelude.{None, if◌then◌else◌, option_to_list}
use Rattle.law_model.specs.Common.{head, outcomes_with, longest_extended_area}
use Rattle.gfp_model.specs.declared.fcs_model.FcsWhy.{FcsWhy}
use Rattle.gfp_model.specs.declared.fcs_model.FcsWhy.TheVariants.{Unsettled, TooLong}
use Rattle.gfp_model.specs.fcs_model.NearHeader.{near}
use Rattle.gfp_model.specs.fcs_model.Fcs.{FcsOutcome, delivery, dropping, by_type, fcs_type_fault, fcs_outcome}
use Rattle.gfp_delineate.specs.declared.hunt_presync_sync.AreaWhy.{AreaWhy}
use Rattle.gfp_delineate.specs.declared.hunt_presync_sync.AreaWhy.TheVariants.{Unsettled as NotSettled, TooLong as IsLong}
use Rattle.gfp_delineate.specs.ReceivedAreas.{AreaEnd, keeping, passing, Progress, IsAt}
use Rattle.gfp_noise.specs.declared.gfp_fcs.fcs_delineator.FcsStep.{FcsStep}
use Rattle.gfp_noise.specs.declared.gfp_fcs.fcs_delineator.FcsStep.TheVariants.{Nothing, Frame, Dropped}

-- what comes of the client frames of a stream, all of which is one first segment. Headers are corrected in SYNC alone
abbrev pub fcs_outcomes : List ℕ → List FcsOutcome
fcs_outcomes octets = outcomes_with head near fcs_outcome true octets

-- how far a receiver is, and whether the last `byte` or `feed` completed the frame in the area that it keeps
pub record FcsReceiver : Type 0 where
  pub progress : Progress
  pub holds : Bool

-- the octets between the type header and the FCS of an area
abbrev pub info_of : List ℕ → List ℕ
info_of area = take (length area - 8) (drop 4 area)

-- the frame that the last `byte` or `feed` completed
abbrev pub frame_of : FcsReceiver → Option (List ℕ)
frame_of receiver =
    if receiver.holds && nat_le 12 (length receiver.progress.area) then Some (info_of receiver.progress.area) else None

-- the outcomes that an answer tells, where this frame is held
abbrev pub outcomes_told : Option (List ℕ) → FcsStep → List FcsOutcome
outcomes_told frame Nothing = []
outcomes_told frame Frame = map delivery (option_to_list frame)
outcomes_told frame (Dropped why) = dropping why ∷ []

abbrev pub told_fcs : FcsReceiver → FcsStep → List FcsOutcome
told_fcs receiver step = outcomes_told (frame_of receiver) step

-- what comes of an area by how it ended
abbrev pub why_of : AreaWhy → FcsWhy
why_of NotSettled = Unsettled
why_of (IsLong pli) = TooLong pli

abbrev pub fcs_of_end : AreaEnd → FcsOutcome
fcs_of_end (keeping area) = by_type (fcs_type_fault (take 4 area)) area
fcs_of_end (passing why) = dropping (why_of why)

-- these octets of the stream have come
abbrev pub FcsReceiverStands : FcsReceiver → List ℕ → Type 0
FcsReceiverStands receiver octets = IsAt receiver.progress longest_extended_area true true octets
