-- G.7041, frame delineation: what a receiver of Ethernet frames knows of the octets of a segment that have come.
use Rattle.std.specs.Prelude.{◌≡◌, ℕ, ◌+◌, ◌^◌, ◌<◌, ◌≤◌, ◌&&◌, nat_le, Bool, false, List, [], ◌∷◌, ◌++◌, length}
use Rattle.std.specs.Prelude.{map, take, drop, All, Option, Some, None, if◌then◌else◌, option_to_list}
use Rattle.law_model.specs.Common.{type_fault, Outcome, delivery, dropping, outcome_by, outcomes}
use Rattle.law_model.specs.declared.frame_faults.Why.{Why}
use Rattle.law_model.specs.declared.frame_faults.Why.TheVariants.{Unsettled, TooLong}
use Rattle.gfp_delineate.specs.declared.hunt_presync_sync.AreaWhy.{AreaWhy}
use Rattle.gfp_delineate.specs.declared.hunt_presync_sync.AreaWhy.TheVariants.{Unsettled as NotSettled, TooLong as IsLong}
use Rattle.gfp_delineate.specs.declared.delineator.Step.{Step}
use Rattle.gfp_delineate.specs.declared.delineator.Step.TheVariants.{Nothing, Frame, Dropped}
use Rattle.gfp_delineate.specs.ReceivedAreas.{AreaEnd, keeping, passing, Progress, header_begun_in, IsAt}

-- the most octets that a frame may have beside its type header in an area, whose length is told in sixteen bits
abbrev pub most : ℕ
most = 65531

-- what a receiver knows: how far it is, and whether the last `byte` or `feed` completed the frame in the area that it
-- keeps
pub record Receiver : Type 0 where
  pub progress : Progress
  pub holds : Bool

-- the frame that the last `byte` or `feed` completed
abbrev pub frame_of : Receiver → Option (List ℕ)
frame_of receiver =
    if receiver.holds && nat_le 4 (length receiver.progress.area) then Some (drop 4 receiver.progress.area) else None

-- in SYNC, where a header is due, those of its octets that have come
abbrev pub header_begun : Receiver → Option (List ℕ)
header_begun receiver = header_begun_in receiver.progress.phase receiver.progress.window

-- the outcomes that an answer tells, where this frame is held
abbrev pub outcomes_told : Option (List ℕ) → Step → List Outcome
outcomes_told frame Nothing = []
outcomes_told frame Frame = map delivery (option_to_list frame)
outcomes_told frame (Dropped why) = dropping why ∷ []

abbrev pub told_outcomes : Receiver → Step → List Outcome
told_outcomes receiver step = outcomes_told (frame_of receiver) step

-- what comes of an area by how it ended
abbrev pub why_of : AreaWhy → Why
why_of NotSettled = Unsettled
why_of (IsLong pli) = TooLong pli

abbrev pub client_of : AreaEnd → Outcome
client_of (keeping area) = outcome_by (type_fault (take 4 area)) area
client_of (passing why) = dropping (why_of why)

-- ---- a receiver and a segment
-- the most octets of an area where a frame has at most a number of octets: a type header stands before it
unfoldable pub area_limit : ℕ → ℕ
area_limit longest = longest + 4

-- these octets of a segment have come, which is the first one of its stream or a later one
abbrev pub StandsIn : Receiver → ℕ → Bool → List ℕ → Type 0
StandsIn receiver longest first octets = IsAt receiver.progress (area_limit longest) false first octets

-- whatever octets of a segment came before, these came after them
abbrev pub Advances : Receiver → Receiver → List ℕ → Type 0
Advances was now more = (longest : ℕ) (first : Bool) (octets : List ℕ) → StandsIn was longest first octets →
    StandsIn now longest first (octets ++ more)

-- whatever octets of a segment came before, these bring these outcomes after them
abbrev pub Brings : Receiver → List ℕ → List Outcome → Type 0
Brings was more come = (longest : ℕ) (first : Bool) (octets : List ℕ) → StandsIn was longest first octets →
    outcomes longest first (octets ++ more) ≡ outcomes longest first octets ++ come

-- a frame that may be sent to a receiver which delivers frames of at most a number of octets
pub record IsClientFrame (longest : ℕ) (frame : List ℕ) : Type 0 where
  pub size : length frame ≤ longest
  pub octets : All (λ octet. octet < 2 ^ 8) frame
