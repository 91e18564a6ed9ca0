-- G.7041, frame delineation: what a receiver of payload areas knows of the octets of a segment that have come. What is
-- in an area is no matter here.
use Rattle.std.specs.Prelude.{◌≡◌, ℕ, ◌+◌, ◌-◌, ◌<◌, ◌≤◌, nat_lt, Bool, true, false, List, [], ◌∷◌, ◌++◌, length, drop}
use Rattle.std.specs.Prelude.{Option, Some, None, if◌then◌else◌}
use Rattle.gfp_scramble.specs.Descrambler.{Descrambling, IsKnown}
use Rattle.gfp_scramble.specs.Descrambler as descrambler
use Rattle.law_model.specs.Common.{head, descrambled_octets, joined, Run, delineate_with, area_outcomes}
use Rattle.law_model.specs.Common.{run_outcomes_with, outcomes_with}
use Rattle.gfp_model.specs.fcs_model.NearHeader.{near}
use Rattle.gfp_delineate.specs.declared.hunt_presync_sync.AreaWhy.{AreaWhy}
use Rattle.gfp_delineate.specs.declared.hunt_presync_sync.AreaWhy.TheVariants.{Unsettled, TooLong}
use Rattle.gfp_delineate.specs.declared.hunt_presync_sync.AreaStep.{AreaStep}
use Rattle.gfp_delineate.specs.declared.hunt_presync_sync.AreaStep.TheVariants.{Nothing, Area, Dropped}
use Rattle.gfp_delineate.specs.declared.hunt_presync_sync.Phase.{Phase}
use Rattle.gfp_delineate.specs.declared.hunt_presync_sync.Phase.TheVariants.{Hunt, PresyncArea, PresyncHeader, SyncHeader, SyncArea}
use Rattle.gfp_delineate.specs.declared.hunt_presync_sync.Phase.TheVariants.{SyncPassing}
use Rattle.gfp_delineate.specs.LeftOpen.{searching, running, Leaves}

-- ---- how an area ends
-- it is kept whole, descrambled, or dropped for a cause
pub data AreaEnd : Type 0 where
  keeping : List ℕ → AreaEnd
  passing : AreaWhy → AreaEnd

-- by whether the descrambler was settled when it began, and by the most octets that are kept
abbrev pub end_of : ℕ → Bool → List ℕ → AreaEnd
end_of longest true area =
    if nat_lt longest (length area) then passing (TooLong (length area)) else keeping area
end_of longest false area = passing Unsettled

-- the reader of headers in SYNC, where single bits of a header are corrected there or not
abbrev pub reader : Bool → List ℕ → Option ℕ
reader true = near
reader false = head

-- the areas of a segment, which is the first of its stream or a later one. In HUNT and PRESYNC no header is corrected
abbrev pub ends : ℕ → Bool → Bool → List ℕ → List AreaEnd
ends longest corrects first octets = outcomes_with head (reader corrects) (end_of longest) first octets

-- the state after these octets of a segment is SYNC, be it the first segment or a later one
abbrev pub is_sync_by : Bool → List ℕ → Bool
is_sync_by corrects octets = (delineate_with head (reader corrects) false octets).sync

-- that of one area, and those of a run
abbrev pub area_ends : ℕ → Bool → ℕ → List ℕ → List AreaEnd
area_ends longest settled before area = area_outcomes (end_of longest) settled before area

abbrev pub run_ends : ℕ → Run → List AreaEnd
run_ends longest run = run_outcomes_with (end_of longest) run

-- what an answer tells, where this area is held
abbrev pub ends_told : List ℕ → AreaStep → List AreaEnd
ends_told area Nothing = []
ends_told area Area = keeping area ∷ []
ends_told area (Dropped why) = passing why ∷ []

-- ---- a receiver
-- how far a receiver is: the most octets of an area that it keeps, whether it corrects headers in SYNC, its phase, the
-- last four octets that may be of a header, its descrambler, and the descrambled octets of an area that it keeps
pub record Progress : Type 0 where
  pub longest : ℕ
  pub corrects : Bool
  pub phase : Phase
  pub window : List ℕ
  pub descrambling : Descrambling
  pub area : List ℕ

-- in SYNC, where a header is due, those of its octets that have come
abbrev pub header_begun_in : Phase → List ℕ → Option (List ℕ)
header_begun_in (Hunt have) window = None
header_begun_in (PresyncArea left) window = None
header_begun_in (PresyncHeader have) window = None
header_begun_in (SyncHeader have) window = Some (drop (4 - have) window)
header_begun_in (SyncArea left) window = None
header_begun_in (SyncPassing left why) window = None

-- ---- how far it is with the octets of a segment
-- HUNT and PRESYNC: these runs ended, a search goes on in the last octets, and the descrambler has none of the next run
pub record Searches (progress : Progress) (first : Bool) (octets : List ℕ) (ended : List Run) (settled : Bool)
    (last : List ℕ) : Type 0 where
  pub leaves : Leaves head (reader progress.corrects) first octets ended (searching settled last)
  pub given : descrambler.DescramblerStands progress.descrambling settled []
  pub window : length progress.window ≡ 4

-- SYNC: these runs ended, a run with these areas goes on in the last octets, and the descrambler has its areas and
-- these octets of the next one
pub record Follows (progress : Progress) (first : Bool) (octets : List ℕ) (ended : List Run) (settled : Bool)
    (before : List (List ℕ)) (last come : List ℕ) : Type 0 where
  pub leaves : Leaves head (reader progress.corrects) first octets ended (running settled before last)
  pub given : descrambler.DescramblerStands progress.descrambling settled (joined before ++ come)
  pub window : length progress.window ≡ 4

-- a header of four octets, after which these octets of its area have come, and a number of them is left to come
pub record Headed (read : List ℕ → Option ℕ) (header come : List ℕ) (left : ℕ) : Type 0 where
  pub size : length header ≡ 4
  pub found : read header ≡ Some (length come + left)

-- HUNT: fewer than four octets may belong to a header
pub record InHunt (have : ℕ) (progress : Progress) (first : Bool) (octets : List ℕ) : Type 0 where
  pub ended : List Run
  pub settled : Bool
  pub part : have < 4
  pub search : Searches progress first octets ended settled (drop (4 - have) progress.window)

-- PRESYNC: part of the area after the header that was found
pub record InPresyncArea (left : ℕ) (progress : Progress) (first : Bool) (octets : List ℕ) : Type 0 where
  pub ended : List Run
  pub settled : Bool
  pub header : List ℕ
  pub come : List ℕ
  pub headed : Headed head header come left
  pub part : 0 < left
  pub search : Searches progress first octets ended settled (header ++ come)

-- PRESYNC: the whole area, and part of a header
pub record InPresyncHeader (have : ℕ) (progress : Progress) (first : Bool) (octets : List ℕ) : Type 0 where
  pub ended : List Run
  pub settled : Bool
  pub header : List ℕ
  pub come : List ℕ
  pub headed : Headed head header come 0
  pub part : have < 4
  pub search : Searches progress first octets ended settled (header ++ (come ++ drop (4 - have) progress.window))

-- SYNC: part of a header
pub record InSyncHeader (have : ℕ) (progress : Progress) (first : Bool) (octets : List ℕ) : Type 0 where
  pub ended : List Run
  pub settled : Bool
  pub before : List (List ℕ)
  pub part : have < 4
  pub run : Follows progress first octets ended settled before (drop (4 - have) progress.window) []

-- SYNC: a header and part of its area, whose descrambled octets are kept
pub record InSyncArea (left : ℕ) (progress : Progress) (first : Bool) (octets : List ℕ) : Type 0 where
  pub ended : List Run
  pub settled : Bool
  pub before : List (List ℕ)
  pub header : List ℕ
  pub come : List ℕ
  pub headed : Headed (reader progress.corrects) header come left
  pub part : 0 < left
  pub fits : length come + left ≤ progress.longest
  pub run : Follows progress first octets ended settled before (header ++ come) come
  pub known : IsKnown settled (joined before)
  pub kept : progress.area ≡ drop (length (joined before)) (descrambled_octets (joined before ++ come))

-- SYNC: a header and part of its area, which is dropped whatever its octets are
pub record InSyncPassing (left : ℕ) (why : AreaWhy) (progress : Progress) (first : Bool)
    (octets : List ℕ) : Type 0 where
  pub ended : List Run
  pub settled : Bool
  pub before : List (List ℕ)
  pub header : List ℕ
  pub come : List ℕ
  pub headed : Headed (reader progress.corrects) header come left
  pub part : 0 < left
  pub run : Follows progress first octets ended settled before (header ++ come) come
  pub dropped : (area : List ℕ) → length area ≡ length come + left →
      area_ends progress.longest settled (length (joined before)) area ≡ passing why ∷ []

-- what is known in a phase
abbrev pub IsIn : Phase → Progress → Bool → List ℕ → Type 0
IsIn (Hunt have) progress first octets = InHunt have progress first octets
IsIn (PresyncArea left) progress first octets = InPresyncArea left progress first octets
IsIn (PresyncHeader have) progress first octets = InPresyncHeader have progress first octets
IsIn (SyncHeader have) progress first octets = InSyncHeader have progress first octets
IsIn (SyncArea left) progress first octets = InSyncArea left progress first octets
IsIn (SyncPassing left why) progress first octets = InSyncPassing left why progress first octets

-- it is as far as these octets of a segment lead
pub record IsAt (progress : Progress) (longest : ℕ) (corrects first : Bool) (octets : List ℕ) : Type 0 where
  pub limit : progress.longest ≡ longest
  pub setting : progress.corrects ≡ corrects
  pub phase : IsIn progress.phase progress first octets

-- ---- more octets, whatever octets of a segment came before
-- it is as far as they lead
abbrev pub Goes : Progress → Progress → List ℕ → Type 0
Goes old new more = (longest : ℕ) (corrects first : Bool) (octets : List ℕ) → IsAt old longest corrects first octets →
    IsAt new longest corrects first (octets ++ more)

-- these areas end
abbrev pub Adds : Progress → List ℕ → List AreaEnd → Type 0
Adds old more come = (longest : ℕ) (corrects first : Bool) (octets : List ℕ) →
    IsAt old longest corrects first octets →
    ends longest corrects first (octets ++ more) ≡ ends longest corrects first octets ++ come

-- ---- what is true of every receiver
-- a phase within its bounds, where a number of octets is kept
abbrev pub IsWithin : Phase → ℕ → ℕ → Type 0
IsWithin (Hunt have) kept longest = have < 4
IsWithin (PresyncArea left) kept longest = 0 < left
IsWithin (PresyncHeader have) kept longest = have < 4
IsWithin (SyncHeader have) kept longest = have < 4
IsWithin (SyncArea left) kept longest = (0 < left) × (4 ≤ kept + left) × (kept + left ≤ longest)
IsWithin (SyncPassing left why) kept longest = 0 < left

-- there is room for an area, and the phase is within its bounds
pub record IsSound (longest capacity kept : ℕ) (phase : Phase) : Type 0 where
  pub room : longest ≤ capacity
  pub bounds : IsWithin phase kept longest
