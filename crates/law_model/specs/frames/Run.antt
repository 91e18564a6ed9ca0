-- G.7041, frame delineation, the state SYNC: the runs of a segment. A run begins at a confirmed place and goes from
-- header to
-- header: after a header of four octets comes an area of as many octets as it says, and after the area the next header.
-- Four
-- octets in the place of a header that are none end the run. They are refused, and a search goes on one octet after the
-- first of
-- them. A segment is gone through in this way, from search to run and from run to search, until its octets end.
--
-- The words that end in `with` take the reader of headers in HUNT and PRESYNC and the one in SYNC. `head` reads a
-- header that is right in all bits; in SYNC the standard also reads one with one wrong bit. The words without `with`
-- are the same where both are `head`.
use Rattle.std.specs.Prelude.{ℕ, zero, suc, ◌+◌, nat_le, not, Bool, true, false, List, [], ◌∷◌, ◌++◌, length, take}
use Rattle.std.specs.Prelude.{drop, Option, Some, None, if◌then◌else◌}
use Rattle.law_model.specs.frames.Core.{head}
use Rattle.law_model.specs.frames.Hunt.{Confirmed, header_with, hunt_with}

-- ---- a run
-- what is found of a run: its areas that are whole, and, where it was ended, the octets one after the first that were
-- refused
pub record Followed : Type 0 where
  pub areas : List (List ℕ)
  pub after : Option (List ℕ)

-- an area, and what is found after it
abbrev pub area_then : List ℕ → Followed → Followed
area_then area more = record { areas = area ∷ more.areas; after = more.after }

-- no further area is whole
abbrev pub no_area : Option (List ℕ) → Followed
no_area after = record { areas = []; after = after }

-- at the place of a header: four octets that are none end the run; an area that isn't whole leaves it open, and so do
-- fewer
-- than four octets
abbrev pub follow_by : Option ℕ → List ℕ → (List ℕ → Followed) → Followed
follow_by None octets follow_on = no_area (if nat_le 4 (length octets) then Some (drop 1 octets) else None)
follow_by (Some pli) octets follow_on =
    if nat_le (4 + pli) (length octets) then area_then (take pli (drop 4 octets))
    (follow_on (drop (4 + pli) octets)) else no_area None

-- a run from its first octet on, with a bound on its headers
unfoldable pub follow_within : (List ℕ → Option ℕ) → ℕ → List ℕ → Followed
follow_within read zero octets = no_area None
follow_within read (suc steps) octets = follow_by (header_with read octets) octets (follow_within read steps)

abbrev pub follow_with : (List ℕ → Option ℕ) → List ℕ → Followed
follow_with read octets = follow_within read (suc (length octets)) octets

-- the areas of a run
abbrev pub areas : List ℕ → List (List ℕ)
areas octets = (follow_with head octets).areas

-- the octets in which a search goes on after it
abbrev pub after_run : List ℕ → Option (List ℕ)
after_run octets = (follow_with head octets).after

-- ---- a segment
-- a run of a segment: whether its descrambler is settled from its first area on, and its areas. It is settled where no
-- header of
-- the first segment was refused before it
pub record Run : Type 0 where
  pub settled : Bool
  pub areas : List (List ℕ)

-- what is found of a segment: its runs, and whether the last of them is still open, which is the state SYNC
pub record Delineated : Type 0 where
  pub runs : List Run
  pub sync : Bool

-- runs, and what is found after them
abbrev pub runs_then : List Run → Delineated → Delineated
runs_then runs more = record { runs = runs ++ more.runs; sync = more.sync }

-- no run is found
abbrev pub no_run : Delineated
no_run = record { runs = []; sync = false }

-- a run that is open, or one after which a search goes on
abbrev pub run_then : Run → Option (List ℕ) → (List ℕ → Delineated) → Delineated
run_then run None search_on = record { runs = run ∷ []; sync = true }
run_then run (Some octets) search_on = runs_then (run ∷ []) (search_on octets)

-- the run at the place that a search confirmed
abbrev pub delineate_by : (List ℕ → Followed) → Option Confirmed → (List ℕ → Delineated) → Delineated
delineate_by follow None search_on = no_run
delineate_by follow (Some found) search_on =
    run_then (record { settled = not found.refused; areas = (follow found.octets).areas })
    (follow found.octets).after search_on

-- octets from a search on, with a bound on the searches. After a run a header was refused
unfoldable pub delineate_within : (List ℕ → Option ℕ) → (List ℕ → Option ℕ) → ℕ → Bool → List ℕ → Delineated
delineate_within seek follow zero refused octets = no_run
delineate_within seek follow (suc steps) refused octets =
    delineate_by (follow_with follow) (hunt_with seek refused 0 octets) (delineate_within seek follow steps true)

-- a segment, which is the first of its stream or a later one
abbrev pub delineate_with : (List ℕ → Option ℕ) → (List ℕ → Option ℕ) → Bool → List ℕ → Delineated
delineate_with seek follow first octets = delineate_within seek follow (suc (length octets)) (not first) octets

abbrev pub delineate : Bool → List ℕ → Delineated
delineate first octets = delineate_with head head first octets

-- the runs of a segment
abbrev pub runs_with : (List ℕ → Option ℕ) → (List ℕ → Option ℕ) → Bool → List ℕ → List Run
runs_with seek follow first octets = (delineate_with seek follow first octets).runs

abbrev pub runs : Bool → List ℕ → List Run
runs first octets = runs_with head head first octets

-- the state after these octets of a segment is SYNC, be it the first segment or a later one
abbrev pub is_sync : List ℕ → Bool
is_sync octets = (delineate false octets).sync
