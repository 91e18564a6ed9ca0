-- G.7041, frame delineation: what comes of each client frame that lies whole in a run. That six octets settle a
-- descrambler is
-- this project's own rule.
--
-- The words that end in `with` take what comes of an area: from whether the descrambler was settled when it began, and
-- from its
-- descrambled octets. Those without it are for Ethernet frames of at most a number of octets, `longest`.
use Rattle.std.specs.Prelude.{ℕ, ◌+◌, ◌||◌, nat_le, nat_lt, Bool, true, false, List, [], ◌∷◌, ◌++◌, length, map, take}
use Rattle.std.specs.Prelude.{drop, Option, Some, None, if◌then◌else◌, flat_map}
use Rattle.law_model.specs.declared.frame_faults.Why.{Why}
use Rattle.law_model.specs.declared.frame_faults.Why.TheVariants.{Unsettled, TooLong, Header}
use Rattle.law_model.specs.declared.frame_faults.TypeFault.{TypeFault}
use Rattle.law_model.specs.frames.Core.{head}
use Rattle.law_model.specs.frames.Piece.{cut, joined}
use Rattle.law_model.specs.frames.Scramble.{descrambled_octets}
use Rattle.law_model.specs.frames.TypeHeader.{type_fault}
use Rattle.law_model.specs.frames.Run.{Run, runs_with}

-- what comes of a client frame: it is delivered, or dropped for a cause
pub data Outcome : Type 0 where
  delivery : List ℕ → Outcome
  dropping : Why → Outcome

-- by its type header
abbrev pub outcome_by : Option TypeFault → List ℕ → Outcome
outcome_by None area = delivery (drop 4 area)
outcome_by (Some fault) area = dropping (Header fault)

-- the outcome of a descrambled area: the first cause that holds, or the frame in it
abbrev pub client_outcome : ℕ → Bool → List ℕ → Outcome
client_outcome longest true area =
    if nat_lt (longest + 4) (length area) then dropping (TooLong (length area)) else outcome_by
    (type_fault (take 4 area)) area
client_outcome longest false area = dropping Unsettled

-- ---- the areas of a run
-- the descrambler is settled after these octets of areas of a run that was settled at its start, or after six
abbrev pub is_settled : Bool → ℕ → Bool
is_settled settled before = settled || nat_le 6 before

-- an area with no octets is that of an idle frame, of which nothing comes
abbrev pub area_outcomes : {X : Type 0} → (Bool → List ℕ → X) → Bool → ℕ → List ℕ → List X
area_outcomes outcome settled before [] = []
area_outcomes outcome settled before (o ∷ area) = outcome (is_settled settled before) (o ∷ area) ∷ []

-- the outcomes of descrambled areas, before which the run has this number of octets of areas
unfoldable pub outcomes_after_with : {X : Type 0} → (Bool → List ℕ → X) → Bool → ℕ → List (List ℕ) → List X
outcomes_after_with outcome settled before [] = []
outcomes_after_with outcome settled before (area ∷ areas) =
    area_outcomes outcome settled before area ++ outcomes_after_with outcome settled (before + length area) areas

-- the areas of a run are descrambled as one list
abbrev pub descrambled_areas : List (List ℕ) → List (List ℕ)
descrambled_areas areas = cut (map length areas) (descrambled_octets (joined areas))

abbrev pub run_outcomes_with : {X : Type 0} → (Bool → List ℕ → X) → Run → List X
run_outcomes_with outcome run = outcomes_after_with outcome run.settled 0 (descrambled_areas run.areas)

-- ---- the runs of a segment
abbrev pub outcomes_with : {X : Type 0} → (List ℕ → Option ℕ) → (List ℕ → Option ℕ) → (Bool → List ℕ → X) → Bool →
    List ℕ → List X
outcomes_with seek follow outcome first octets =
    flat_map (run_outcomes_with outcome) (runs_with seek follow first octets)

-- ---- Ethernet frames
abbrev pub outcome_of : ℕ → Bool → ℕ → List ℕ → List Outcome
outcome_of longest settled before area = area_outcomes (client_outcome longest) settled before area

abbrev pub outcomes_after : ℕ → Bool → ℕ → List (List ℕ) → List Outcome
outcomes_after longest settled before areas = outcomes_after_with (client_outcome longest) settled before areas

abbrev pub run_outcomes : ℕ → Run → List Outcome
run_outcomes longest run = run_outcomes_with (client_outcome longest) run

-- the outcomes of a segment, which is the first of its stream or a later one
abbrev pub outcomes : ℕ → Bool → List ℕ → List Outcome
outcomes longest first octets = outcomes_with head head (client_outcome longest) first octets
