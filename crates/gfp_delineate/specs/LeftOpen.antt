-- G.7041, frame delineation: what the octets of a segment leave open, with any readers of headers.
use Rattle.std.specs.Prelude.{◌≡◌, ℕ, Bool, false, List, ◌++◌, Option}
use Rattle.law_model.specs.Common.{Run, Delineated, follow_with, run_then, runs_then, delineate_with}

-- HUNT and PRESYNC: a search goes on in the last octets, and the run that it finds is settled or not. SYNC: a run that
-- is settled
-- or not has these areas, and goes on in the last octets
pub data LeftOpen : Type 0 where
  searching : Bool → List ℕ → LeftOpen
  running : Bool → List (List ℕ) → List ℕ → LeftOpen

-- what is found of it with more octets
abbrev pub found_with : (List ℕ → Option ℕ) → (List ℕ → Option ℕ) → LeftOpen → List ℕ → Delineated
found_with seek follow (searching settled last) more = delineate_with seek follow settled (last ++ more)
found_with seek follow (running settled before last) more =
    run_then (record { settled = settled; areas = before ++ (follow_with follow (last ++ more)).areas })
    (follow_with follow (last ++ more)).after
    (delineate_with seek follow false)

-- whatever comes after the octets of a segment, its runs are these, which have ended, and those that are found of what
-- is open
pub record Leaves (seek follow : List ℕ → Option ℕ) (first : Bool) (octets : List ℕ) (ended : List Run)
    (standing : LeftOpen) : Type 0 where
  pub finds : (more : List ℕ) → delineate_with seek follow first (octets ++ more) ≡ runs_then ended
      (found_with seek follow standing more)
