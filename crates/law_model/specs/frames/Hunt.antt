-- G.7041, frame delineation, the states HUNT and PRESYNC: the first place of a list at which a run of frames is
-- confirmed. Where
-- the search goes on after four octets that were refused is this project's own rule.
--
-- A reader of headers says which PLI four octets have, where they are a header. `head` reads one that is right in all
-- bits. The words that end in `with` take any reader, and those without it are the same at `head`.
use Rattle.std.specs.Prelude.{ℕ, zero, suc, ◌+◌, nat_le, Bool, true, List, length, take, drop, Option, Some, None}
use Rattle.std.specs.Prelude.{if◌then◌else◌}
use Rattle.law_model.specs.frames.Core.{head}

-- the PLI of the header in front of a list, where it has four octets and they are one
unfoldable pub header_with : (List ℕ → Option ℕ) → List ℕ → Option ℕ
header_with read octets = if nat_le 4 (length octets) then read (take 4 octets) else None

abbrev pub header_at : List ℕ → Option ℕ
header_at octets = header_with head octets

-- a confirmed place, the octets from there on, and whether a header was refused before it
pub record Confirmed : Type 0 where
  pub place : ℕ
  pub octets : List ℕ
  pub refused : Bool

-- PRESYNC, at the place after the area of the header that was found. A header here confirms the place. Four octets that
-- are none
-- are refused, and the search goes on one octet after the first of them
abbrev pub confirm_by : Option ℕ → Bool → ℕ → List ℕ → (Bool → ℕ → List ℕ → Option Confirmed) → Option Confirmed
confirm_by None refused place octets search_on = search_on true (place + 1) (drop 1 octets)
confirm_by (Some pli) refused place octets search_on =
    Some (record { place = place; octets = octets; refused = refused })

-- fewer than four octets confirm nothing
abbrev pub confirm_with : (List ℕ → Option ℕ) → Bool → ℕ → List ℕ → (Bool → ℕ → List ℕ → Option Confirmed) →
    Option Confirmed
confirm_with read refused place octets search_on =
    if nat_le 4 (length octets) then confirm_by (header_with read octets) refused place octets search_on else None

-- HUNT: the least place at which a header stands leads to PRESYNC
abbrev pub hunt_by : (List ℕ → Option ℕ) → Option ℕ → Bool → ℕ → List ℕ → (Bool → ℕ → List ℕ → Option Confirmed) →
    Option Confirmed
hunt_by read None refused place octets search_on = search_on refused (place + 1) (drop 1 octets)
hunt_by read (Some pli) refused place octets search_on =
    confirm_with read refused (place + (4 + pli)) (drop (4 + pli) octets) search_on

-- the search in a list whose first octet has this place, with a bound on its steps
unfoldable pub hunt_within : (List ℕ → Option ℕ) → ℕ → Bool → ℕ → List ℕ → Option Confirmed
hunt_within read zero refused place octets = None
hunt_within read (suc steps) refused place octets =
    hunt_by read (header_with read octets) refused place octets (hunt_within read steps)

-- a step goes on by one octet at least, so a step for each octet is enough
abbrev pub hunt_with : (List ℕ → Option ℕ) → Bool → ℕ → List ℕ → Option Confirmed
hunt_with read refused place octets = hunt_within read (length octets) refused place octets

abbrev pub hunt : Bool → ℕ → List ℕ → Option Confirmed
hunt refused place octets = hunt_with head refused place octets
