-- A stream of frames with FCS of which bits are turned over: the frames that get through.
use Rattle.std.specs.Prelude.{ℕ, ◌+◌, ◌-◌, ◌*◌, ◌<◌, ◌≤◌, ◌==◌, if◌then◌else◌, Bool, true, false, List, [], ◌∷◌, ◌++◌}
use Rattle.std.specs.Prelude.{length, map, take, drop, replicate, All, flat_map}
use Rattle.law_model.specs.Common.{head, areas_stream, outcomes_with, count, longest_frame}
use Rattle.gfp_model.specs.fcs_model.NearHeader.{near}
use Rattle.gfp_model.specs.fcs_model.Fcs.{fcs_area, fcs_outcome, frame_in}

-- two idles, and then the frames
abbrev pub fcs_stream : List (List ℕ) → List ℕ
fcs_stream frames = areas_stream ([] ∷ [] ∷ map fcs_area frames)

pub record IsFrame (frame : List ℕ) : Type 0 where
  pub least : 64 ≤ length frame
  pub most : length frame ≤ longest_frame
  pub octets : All (λ o. o < 256) frame

-- the frames that are delivered
abbrev pub fcs_delivered : List ℕ → List (List ℕ)
fcs_delivered octets = flat_map frame_in (outcomes_with head near fcs_outcome true octets)

-- the bits of the area of a frame
abbrev pub area_size : List ℕ → ℕ
area_size frame = 8 * (length frame + 8)

-- those of a frame's area among the flips from its core header on, and those behind it
abbrev pub area_flips : List Bool → List ℕ → List Bool
area_flips flips frame = take (area_size frame) (drop 32 flips)

abbrev pub flips_after : List Bool → List ℕ → List Bool
flips_after flips frame = drop (area_size frame) (drop 32 flips)

-- the flips of an area and of the 43 bits of areas before it, where `before` has those of all areas before it. Before
-- the first area there is none
abbrev pub window : List Bool → List Bool → List Bool
window before area = drop (length before) (replicate 43 false ++ before) ++ area

-- each core header has at most one flip, and each area with the 43 area bits before it has at most one
unfoldable pub AreFew : List Bool → List Bool → List (List ℕ) → Type 0
AreFew before flips [] = Unit {0}
AreFew before flips (frame ∷ frames) =
    (count (take 32 flips) ≤ 1) × (count (window before (area_flips flips frame)) ≤ 1)
    × AreFew (before ++ area_flips flips frame) (flips_after flips frame) frames

-- the frames whose area and the 43 area bits before it have no flip
unfoldable pub clear : List Bool → List Bool → List (List ℕ) → List (List ℕ)
clear before flips [] = []
clear before flips (frame ∷ frames) =
    (if count (window before (area_flips flips frame)) == 0 then frame ∷ [] else [])
    ++ clear (before ++ area_flips flips frame) (flips_after flips frame) frames

-- ---- a worked stream: three frames of 64 zero octets, which are sent as 236 octets, and one flip, by the place of
-- its octet and the
-- place of the bit in it
abbrev pub worked_frames : List (List ℕ)
worked_frames = replicate 3 (replicate 64 0)

abbrev pub one_flip : ℕ → ℕ → List Bool
one_flip place bit = replicate (8 * place + bit) false ++ true ∷ replicate (1887 - (8 * place + bit)) false
