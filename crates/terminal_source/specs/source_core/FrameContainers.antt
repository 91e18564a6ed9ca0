-- The containers of one frame, from what a terminal holds.
use Rattle.std.specs.Prelude.{◌≡◌, ◌<◌, ℕ, ◌+◌, ◌-◌, ◌*◌, ◌%◌, Bool, if◌then◌else◌, List, [], map, drop, replicate}
use Rattle.std.specs.Prelude.{slice_index, slice_index_or, is_some}
use Rattle.std.specs.List.{range_with_len}
use Rattle.law_model.specs.Common.{Container, rank_of, payload_on, vc4_size}

-- H4 in frame t, where these are the nibbles of the line's packet, which begins in a frame of number 8 modulo 16
abbrev pub h4_by : ℕ → List ℕ → ℕ
h4_by t nibbles = 16 * slice_index nibbles ((t % 16 + 8) % 16) + t % 16

-- a line is one of those that carry payload
abbrev pub carries : List ℕ → ℕ → Bool
carries active line = is_some (rank_of active line)

-- a container to which only octets of the stream are to be written, as many as are filled: H4 is there, and zeros
-- behind those octets
pub record IsBegun (h4 filled : ℕ) (container : Container) : Type 0 where
  pub header : container.h4 ≡ h4
  pub zeros : drop filled container.payload ≡ replicate (vc4_size - filled) 0

-- those of a number of lines in frame t
abbrev pub AreBegun : ℕ → List (List ℕ) → List ℕ → ℕ → ℕ → List Container → Type 0
AreBegun t nibbles active size lines containers = (line : ℕ) (d : Container) → line < lines →
    IsBegun (h4_by t (slice_index_or nibbles line [])) (if carries active line then size else 0)
    (slice_index_or containers line d)

-- the container of a line in frame t, where a row is dealt to the active lines
abbrev pub container_by : ℕ → List (List ℕ) → List ℕ → ℕ → List ℕ → ℕ → Container
container_by t nibbles active size row line = record {
  h4 = h4_by t (slice_index_or nibbles line []);
  payload = payload_on active line size row;
}

-- those of a number of lines
abbrev pub containers_by : ℕ → ℕ → List (List ℕ) → List ℕ → ℕ → List ℕ → List Container
containers_by lines t nibbles active size row = map (container_by t nibbles active size row) (range_with_len 0 lines)
