-- The payloads of the members of a group, where the lines hold one container each.
use Rattle.std.specs.Prelude.{ℕ, ◌+◌, ◌<◌, List, [], ◌++◌, map, length, take, drop, slice_get, slice_index, Option}
use Rattle.std.specs.Prelude.{Some, None}
use Rattle.law_model.specs.Common.{Container}

abbrev pub payload_or : Option Container → List ℕ
payload_or (Some container) = container.payload
payload_or None = []

-- what a line carries
abbrev pub payload_at : List Container → ℕ → List ℕ
payload_at containers line = payload_or (slice_get containers line)

-- what the lines of a list carry, in its order
abbrev pub payloads_of : List Container → List ℕ → List (List ℕ)
payloads_of containers lines = map (payload_at containers) lines

-- a container with octets put at a place of its payload
abbrev pub with_octets : ℕ → List ℕ → Container → Container
with_octets place octets container = record {
  h4 = container.h4;
  payload = take place container.payload ++ (octets ++ drop (place + length octets) container.payload);
}

-- each of these is one of a number of lines, counted from 0
abbrev pub AreLines : ℕ → List ℕ → Type 0
AreLines lines active = (rank : ℕ) → rank < length active → slice_index active rank < lines
