-- What a sink has got of the lines of a session, and what it makes of it.
use Rattle.std.specs.Prelude.{◌≡◌, ℕ, ◌+◌, ◌-◌, ◌*◌, ◌/◌, ◌<◌, ◌≤◌, nat_lt, false, if◌then◌else◌, List, [], map}
use Rattle.std.specs.Prelude.{length, slice_get, slice_index, Option, Some, None}
use Rattle.law_model.specs.Common.{Container, Cell, is_good, Scenario, carried_by, Told, active, table_of, read_packets}
use Rattle.law_model.specs.Common.{container_on, carried_row, packets_of, payload_of}

-- of packets up to packet k those are read that can be
abbrev pub HasPackets : Scenario → List (Option Told) → List (List Cell) → ℕ → Type 0
HasPackets scenario returns cells k = (j : ℕ) → j ≤ k → read_packets cells j ≡ packets_of scenario returns j

-- the cells of the lines tell row t: the packets up to those that govern it, and of each line the container that it
-- sent, where that is good
pub record TellsRow (scenario : Scenario) (returns : List (Option Told)) (sent : ℕ → Container)
    (cells : List (List Cell)) (t : ℕ) : Type 0 where
  pub packets : 24 ≤ t → HasPackets scenario returns cells ((t - 24) / 16)
  pub containers : (line : ℕ) → line < length scenario.windows →
      container_on (slice_get cells line) t ≡ (if is_good (carried_by scenario line) t then Some (sent line) else None)

-- the same script with `sink stops`
abbrev pub stopping : Scenario → Scenario
stopping scenario = record scenario { options = record (scenario.options) { infers = false } }

-- the octets of row t: those of the lines that carry payload, in the order of their SQ, joined
abbrev pub row_octets : Scenario → List (Option Told) → (ℕ → Container) → ℕ → List ℕ
row_octets scenario returns sent t =
    if nat_lt t 24 then []
    else carried_row (map sent (active (table_of scenario returns ((t - 24) / 16)))) scenario.size

-- octets are dealt to containers in turn: of x containers, container r has octet p x + r at place p
abbrev pub AreDealt : (ℕ → ℕ) → List Container → ℕ → Type 0
AreDealt octet containers size = (r p : ℕ) (container : Container) → slice_get containers r ≡ Some container →
    p < size →
    slice_index container.payload p ≡ octet (p * length containers + r)

-- the lines that carry payload in row t have its octets, dealt in the order of their SQ
abbrev pub IsDealtRow : Scenario → List (Option Told) → (ℕ → Container) → ℕ → Type 0
IsDealtRow scenario returns sent t = 24 ≤ t →
    AreDealt (λ place. slice_index (payload_of scenario returns t) place)
    (map sent (active (table_of scenario returns ((t - 24) / 16)))) scenario.size
