-- How the octets of a frame are dealt to the lines.
use Rattle.std.specs.Prelude.{◌≡◌, ◌<◌, ℕ, ◌/◌, ◌%◌, List, length, slice_index, Option}
use Rattle.law_model.specs.Common.{Scenario, Told, payload_of, active_at, container_of}

-- octet i of a frame is carried by the line of rank i mod x, at place i div x, where x lines carry payload
abbrev pub carrier_of : Scenario → List (Option Told) → ℕ → ℕ → ℕ
carrier_of scenario cells t i = slice_index (active_at scenario cells t) (i % length (active_at scenario cells t))

abbrev pub place_of : Scenario → List (Option Told) → ℕ → ℕ → ℕ
place_of scenario cells t i = i / length (active_at scenario cells t)

-- the line that carries it is one of those that carry payload, and has it at that place of its container
pub record IsDealt (scenario : Scenario) (cells : List (Option Told)) (t i : ℕ) : Type 0 where
  pub rank : i % length (active_at scenario cells t) < length (active_at scenario cells t)
  pub octet : slice_index (container_of scenario cells (carrier_of scenario cells t i) t).payload
      (place_of scenario cells t i) ≡ slice_index (payload_of scenario cells t) i
