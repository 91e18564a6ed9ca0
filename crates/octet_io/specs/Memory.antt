-- What is known of a source and a sink in memory. Counts of calls and of faults stop at 2^64 - 1.
use Rattle.std.specs.Prelude.{◌≡◌, ℕ, ◌⊎◌, ◌<◌, List, length, min, Option, Some, None, Contains}

-- a source that has these octets left, gives at most `step` of them in a call where that is told, had so many calls and
-- counted so
-- many faults; the calls whose numbers are in `fail` fail, and the first call has number 0
pub record MemSourceState : Type 0 where
  pub left : List ℕ
  pub step : Option ℕ
  pub fail : List ℕ
  pub calls : ℕ
  pub faults : ℕ

-- a sink that holds these octets and has room for so many more, had so many calls and counted so many faults; the
-- calls whose numbers are in `fail` fail, and the first call has number 0
pub record MemSinkState : Type 0 where
  pub written : List ℕ
  pub room : ℕ
  pub fail : List ℕ
  pub calls : ℕ
  pub faults : ℕ

-- of octets as many as a call gives at most
abbrev pub given_at_once : Option ℕ → ℕ → ℕ
given_at_once None left = left
given_at_once (Some step) left = min step left

-- the next call of the source fails
abbrev pub IsFailingTake : MemSourceState → Type 0
IsFailingTake source = Contains source.fail source.calls

-- the next call of the sink, with this piece, fails
abbrev pub IsFailingPut : MemSinkState → List ℕ → Type 0
IsFailingPut sink piece = Contains sink.fail sink.calls ⊎ ((0 < length piece) × (sink.room ≡ 0))
