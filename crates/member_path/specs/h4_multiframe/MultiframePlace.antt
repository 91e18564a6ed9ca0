-- What a place of a list of H4 octets is to the lock of a line, which is this project's own.
use Rattle.std.specs.Prelude.{ℕ, List, Option}
use Rattle.law_model.specs.Common.{IsOutOfStep, Locks, IsAt, HasNumber}
use Rattle.member_path.specs.declared.h4_multiframe.Place.{Place}
use Rattle.member_path.specs.declared.h4_multiframe.Place.TheVariants.{Unknown, Locks as LocksAnswer, At}

-- what is answered of a cell: it is in step from none, or it locks, or it comes while the line is locked
abbrev pub IsPlace : List (Option ℕ) → ℕ → Place → Type 0
IsPlace cells place Unknown = IsOutOfStep cells place
IsPlace cells place (LocksAnswer number) = Locks cells place × HasNumber cells place number
IsPlace cells place (At number) = IsAt cells place × HasNumber cells place number
