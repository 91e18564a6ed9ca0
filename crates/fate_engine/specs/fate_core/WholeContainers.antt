-- Containers of a line that are whole.
use Rattle.std.specs.Prelude.{ℕ, Bool, List, [], slice_index_or}
use Rattle.law_model.specs.Common.{are_whole}
use Rattle.law_model.specs.declared.window_types.Window.{Window}
use Rattle.law_model.specs.members.Damage.{carried}

-- so many from a first one on
abbrev pub whole_in : List Window → ℕ → ℕ → Bool
whole_in windows from count = are_whole (carried windows) from count

-- of a line by its number
abbrev pub whole_on : List (List Window) → ℕ → ℕ → ℕ → Bool
whole_on lists from count line = whole_in (slice_index_or lists line []) from count
