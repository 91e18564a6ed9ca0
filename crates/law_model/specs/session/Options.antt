-- The options of a script: whether the sink goes on without some packets, when a member goes out of use and comes back,
-- and how statuses are told. Timers that are counted in packets are this project's own.
use Rattle.std.specs.Prelude.{◌≡◌, ◌⊎◌, ℕ, ◌≤◌, false}
use Rattle.law_model.specs.declared.script_types.Options.{Options}
use Rattle.law_model.specs.Limits.{longest_holdoff, longest_restore}

-- those of a script that says nothing of them: the sink stops, no timer runs, and 16 return packets tell all statuses
abbrev pub default_options : Options
default_options = record { infers = false; holdoff = 0; restore = 0; statuses = 16 }

-- all statuses are told by 16 return packets, or by 32 as G.707 has it
abbrev pub IsStatuses : ℕ → Type 0
IsStatuses statuses = (statuses ≡ 16) ⊎ (statuses ≡ 32)

pub record IsOptions (options : Options) : Type 0 where
  pub holdoff : options.holdoff ≤ longest_holdoff
  pub restore : options.restore ≤ longest_restore
  pub statuses : IsStatuses options.statuses
