-- What is handed in ahead.
use Rattle.std.specs.Prelude.{ℕ, Bool, if◌then◌else◌}
use Rattle.thread_group.specs.declared.bound_group.Handed.{Handed}

-- below which number of the script it is handed in what the client brings, or else what the operator brings
abbrev pub handed_below : Handed → Bool → ℕ
handed_below handed client = if client then handed.frames else handed.commands
