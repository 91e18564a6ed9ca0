-- What a command gives, by its task, as private clauses say it.
use Rattle.std.specs.Prelude.{Result}
use Rattle.command_parts.specs.Common.{Kept, Lent, Task, makes, none, reads, talks}
use Rattle.command_parts.specs.Gives.{Gives, GivesTalk}
use Rattle.command_parts.specs.declared.stop_and_status.Ran.{Ran}
use Rattle.command_parts.specs.declared.stop_and_status.Stop.{Stop}

-- a conversation writes on `out` alone
abbrev pub GivesFor : {S K E T : Type 0} → Lent S → Lent K → Lent E → Task → (T → Type 0) → Result (Ran T) Stop → Type 0
GivesFor source out notes (none usage) Made result = Gives source out notes (none usage) Made result
GivesFor source out notes (reads answer) Made result = Gives source out notes (reads answer) Made result
GivesFor source out notes (makes answer) Made result = Gives source out notes (makes answer) Made result
GivesFor source out notes (talks talk) Made result = GivesTalk source out talk Made result × Kept notes
