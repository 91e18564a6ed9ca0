-- Why a command stopped, as private clauses say it.
use Rattle.std.specs.Prelude.{◌≡◌, ◌⊎◌, ℕ, ◌<◌, List, length, IfSome, codes}
use Rattle.command_parts.specs.declared.stop_and_status.Refusal.{Refusal}
use Rattle.command_parts.specs.declared.stop_and_status.Stop.{Stop}
use Rattle.command_parts.specs.declared.stop_and_status.Stop.TheVariants.{Read, TooLong, Refused, Write, Memory}
use Rattle.command_parts.specs.Task.{Answer, exceeds, refuses, reads, refused_status}
use Rattle.command_parts.specs.Ends.{Lent, FailedOnce, IsLong, Quiet, Meets}

-- the status of a cause, and the note on it
abbrev pub status_at : Stop → ℕ
status_at Read = 3
status_at TooLong = 8
status_at (Refused fault) = refused_status fault.why
status_at Write = 4
status_at Memory = 7

abbrev pub note_of : Stop → List ℕ
note_of Read = codes "fault: read failed\n"
note_of TooLong = codes "fault: too long\n"
note_of (Refused fault) = fault.note.items
note_of Write = codes "fault: write failed\n"
note_of Memory = codes "fault: no memory\n"

-- a command that answers its input stopped before it wrote anything
abbrev pub StopsReading : {S : Type 0} → Lent S → (List ℕ → Answer) → Stop → Type 0
StopsReading source answer Read = FailedOnce source
StopsReading source answer TooLong = IsLong source ⊎ Meets source (reads answer) exceeds
StopsReading source answer (Refused fault) = Meets source (reads answer) (refuses fault.why fault.note.items)
StopsReading source answer Write = ⊥
StopsReading source answer Memory = Quiet source

-- a text that is answered so stops its reader for this cause; memory may be short in place of any
abbrev pub StopsFor : Answer → Stop → Type 0
StopsFor answer Read = ⊥
StopsFor answer TooLong = answer ≡ exceeds
StopsFor answer (Refused fault) = answer ≡ refuses fault.why fault.note.items
StopsFor answer Write = ⊥
StopsFor answer Memory = Unit {0}

-- the cause is this one, with this note
abbrev pub IsRefusedAs : Refusal → List ℕ → Stop → Type 0
IsRefusedAs why note Read = ⊥
IsRefusedAs why note TooLong = ⊥
IsRefusedAs why note (Refused own) = (own.why ≡ why) × (own.note.items ≡ note)
IsRefusedAs why note Write = ⊥
IsRefusedAs why note Memory = ⊥

-- some octets of a source, at most so many, weren't taken
abbrev pub StopsTaking : {S : Type 0} → Lent S → ℕ → Stop → Type 0
StopsTaking source room Read = FailedOnce source
StopsTaking source room TooLong = IfSome (source.octets source.old) (λ text. room < length text) × Quiet source
StopsTaking source room (Refused fault) = ⊥
StopsTaking source room Write = ⊥
StopsTaking source room Memory = Quiet source
