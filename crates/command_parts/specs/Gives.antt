-- What a command gives, of which its program then says how it ended, as private clauses say it.
use Rattle.std.specs.Prelude.{◌≡◌, ℕ, List, Result, IfOk, IfErr, OnOk, OnErr}
use Rattle.command_parts.specs.declared.stop_and_status.Ran.{Ran}
use Rattle.command_parts.specs.declared.stop_and_status.Stop.{Stop}
use Rattle.command_parts.specs.declared.stop_and_status.Stop.TheVariants.{Read, TooLong, Refused, Write, Memory}
use Rattle.command_parts.specs.Talk.{Talk, faulty, long}
use Rattle.command_parts.specs.Task.{Answer, Task, writes, refuses, exceeds, none, reads, makes, talks}
use Rattle.command_parts.specs.Ends.{Lent, Kept, IsTold, Takes, TakesPart, Meets, WritesAll, WritesPart}
use Rattle.command_parts.specs.Ends.{IsTalkDone, IsTalkUnread, IsTalkCut, IsTalkEnded, IsTalkShort}
use Rattle.command_parts.specs.Stops.{StopsReading, status_at, note_of}

-- ---- it stopped before it wrote anything
-- what reads nothing
abbrev pub StopsMaking : Answer → Stop → Type 0
StopsMaking answer Read = ⊥
StopsMaking answer TooLong = answer ≡ exceeds
StopsMaking answer (Refused fault) = answer ≡ refuses fault.why fault.note.items
StopsMaking answer Write = ⊥
StopsMaking answer Memory = Unit {0}

abbrev pub StopsTask : {S : Type 0} → Lent S → Task → Stop → Type 0
StopsTask source (none usage) stop = ⊥
StopsTask source (reads answer) stop = StopsReading source answer stop
StopsTask source (makes answer) stop = Kept source × StopsMaking answer stop
StopsTask source (talks talk) stop = ⊥

-- ---- or it came to write its answer, and `Made` holds of what it made
-- on `out` alone
pub record HasWritten {S K T : Type 0} (source : Lent S) (out : Lent K) (task : Task) (Made : T → Type 0)
    (own : Ran T) : Type 0 where
  pub text : List ℕ
  pub meets : Meets source task (writes text)
  pub all : OnOk own.written (Takes out text)
  pub part : OnErr own.written (TakesPart out text)
  pub made : Made own.made

-- on `out` and on notes
pub record HasAnswered {S K E T : Type 0} (source : Lent S) (out : Lent K) (notes : Lent E) (task : Task)
    (Made : T → Type 0) (own : Ran T) : Type 0 where
  pub answer : Answer
  pub meets : Meets source task answer
  pub all : OnOk own.written (WritesAll out notes answer)
  pub part : OnErr own.written (WritesPart out notes answer)
  pub made : Made own.made

-- ---- what a command gives that writes on `out` alone, and any
pub record GivesAlone {S K T : Type 0} (source : Lent S) (out : Lent K) (task : Task) (Made : T → Type 0)
    (result : Result (Ran T) Stop) : Type 0 where
  pub ran : IfOk result (HasWritten source out task Made)
  pub stopped : IfErr result (StopsTask source task)
  pub nothing : OnErr result (Kept out)

pub record Gives {S K E T : Type 0} (source : Lent S) (out : Lent K) (notes : Lent E) (task : Task)
    (Made : T → Type 0) (result : Result (Ran T) Stop) : Type 0 where
  pub ran : IfOk result (HasAnswered source out notes task Made)
  pub stopped : IfErr result (StopsTask source task)
  pub nothing : OnErr result (Kept out × Kept notes)

-- ---- what a conversation gives, which writes on `out` as it goes
abbrev pub StopsTalk : {S K : Type 0} → Lent S → Lent K → Talk → Stop → Type 0
StopsTalk source out talk Read = IsTalkUnread source out talk
StopsTalk source out talk TooLong = IsTalkEnded source out talk long
StopsTalk source out talk (Refused fault) = IsTalkEnded source out talk (faulty fault.why fault.note.items)
StopsTalk source out talk Write = ⊥
StopsTalk source out talk Memory = IsTalkShort source out

pub record HasSaidAll {S K T : Type 0} (source : Lent S) (out : Lent K) (talk : Talk) (Made : T → Type 0)
    (own : Ran T) : Type 0 where
  pub all : OnOk own.written (IsTalkDone source out talk)
  pub part : OnErr own.written (IsTalkCut source out talk)
  pub made : Made own.made

pub record GivesTalk {S K T : Type 0} (source : Lent S) (out : Lent K) (talk : Talk) (Made : T → Type 0)
    (result : Result (Ran T) Stop) : Type 0 where
  pub ran : IfOk result (HasSaidAll source out talk Made)
  pub stopped : IfErr result (StopsTalk source out talk)

-- ---- its status, and what notes are told of it
pub record IsEnd {E T : Type 0} (notes : Lent E) (result : Result (Ran T) Stop) (status : ℕ) : Type 0 where
  pub done : IfOk result (λ (own : Ran T). OnOk own.written ((status ≡ 0) × Kept notes))
  pub cut : IfOk result (λ (own : Ran T). OnErr own.written ((status ≡ 4) × IsTold notes (note_of Write)))
  pub stopped : IfErr result (λ stop. (status ≡ status_at stop) × IsTold notes (note_of stop))
