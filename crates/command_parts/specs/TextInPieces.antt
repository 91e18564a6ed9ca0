-- A text that comes in pieces, and what it says.
use Rattle.std.specs.Prelude.{◌≡◌, ℕ, ◌≤◌, List, ◌++◌, length, Ok, Err, Result}
use Rattle.law_model.specs.Common.{longest_input}
use Rattle.command_parts.specs.declared.stop_and_status.Refusal.{Refusal}
use Rattle.command_parts.specs.declared.stop_and_status.Stop.{Stop}
use Rattle.command_parts.specs.declared.stop_and_status.Stop.TheVariants.{Read, TooLong, Refused, Write, Memory}
use Rattle.command_parts.specs.Task.{Answer, refuses}

-- what is answered of what a text says, and of why it isn't what a command takes, with the note on that
abbrev pub answer_told : {A : Type 0} → (A → Answer) → Result A (Refusal × List ℕ) → Answer
answer_told writes (Ok said) = writes said
answer_told writes (Err told) = refuses told.0 told.1

-- a text that says this stops its reader for this cause; memory may be short in place of any
abbrev pub StopsAt : {A : Type 0} → Result A (Refusal × List ℕ) → Stop → Type 0
StopsAt said Read = ⊥
StopsAt said TooLong = ⊥
StopsAt said (Refused fault) = said ≡ Err (fault.why, fault.note.items)
StopsAt said Write = ⊥
StopsAt said Memory = Unit {0}

-- a reader has read all of a text but this rest
pub record Follows {R : Type 0} (Reads : R → List ℕ → Type 0) (reader : R) (rest all : List ℕ) : Type 0 where
  pub text : List ℕ
  pub is : all ≡ text ++ rest
  pub reads : Reads reader text

-- and the text isn't longer than an input may be
pub record HasNumbersLeft {R : Type 0} (Reads : R → List ℕ → Type 0) (reader : R) (rest : List ℕ) : Type 0 where
  pub all : List ℕ
  pub follows : Follows Reads reader rest all
  pub fits : length all ≤ longest_input
