-- What is replied to the lines of a live text of any kind, each behind those before it: what is answered to it, or what is
-- wrong with it.
use Rattle.std.specs.Prelude.{ℕ, List, Bool, Option, Some, None, Ok, Err}
use Rattle.command_parts.specs.declared.stop_and_status.Refusal.{Refusal}
use Rattle.command_parts.specs.Dialogue.{Dialogue, Reply}
use Rattle.walk_live.specs.declared.asked.Asked.{Asked}

-- the cause of a fault and the note on it, where there is one
abbrev pub FaultNote : Type 0
FaultNote = Option (Refusal × List ℕ)

-- a kind of live texts, by the lines so far
pub record LiveText : Type 0 where
  -- a live line is among them
  pub begun : List (List ℕ) → Bool
  -- what is wrong with a line behind them, and with their text if it ends there
  pub fault : List (List ℕ) → List ℕ → FaultNote
  pub missing : List (List ℕ) → FaultNote
  -- what is answered to a line behind them, by what is asked for, and to the end
  pub answer : Asked → List (List ℕ) → List ℕ → List ℕ
  pub last : List (List ℕ) → List ℕ

-- a text; or the note on what is wrong
abbrev pub reply_by : FaultNote → List ℕ → Reply
reply_by None text = Ok text
reply_by (Some note) text = Err note

-- by what is asked for
abbrev pub dialogue_of : LiveText → Asked → Dialogue
dialogue_of text asked = record {
  reply = λ ls line. reply_by (text.fault ls line) (text.answer asked ls line);
  last = λ ls. reply_by (text.missing ls) (text.last ls);
}
