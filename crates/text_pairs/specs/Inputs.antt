-- Commands that run the two scripts which their input says.
use Rattle.std.specs.Prelude.{◌≡◌, List, ℕ, Ok, Err, Result}
use Rattle.command_parts.specs.Common.{Answer, Lent, HasRead, IsRefusedAs, answer_told}
use Rattle.command_parts.specs.declared.stop_and_status.Refusal.{Refusal}
use Rattle.command_parts.specs.declared.stop_and_status.Stop.{Stop}
use Rattle.text_pairs.specs.declared.script_pair.ScriptPair.{ScriptPair}
use Rattle.text_pairs.specs.declared.script_pair.PairFault.{PairFault}
use Rattle.text_pairs.specs.declared.pair_reader.PairReader.{PairReader}
use Rattle.text_pairs.specs.PairOfText.{pair_of}
use Rattle.text_pairs.specs.Pieces.{IsPairReader, StandsAt}
use Rattle.text_pairs.specs.Faults.{pair_fault_text, pair_why}

-- what is said, or why a text doesn't say two scripts, and the note on that; no text wants for memory
abbrev pub pair_told : {T : Type 0} → Result T PairFault → Result T (Refusal × List ℕ)
pair_told (Ok said) = Ok said
pair_told (Err fault) = Err (pair_why fault, pair_fault_text fault)

-- what is answered of that
abbrev pub pair_answer_of : (ScriptPair → Answer) → Result ScriptPair PairFault → Answer
pair_answer_of writes of = answer_told writes (pair_told of)

abbrev pub pair_answer : (ScriptPair → Answer) → List ℕ → Answer
pair_answer writes text = pair_answer_of writes (pair_of text)

-- the text of these scripts was read
pub record HasPair {S : Type 0} (source : Lent S) (pair : ScriptPair) : Type 0 where
  pub text : List ℕ
  pub read : HasRead source text
  pub says : pair_of text ≡ Ok pair

-- a command was refused for this fault
abbrev pub IsPairRefused : PairFault → Stop → Type 0
IsPairRefused fault = IsRefusedAs (pair_why fault) (pair_fault_text fault)

-- a reader of two scripts was made by its calls, and has read this text, which ends where a line does
pub record ReadsPair (reader : PairReader) (text : List ℕ) : Type 0 where
  pub made : IsPairReader reader
  pub stands : StandsAt reader text
