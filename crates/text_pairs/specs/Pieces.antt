-- Where a reader of two scripts stands in a text that comes in pieces.
use Rattle.std.specs.Prelude.{◌≡◌, ℕ, ◌+◌, ◌≤◌, List, ◌++◌, length, Option, Some, IfSome, Result}
use Rattle.std.specs.Str.Lines.{lines}
use Rattle.text_lines.specs.Language.{said_from, said_by}
use Rattle.text_scripts.specs.declared.script_read.script_fault.ScriptFault.TheVariants.{Memory}
use Rattle.text_scripts.specs.script_read.ScriptInPieces.{IsReader, IsUntested, next_number, drafted}
use Rattle.law_model.specs.Common.{longest_input}
use Rattle.text_pairs.specs.declared.script_pair.PairFault.{PairFault}
use Rattle.text_pairs.specs.declared.script_pair.PairFault.TheVariants.{Script}
use Rattle.text_pairs.specs.declared.pair_reader.PairReader.{PairReader}
use Rattle.text_pairs.specs.PairTextLines.{Halves, HalfFault, pair_lines}
use Rattle.text_pairs.specs.PairOfText.{fault_at}

-- memory was short
abbrev pub no_memory : PairFault
no_memory = Script Memory

-- ---- what the lines so far say
-- the number of the line that is read next
abbrev pub line_at : PairReader → ℕ
line_at reader = next_number reader.reader

abbrev pub halves_of : PairReader → Halves
halves_of reader = record { there = reader.there; now = drafted reader.reader }

-- it reads a line of this number next, after lines that say this
pub record IsPairAt (reader : PairReader) (n : ℕ) (h : Halves) : Type 0 where
  pub number : line_at reader ≡ n
  pub halves : halves_of reader ≡ h

-- the line of a number has a fault, and is told
pub record IsPairToldAt (n : ℕ) (found : Option HalfFault) (told : PairFault) : Type 0 where
  pub wrong : HalfFault
  pub fails : found ≡ Some wrong
  pub is : told ≡ fault_at n wrong

-- what a text says after those lines
abbrev pub said_after : PairReader → List ℕ → Result Halves (ℕ × HalfFault)
said_after reader text = said_from pair_lines (line_at reader) (halves_of reader) (lines text)

-- ---- a text in pieces
-- it was made by its calls
pub record IsPairReader (reader : PairReader) : Type 0 where
  pub reads : IsReader reader.reader
  pub there : IfSome reader.there IsUntested

-- it has read this text, which ends where a line does: whatever follows is read from there
pub record StandsAt (reader : PairReader) (text : List ℕ) : Type 0 where
  pub said : (more : List ℕ) → said_by pair_lines (text ++ more) ≡ said_after reader more
  pub count : line_at reader ≤ length text + 1

-- so many octets may follow, by the number of lines that were read
abbrev pub HasPairRoom : PairReader → ℕ → Type 0
HasPairRoom reader n = line_at reader + n ≤ longest_input + 1

-- it has read all of a text but this rest
pub record FollowsIn (reader : PairReader) (rest all : List ℕ) : Type 0 where
  pub text : List ℕ
  pub is : all ≡ text ++ rest
  pub stands : StandsAt reader text
