-- What the lines say that were read of a piece, whatever follows them.
use Rattle.std.proofs.Common.{◌≡◌, ℕ, ◌≤◌, ◌+◌, ◌-◌, List, ◌++◌, length, take, drop}
use Rattle.std.specs.Str.Lines.{lines}
use Rattle.text_lines.specs.Language.{said_from}
use Rattle.text_scripts.specs.script_read.Script.{script_lines}
use Rattle.text_scripts.specs.script_read.ScriptInPieces.{IsReader}
use Rattle.text_scripts.proofs.script_read.script_reader.ScriptReader.read_lines.Given as goal

abbrev pub invariant-loop-line : goal.invariant-loop-line
invariant-loop-line l = record {
  read : (more : List ℕ) → said_from script_lines l.fn.self.number l.fn.self.draft
      (lines (take (length l.fn.piece - length l.rest) l.fn.piece ++ more))
      ≡ said_from script_lines l.self.number l.self.draft (lines more);
  rest : l.rest ≡ drop (length l.fn.piece - length l.rest) l.fn.piece;
  within : length l.rest ≤ length l.fn.piece;
  reader : IsReader l.self;
  small : l.self.number + length l.rest ≤ l.fn.self.number + length l.fn.piece;
}

abbrev pub decreases-loop-line : goal.decreases-loop-line
decreases-loop-line l = length l.rest
