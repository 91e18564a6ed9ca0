-- What the lines read so far say; the rest of the text is read from there.
use Rattle.std.proofs.Common.{◌≡◌, ◌≤◌, ◌+◌, length}
use Rattle.std.specs.Str.Lines.{lines}
use Rattle.text_lines.specs.Language.{said_from}
use Rattle.text_scripts.specs.script_read.Script.{script_lines}
use Rattle.text_scripts.specs.script_read.ScriptInPieces.{IsReader}
use Rattle.text_scripts.proofs.script_read.script_reader.ScriptReader.read_rest.Given as goal

abbrev pub invariant-loop-line : goal.invariant-loop-line
invariant-loop-line l = record {
  value : said_from script_lines l.fn.self.number l.fn.self.draft (lines l.fn.text)
      ≡ said_from script_lines l.self.number l.self.draft (lines l.rest);
  reader : IsReader l.self;
  small : l.self.number + length l.rest ≤ l.fn.self.number + length l.fn.text;
}

abbrev pub decreases-loop-line : goal.decreases-loop-line
decreases-loop-line l = length l.rest
