-- What the lines read so far say; the rest of the text is read from there.
use Rattle.std.proofs.Common.{◌≡◌, ◌≤◌, ◌+◌, length}
use Rattle.std.specs.Str.Lines.{lines}
use Rattle.text_lines.specs.Language.{said_from, said_by}
use Rattle.text_lines.specs.LanguageTable.{told, language_of}
use Rattle.text_lines.proofs.read_by_table.read_text.Given as goal

abbrev pub invariant-loop-line : goal.invariant-loop-line
invariant-loop-line g l = record {
  value : said_by (language_of g.D.LineTable.table) l.fn.text
      ≡ said_from (language_of g.D.LineTable.table) l.number (told l.draft l.last) (lines l.rest);
  small : l.number + length l.rest ≤ length l.fn.text + 1;
}

abbrev pub decreases-loop-line : goal.decreases-loop-line
decreases-loop-line g l = length l.rest
