-- The parts so far are numbers, and are counted.
use Rattle.std.proofs.Common.{◌≡◌, ◌+◌, ◌≤◌, length}
use Rattle.std.specs.List.{list_all}
use Rattle.text_lines.specs.WordsOfLine.{is_number}
use Rattle.text_scripts.specs.script_read.Statements.{parts_of}
use Rattle.text_scripts.proofs.script_read.stream_words.count_numbers.Given as goal

abbrev pub invariant-loop-later : goal.invariant-loop-later
invariant-loop-later l = record {
  all : list_all is_number (parts_of l.word) ≡ list_all is_number (parts_of l.rest);
  count : l.count + length (parts_of l.rest) ≡ length (parts_of l.word);
  small : l.count + length l.rest ≤ length l.word;
}

abbrev pub decreases-loop-later : goal.decreases-loop-later
decreases-loop-later l = length l.rest
