-- The sizes so far, and the parts that are left.
use Rattle.std.proofs.Common.{◌≡◌, ◌+◌, ◌≤◌, ◌++◌, length, true}
use Rattle.std.specs.List.{list_all}
use Rattle.law_rates.specs.Limits.{most_sizes}
use Rattle.text_lines.specs.WordsOfLine.{is_number}
use Rattle.text_scripts.specs.script_read.Statements.{parts_of, sizes_of, is_size}
use Rattle.text_scripts.proofs.script_read.stream_words.ranged_sizes.Given as goal

abbrev pub invariant-loop-size : goal.invariant-loop-size
invariant-loop-size l = record {
  numbers : list_all is_number (parts_of l.rest) ≡ true;
  sizes : sizes_of l.word ≡ l.sizes ++ sizes_of l.rest;
  all : list_all is_size (sizes_of l.word) ≡ list_all is_size (sizes_of l.rest);
  few : length l.sizes + length (parts_of l.rest) ≤ most_sizes;
}

abbrev pub decreases-loop-size : goal.decreases-loop-size
decreases-loop-size l = length l.rest
