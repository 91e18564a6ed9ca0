-- The words read so far have no fault, and these values.
use Rattle.std.proofs.Common.{◌≡◌, ◌+◌, ◌++◌, length, map}
use Rattle.text_lines.specs.WordsOfLine.{words, number_of}
use Rattle.text_scripts.proofs.StatementAndWordFaultLaws.{line_faults}
use Rattle.text_scripts.proofs.script_read.network_words.read_delays.Given as goal

abbrev pub invariant-loop-word : goal.invariant-loop-word
invariant-loop-word l = record {
  faults : line_faults 2 (words l.fn.rest) ≡ line_faults (length l.delays.items + 2) (words l.further);
  values : map number_of (words l.fn.rest) ≡ l.delays.items ++ map number_of (words l.further);
}

abbrev pub decreases-loop-word : goal.decreases-loop-word
decreases-loop-word l = length l.further
