-- The words counted so far and those that are left.
use Rattle.std.proofs.Common.{◌≡◌, ◌≤◌, ◌+◌, length}
use Rattle.text_lines.specs.WordsOfLine.{words}
use Rattle.text_lines.proofs.split_words.count_words.Given as goal

abbrev pub invariant-loop-further : goal.invariant-loop-further
invariant-loop-further l =
    record {
      words : l.count + length (words l.rest) ≡ length (words l.line);
      shorter : l.count + length l.rest ≤ length l.line;
    }

abbrev pub decreases-loop-further : goal.decreases-loop-further
decreases-loop-further l = length l.rest
