-- Spaces in front change no word.
use Rattle.std.proofs.Common.{◌≡◌, ◌≤◌, length}
use Rattle.text_lines.specs.WordsOfLine.{words}
use Rattle.text_lines.proofs.split_words.trim_start.Given as goal

abbrev pub invariant-loop-text : goal.invariant-loop-text
invariant-loop-text l = record { words : words l.text ≡ words l.fn.text; shorter : length l.text ≤ length l.fn.text }

abbrev pub decreases-loop-text : goal.decreases-loop-text
decreases-loop-text l = length l.text
