-- The digits read so far, and their value.
use Rattle.std.proofs.Common.{◌≡◌, ◌<◌, ◌^◌, take, drop, true}
use Rattle.std.specs.List.{list_all}
use Rattle.text_lines.specs.WordsOfLine.{number_after, number_of, is_digit}
use Rattle.text_scripts.proofs.script_read.stream_words.read_digits.Given as goal

abbrev pub invariant-loop-c : goal.invariant-loop-c
invariant-loop-c l = record {
  value : number_after l.n (drop l.c-index l.word) ≡ number_of l.word;
  digits : list_all is_digit (take l.c-index l.word) ≡ true;
  small : l.n < 10 ^ l.c-index;
}
