-- The words so far are plain.
use Rattle.std.proofs.Common.{◌≡◌, map, take, true, string_bytes}
use Rattle.std.specs.List.{list_all}
use Rattle.command_words.specs.CommandLineWords.{is_plain}
use Rattle.command_words.proofs.plain_words.is_plain_line.Given as goal

abbrev pub invariant-loop-word : goal.invariant-loop-word
invariant-loop-word l = list_all is_plain (map string_bytes (take l.word-index l.words)) ≡ true
