-- The characters so far are digits.
use Rattle.std.proofs.Common.{take}
use Rattle.std.specs.List.{AllPass}
use Rattle.hex.specs.Hex.{is_hex_digit}
use Rattle.text_live.proofs.frame_digits.is_hex.Given as goal

abbrev pub invariant-loop-c : goal.invariant-loop-c
invariant-loop-c l = AllPass is_hex_digit (take l.c-index l.fn.text)
