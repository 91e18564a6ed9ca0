-- The octets so far are no spaces.
use Rattle.std.proofs.Common.{take}
use Rattle.text_lines.specs.Cut.{Lacks}
use Rattle.text_lines.proofs.split_words.cut_space.Given as goal

abbrev pub invariant-loop-i : goal.invariant-loop-i
invariant-loop-i l = Lacks 32 (take l.i l.text)
