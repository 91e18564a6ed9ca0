-- What is written, with the lines that are left, is the text.
use Rattle.std.proofs.Common.{◌≡◌, ℕ, List, ◌++◌, length}
use Rattle.law_model.specs.Common.{Appends}
use Rattle.text_scripts.specs.rate_load.RateTexts.{lines_of, rate_text}
use Rattle.text_scripts.proofs.rate_load.write_rate_text.write_lines.Given as goal

abbrev pub invariant-loop-due : goal.invariant-loop-due
invariant-loop-due g l =
    (text : List ℕ) × (rate_text l.rate ≡ text ++ lines_of l.cursor)
    × Appends g.K.ByteSink.written g.K.ByteSink.faults l.fn.out l.out text

abbrev pub decreases-loop-due : goal.decreases-loop-due
decreases-loop-due g l = length l.cursor
