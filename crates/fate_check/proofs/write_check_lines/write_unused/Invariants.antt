-- The lines so far are told and counted.
use Rattle.std.proofs.Common.{◌≡◌, ◌≤◌, ℕ, List, ◌++◌, length}
use Rattle.std.specs.List.{flat_map, range_with_len}
use Rattle.law_model.specs.Common.{Start, leg_of}
use Rattle.text_got.specs.TextSoFar.{HasText}
use Rattle.fate_check.specs.UsedLines.{unused_among}
use Rattle.fate_check.specs.CheckText.{unused_text}
use Rattle.fate_check.proofs.write_check_lines.write_unused.Given as goal

abbrev pub invariant-loop-member : goal.invariant-loop-member
invariant-loop-member g l =
    (l.unused ≡ length (unused_among (leg_of l.walk.script) l.walk.counts.rows (range_with_len 0 l.member)))
    × (l.unused ≤ l.member)
    × ((start : Start) (before : List ℕ) → HasText g.K.ByteSink.written g.K.ByteSink.faults l.fn.got start before →
    HasText g.K.ByteSink.written g.K.ByteSink.faults l.got start
    (before ++ flat_map unused_text (unused_among (leg_of l.walk.script) l.walk.counts.rows (range_with_len 0 l.member))))
