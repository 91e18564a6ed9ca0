-- The failures of the lines so far are told and counted.
use Rattle.std.proofs.Common.{◌≡◌, ◌≤◌, ◌*◌, ℕ, List, ◌++◌, length}
use Rattle.law_model.specs.Common.{Start, leg_of}
use Rattle.text_got.specs.TextSoFar.{HasText}
use Rattle.fate_check.specs.CheckText.{idle_texts}
use Rattle.fate_check.proofs.CheckTextAndEarlyFrameLaws.{idle_before}
use Rattle.fate_check.proofs.write_check_lines.write_idle.Given as goal

abbrev pub invariant-loop-member : goal.invariant-loop-member
invariant-loop-member g l =
    (l.idle ≡ length (idle_before (leg_of l.walk.script) l.walk.counts.rows l.member))
    × (l.idle ≤ 256 * l.member)
    × ((start : Start) (before : List ℕ) → HasText g.K.ByteSink.written g.K.ByteSink.faults l.fn.got start before →
    HasText g.K.ByteSink.written g.K.ByteSink.faults l.got start
    (before ++ idle_texts (idle_before (leg_of l.walk.script) l.walk.counts.rows l.member)))
