-- The failures so far are told and counted.
use Rattle.std.proofs.Common.{◌≡◌, ◌≤◌, ℕ, List, ◌++◌, length, take}
use Rattle.law_model.specs.Common.{Start, leg_of}
use Rattle.text_got.specs.TextSoFar.{HasText}
use Rattle.fate_check.specs.IdleWindows.{idle_among}
use Rattle.fate_check.specs.CheckText.{idle_texts}
use Rattle.fate_check.proofs.write_check_lines.write_idle_on.Given as goal

abbrev pub invariant-loop-window : goal.invariant-loop-window
invariant-loop-window g l =
    (l.idle ≡ length (idle_among (leg_of l.walk.script) l.walk.counts.rows l.member (take l.window-index l.windows)))
    × (l.idle ≤ l.window-index)
    × ((start : Start) (before : List ℕ) → HasText g.K.ByteSink.written g.K.ByteSink.faults l.fn.got start before →
    HasText g.K.ByteSink.written g.K.ByteSink.faults l.got start
    (before ++ idle_texts (idle_among (leg_of l.walk.script) l.walk.counts.rows l.member (take l.window-index l.windows))))
