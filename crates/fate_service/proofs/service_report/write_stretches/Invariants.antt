-- The stretches so far are written.
use Rattle.std.proofs.Common.{◌≡◌, ◌≤◌, ◌+◌, ◌-◌, ℕ, List, ◌++◌}
use Rattle.law_model.specs.Common.{Start, leg_of}
use Rattle.text_got.specs.TextSoFar.{HasText}
use Rattle.fate_service.specs.Stretches.{spans_on, spans_of}
use Rattle.fate_service.specs.ServiceText.{known_of, stretches_text}
use Rattle.fate_service.proofs.service_report.write_stretches.Given as goal

abbrev pub invariant-loop-first : goal.invariant-loop-first
invariant-loop-first g l = (l.first ≤ 200000001) × ((done : List ℕ) × (left : ℕ) × (l.told ≤ l.first + left)
    × (done ++ stretches_text (known_of (leg_of l.walk.script) l.walk.counts) (spans_on left l.interval l.first l.told)
    ≡ stretches_text (known_of (leg_of l.walk.script) l.walk.counts) (spans_of l.interval l.told))
    × ((start : Start) (before : List ℕ) → HasText g.K.ByteSink.written g.K.ByteSink.faults l.fn.got start before →
    HasText g.K.ByteSink.written g.K.ByteSink.faults l.got start (before ++ done)))

abbrev pub decreases-loop-first : goal.decreases-loop-first
decreases-loop-first g l = l.told - l.first
