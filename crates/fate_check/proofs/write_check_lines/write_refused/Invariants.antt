-- The items so far are told.
use Rattle.std.proofs.Common.{◌≡◌, ℕ, List, ◌++◌, length}
use Rattle.octet_io.specs.Start.{Start}
use Rattle.law_model.specs.Common.{leg_of}
use Rattle.law_model.specs.declared.item_refusals.Refusal.{Refusal}
use Rattle.law_walk.specs.Common.{refusals_of}
use Rattle.text_got.specs.TextSoFar.{HasText}
use Rattle.fate_check.specs.CheckText.{refused_items}
use Rattle.fate_check.proofs.write_check_lines.write_refused.Given as goal

abbrev pub invariant-loop-item : goal.invariant-loop-item
invariant-loop-item g l =
    (told : List (ℕ × Refusal)) × (told ++ l.refusals ≡ refusals_of (leg_of l.walk.script) l.walk.counts)
    × ((start : Start) (before : List ℕ) →
    HasText g.K.ByteSink.written g.K.ByteSink.faults l.fn.got start before →
    HasText g.K.ByteSink.written g.K.ByteSink.faults l.got start (before ++ refused_items told))

abbrev pub decreases-loop-item : goal.decreases-loop-item
decreases-loop-item g l = length l.refusals
