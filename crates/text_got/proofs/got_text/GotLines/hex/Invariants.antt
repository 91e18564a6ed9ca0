-- The digits of the octets so far are written.
use Rattle.std.proofs.Common.{◌≤◌, ◌-◌, ℕ, List, ◌++◌, length, take}
use Rattle.hex.specs.Hex.{encode_lower}
use Rattle.law_model.specs.Common.{Start}
use Rattle.text_got.specs.TextSoFar.{HasText}
use Rattle.text_got.proofs.got_text.GotLines.hex.Given as goal

abbrev pub invariant-loop-at : goal.invariant-loop-at
invariant-loop-at g l = record {
  within : l.at ≤ length l.octets;
  grows : (start : Start) (before : List ℕ) → HasText g.K.ByteSink.written g.K.ByteSink.faults l.fn.self start before
      → HasText g.K.ByteSink.written g.K.ByteSink.faults l.self start (before ++ encode_lower (take l.at l.octets));
}

abbrev pub decreases-loop-at : goal.decreases-loop-at
decreases-loop-at g l = length l.octets - l.at
