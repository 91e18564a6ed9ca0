-- None of the lines so far has a full ring.
use Rattle.std.proofs.Common.{◌≡◌, drop, map}
use Rattle.law_model.specs.Common.{full}
use Rattle.walk_engine.specs.Common.{line_counts}
use Rattle.walk_engine.proofs.walk_core.send_rings.first_full.Given as goal

abbrev pub invariant-loop-m : goal.invariant-loop-m
invariant-loop-m l = full l.total l.ticks l.m (map line_counts (drop l.m l.lines)) ≡ full l.total l.ticks 0
    (map line_counts l.lines)
