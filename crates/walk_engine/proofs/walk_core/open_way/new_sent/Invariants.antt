-- The frames so far have a place for each line.
use Rattle.std.proofs.Common.{◌≡◌, length, All}
use Rattle.std.specs.Global.{Vec, Box}
use Rattle.law_model.specs.Common.{Container}
use Rattle.walk_engine.proofs.walk_core.open_way.new_sent.Given as goal

abbrev pub invariant-loop : goal.invariant-loop
invariant-loop l = (length l.sent.items ≡ l.counter) ×
    All (λ (frame : Vec (Box Container)). length frame.items ≡ l.lines) l.sent.items
