-- What is left of the way to the place.
use Rattle.std.proofs.Common.{◌≡◌, length}
use Rattle.fate_engine.specs.Common.{ruled}
use Rattle.fate_engine.proofs.fate_core.frame_ruler.Ruler.reach_by_frames.Given as goal

abbrev pub invariant-loop-self : goal.invariant-loop-self
invariant-loop-self l = ruled l.place l.self.end l.self.sent l.self.waiting ≡ ruled l.place l.fn.self.end l.fn.self.sent
    l.fn.self.waiting

abbrev pub decreases-loop-self : goal.decreases-loop-self
decreases-loop-self l = length l.self.waiting
