-- The stream is made by the ticks so far.
use Rattle.std.proofs.Common.{◌≡◌, ℕ}
use Rattle.law_model.specs.Common.{leg_of}
use Rattle.fate_engine.specs.Common.{ruler_of}
use Rattle.fate_walks.specs.walk_frames.StreamInTicks.{stream_in, Between}
use Rattle.fate_walks.proofs.walk_fates.frame_places.reach_ticks.Given as goal

abbrev pub invariant-loop-t : goal.invariant-loop-t
invariant-loop-t l = (frames : ℕ) → Between (leg_of l.walk.script) frames l.from l.to →
    l.fn.ruler ≡ ruler_of (stream_in (leg_of l.walk.script) l.from frames) →
    l.ruler ≡ ruler_of (stream_in (leg_of l.walk.script) l.t frames)
