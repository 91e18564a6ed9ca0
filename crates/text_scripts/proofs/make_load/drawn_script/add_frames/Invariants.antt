-- The frames so far, and those that are left.
use Rattle.std.proofs.Common.{◌≡◌, ◌-◌, ◌+◌, ◌*◌, ◌++◌, length}
use Rattle.text_scripts.specs.make_load.Load.{frames, frame_count}
use Rattle.text_scripts.proofs.make_load.drawn_script.add_frames.Given as goal

abbrev pub invariant-loop-k : goal.invariant-loop-k
invariant-loop-k l = record {
  are : l.fn.items ++ frames (frame_count l.fn.ticks) 0 l.fn.draws.state ≡ l.items ++ frames
      (frame_count l.fn.ticks - l.k) (8 * l.k) l.draws.state;
  few : length l.items ≡ length l.fn.items + l.k;
}
