-- A buffer for each turn so far, each with room for a frame, and room for all of them.
use Rattle.std.proofs.Common.{◌≡◌, ◌≤◌, vec_len, All, vec_capacity}
use Rattle.gfp_fill.specs.Store.{HasFrameRoom}
use Rattle.gfp_fill.proofs.frame_store.FrameStore.new.Given as goal

abbrev pub invariant-loop : goal.invariant-loop
invariant-loop g l = record {
  made : vec_len l.spare ≡ l.counter;
  spares : g.row.MOST ≤ vec_capacity l.spare;
  room : All HasFrameRoom l.spare.items;
}
