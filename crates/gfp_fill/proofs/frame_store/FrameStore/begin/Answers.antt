-- The buffer of the frame that was being sent goes to the spare ones, and that of the oldest frame takes its place.
use Rattle.std.proofs.Common.{sym, arith}
use Rattle.std.proofs.lemmas.List.Elements.{All-head, All-rest, All-push, All-same}
use Rattle.gfp_fill.specs.Store.{HoldsFrame, HasFrameRoom}
use Rattle.gfp_fill.proofs.frame_store.FrameStore.begin.Goals as goal

pub replace-requires : goal.replace-requires
replace-requires g c =
    (All-head HoldsFrame c.in-Some.frame c.pop_front.new.self.items
    (All-same HoldsFrame _ _ (sym c.in-Some.ensures.items) c.self.invariant.frames)).1

pub invariant_of-self : goal.invariant_of-self
invariant_of-self g c =
    let store = c.self.invariant in
    record {
      count = omega (arith, c.in-Some.ensures.cases);
      places = omega arith;
      spares = omega arith;
      frames = All-rest HoldsFrame c.in-Some.frame _ _ c.in-Some.ensures.items store.frames;
      room = All-same HasFrameRoom _ _ c.put_back.ensures.items (All-push HasFrameRoom _ _ store.room c.replace.ensures.room);
    }
