-- One share more is empty, and has room.
use Rattle.std.proofs.Common.{subst, sym, rules, arith}
use Rattle.thread_session.specs.session_parts.ServedLines.{HaveRoom}
use Rattle.thread_session.proofs.WorkerShareAndPairListLaws.{room-none, room-more}
use Rattle.thread_session.proofs.session_run.room_and_flags.empty_shares.Goals as goal

pub loop-init : goal.loop-init
loop-init c = record {
  count = search rules;
  places = omega (arith, c.in_ok-shares.ensures.capacity);
  room = subst (HaveRoom c.args.lines) (sym c.in_ok-shares.ensures.items) (room-none c.args.lines);
}

pub loop-preserved : goal.loop-preserved
loop-preserved c = record {
  count = search rules;
  places = omega arith;
  room = subst (HaveRoom c.args.lines) (sym c.push_reserved.ensures.items)
      (room-more c.args.lines c.loop.shares.items c.in_ok-with_capacity.field-0 c.loop.invariant.room
      c.in_ok-with_capacity.ensures.items c.in_ok-with_capacity.ensures.capacity);
}
