-- Whatever the rest is held of, all is held of the shares.
use Rattle.std.proofs.Common.{◌≡◌, ◌+◌, List, ◌++◌, vec_len, vec_capacity}
use Rattle.std.specs.Vec.Iter.{into_iter_items, into_iter_len}
use Rattle.thread_session.specs.declared.session_parts.line_thread.Held.{Held}
use Rattle.thread_session.specs.session_parts.HeldShares.{AreHeldOf, AreToldBy}
use Rattle.thread_session.proofs.session_parts.line_thread.start_shares.Given as goal

abbrev pub invariant-loop-workers : goal.invariant-loop-workers
invariant-loop-workers g l = record {
  count : vec_len l.held + into_iter_len l.workers-iterator ≡ vec_len l.fn.shares;
  room : vec_capacity l.held ≡ vec_capacity l.fn.room;
  told : AreToldBy l.flags l.held.items;
  each : (future : List Held) → AreHeldOf (into_iter_items l.workers-iterator) future →
      AreHeldOf l.fn.shares.items (l.held.items ++ future);
}
