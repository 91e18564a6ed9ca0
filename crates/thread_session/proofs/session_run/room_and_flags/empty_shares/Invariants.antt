-- The shares so far are empty, and have room; and there is room for the others.
use Rattle.std.proofs.Common.{◌≡◌, ◌≤◌, vec_len, vec_capacity}
use Rattle.thread_session.specs.session_parts.ServedLines.{HaveRoom}
use Rattle.thread_session.proofs.session_run.room_and_flags.empty_shares.Given as goal

abbrev pub invariant-loop : goal.invariant-loop
invariant-loop l = record {
  count : vec_len l.shares ≡ l.counter;
  places : l.workers ≤ vec_capacity l.shares;
  room : HaveRoom l.lines l.shares.items;
}
