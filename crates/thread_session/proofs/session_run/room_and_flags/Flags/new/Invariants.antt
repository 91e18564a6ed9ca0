-- So many flags were made, and there is room for the others.
use Rattle.std.proofs.Common.{◌≡◌, ◌≤◌, vec_len, vec_capacity}
use Rattle.thread_session.proofs.session_run.room_and_flags.Flags.new.Given as goal

abbrev pub invariant-loop : goal.invariant-loop
invariant-loop l = record { count : vec_len l.lines ≡ l.counter; room : l.workers ≤ vec_capacity l.lines }
