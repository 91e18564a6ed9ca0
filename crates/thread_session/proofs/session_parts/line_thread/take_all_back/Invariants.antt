-- Of the shares, whose first ones were taken back, the rest is still held, and looks at the flags from there on.
use Rattle.std.proofs.Common.{◌≡◌, ℕ, ◌+◌, List, ◌++◌, vec_len, slice_get, Some, vec_capacity}
use Rattle.std.specs.Global.{Vec}
use Rattle.std.specs.Vec.Iter.{into_iter_items, into_iter_len}
use Rattle.thread_alarms.specs.declared.watched_line.served_line.ServedLine.{ServedLine}
use Rattle.thread_session.specs.session_parts.ServedLines.{SharesLater}
use Rattle.thread_session.specs.declared.session_parts.stop_flag.Flag.{Flag}
use Rattle.thread_session.specs.declared.session_parts.line_thread.Held.{Held}
use Rattle.thread_session.specs.session_parts.Flags.{flag_of}
use Rattle.thread_session.specs.session_parts.HeldShares.{AreHeldOf, IsToldBy}
use Rattle.thread_session.proofs.session_parts.line_thread.take_all_back.Given as goal

abbrev pub invariant-loop-share : goal.invariant-loop-share
invariant-loop-share g l = record {
  count : vec_len l.shares + into_iter_len l.share-iterator ≡ vec_len l.fn.held;
  room : vec_capacity l.shares ≡ vec_capacity l.fn.room;
  told : (k : ℕ) (flag : Flag) (one : Held) → slice_get l.flags (vec_len l.shares + k) ≡ Some flag →
      slice_get (into_iter_items l.share-iterator) k ≡ Some one →
      IsToldBy (flag_of flag) one;
  each : (given : List (Vec ServedLine)) → AreHeldOf given l.fn.held.items →
      (rest : List (Vec ServedLine)) × AreHeldOf rest (into_iter_items l.share-iterator)
      × ((future : List (Vec ServedLine)) → SharesLater rest future → SharesLater given (l.shares.items ++ future));
}
