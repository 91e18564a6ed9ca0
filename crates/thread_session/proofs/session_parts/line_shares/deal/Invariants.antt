-- Each share has its workers of those that were dealt.
use Rattle.std.proofs.Common.{◌≡◌, ℕ, ◌+◌, ◌≤◌, ◌++◌, length, vec_len, slice_get, Some, vec_capacity}
use Rattle.std.specs.Global.{Vec}
use Rattle.std.specs.Vec.Iter.{into_iter_items, into_iter_len}
use Rattle.thread_alarms.specs.declared.watched_line.served_line.ServedLine.{ServedLine}
use Rattle.thread_session.specs.session_parts.ServedLines.{AreNumbered, share_of}
use Rattle.thread_session.proofs.session_parts.line_shares.deal.Given as goal

abbrev pub invariant-loop-worker : goal.invariant-loop-worker
invariant-loop-worker l = record {
  count : (l.count ≡ vec_len l.fn.shares) × (vec_len l.shares ≡ vec_len l.fn.shares);
  left : l.line + into_iter_len l.worker-iterator ≡ vec_len l.fn.lines;
  numbers : AreNumbered l.line (into_iter_items l.worker-iterator);
  room : (w : ℕ) (share : Vec ServedLine) → slice_get l.shares.items w ≡ Some share → (length share.items ≤ l.line) ×
      (vec_len l.fn.lines ≤ vec_capacity share);
  dealt : (w : ℕ) (share : Vec ServedLine) → slice_get l.shares.items w ≡ Some share →
      share.items ++ share_of (vec_len l.fn.shares) w (into_iter_items l.worker-iterator) ≡ share_of
      (vec_len l.fn.shares) w l.fn.lines.items;
}
