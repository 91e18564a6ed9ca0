-- What is left in the shares, and the workers that were taken back, last line first.
use Rattle.std.proofs.Common.{◌≡◌, ◌+◌, ◌≤◌, List, length, vec_len, take, drop, reverse, vec_capacity}
use Rattle.thread_alarms.specs.declared.watched_line.served_line.ServedLine.{ServedLine}
use Rattle.thread_session.specs.session_parts.ServedLines.{AreNumbered, AreBack}
use Rattle.thread_alarms.specs.watched_line.ServedWithPosts.{AreServedLater}
use Rattle.thread_session.proofs.session_parts.line_shares.collect.Given as goal

abbrev pub invariant-loop-line : goal.invariant-loop-line
invariant-loop-line l = record {
  count : vec_len l.shares ≡ vec_len l.fn.shares;
  most : vec_len l.lines + l.line ≤ l.fn.count;
  room : vec_capacity l.lines ≡ vec_capacity l.fn.room;
  back : (workers : List ServedLine) → length workers ≡ l.fn.count → AreNumbered 0 workers →
      AreBack workers (vec_len l.fn.shares) l.fn.shares.items →
      AreBack (take l.line workers) (vec_len l.fn.shares) l.shares.items ×
      AreServedLater (drop l.line workers) (reverse l.lines.items);
}

abbrev pub decreases-loop-line : goal.decreases-loop-line
decreases-loop-line l = l.line
