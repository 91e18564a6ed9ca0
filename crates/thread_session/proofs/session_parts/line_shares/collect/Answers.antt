-- The last worker of a share is that of the next line.
use Rattle.std.proofs.Common.{◌≡◌, ℕ, suc, ◌-◌, ◌%◌, ◌<◌, length, vec_len, take, drop, sym, ◌∙◌, ap, subst, arith}
use Rattle.std.specs.Prelude.{reverse}
use Rattle.thread_session.specs.session_parts.ServedLines.{AreBack}
use Rattle.thread_alarms.specs.watched_line.ServedWithPosts.{AreServedLater}
use Rattle.thread_session.proofs.WorkerShareAndPairListLaws.{taken-back}
use Rattle.thread_session.proofs.session_parts.line_shares.collect.Goals as goal

pub loop-line-preserved : goal.loop-line-preserved
loop-line-preserved c =
    let before = c.loop-line.invariant in
    let line = c.loop-line.line in
    let m = line - 1 in
    let n = vec_len c.args.shares in
    let shares = c.loop-line.shares in
    let place = m % c.len-shares_count.result in
    let next : suc m ≡ line = omega (arith, c.loop-line-test.true) in
    let within : place < length shares.items =
    omega (arith, before.count, c.requires.some, c.len-shares_count.ensures, shares.ok.0) in
    record {
      count = before.count;
      most = omega (arith, before.most, c.take_last.ensures.most, c.loop-line-test.true);
      room = c.take_last.ensures.capacity ∙ before.room;
      back = λ workers size numbers back.
          let had = before.back workers size numbers back in
          taken-back workers m n place shares.items c.index_mut.result.now c.take_last.new.share c.loop-line.lines.items
          c.take_last.new.lines.items
          (omega (arith, size, before.most, next)) numbers (ap (λ (k : ℕ). m % k) c.len-shares_count.ensures) within
          c.index_mut.ensures.value c.take_last.ensures.moved
          (subst (λ (k : ℕ). AreBack (take k workers) n shares.items ×
          AreServedLater (drop k workers) (reverse c.loop-line.lines.items)) (sym next) had);
    }
