-- The shares that come back have the workers that were dealt, later.
use Rattle.std.proofs.Common.{◌≡◌, ℕ, length, vec_len, sym, subst, arith}
use Rattle.std.specs.Global.{Vec}
use Rattle.thread_alarms.specs.declared.watched_line.served_line.ServedLine.{ServedLine}
use Rattle.thread_session.specs.session_parts.ServedLines.{AreBack}
use Rattle.thread_alarms.specs.watched_line.ServedWithPosts.{AreServedLater}
use Rattle.thread_session.proofs.WorkerShareAndPairListLaws.{zip-length, back-dealt}
use Rattle.thread_session.proofs.session_run.start_threads.lines_beside.Goals as goal

pub returns-clause-lines : goal.returns-clause-lines
returns-clause-lines g c =
    let lines = c.args.lines.items in
    let shares = c.args.room.shares in
    let dealt = c.deal-shares.result in
    let back = c.shares_beside-shares.result.0 in
    let later = c.shares_beside-shares.ensures.shares in
    let long = zip-length (λ (a b : Vec ServedLine). AreServedLater a.items b.items) dealt.items back.items later in
    let same : vec_len back ≡ vec_len shares =
    omega (arith, long, c.deal-shares.ensures.count, back.ok.0, dealt.ok.0) in
    let size : length lines ≡ c.len-count.result = omega (arith, c.len-count.ensures, c.args.lines.ok.0) in
    c.collect.ensures lines size c.requires.numbers
    (subst (λ (n : ℕ). AreBack lines n back.items) (sym same)
    (back-dealt lines (vec_len shares) dealt.items back.items c.deal-shares.ensures.dealt later))
