-- The list has room for what the posts keep, and then it has all that was posted.
use Rattle.std.proofs.Common.{◌≡◌, ◌≤◌, ◌+◌, ◌*◌, ◌++◌, length, map, ap, ap₂, sym, ◌∙◌, subst, arith, IsPermutation}
use Rattle.std.proofs.Common.{vec_capacity}
use Rattle.crossbeam_queue.specs.Passes.{view}
use Rattle.thread_alarms.specs.alarm_log.Alarms.{in_row, of_line}
use Rattle.thread_alarms.specs.alarm_log.Views.{got_of}
use Rattle.thread_alarms.specs.alarm_log.Posts.{number_of, put_by, kept_by, posted_by}
use Rattle.thread_alarms.specs.alarm_log.Logs.{most_in, posts_of}
use Rattle.thread_alarms.proofs.AlarmsByPostAndLineLaws.{alarms-length, finished, has-room, whole}
use Rattle.thread_alarms.proofs.QueueRuleViewSteps.{knows-all, within-limit}
use Rattle.thread_alarms.proofs.alarm_log.log_turns.AlarmLog.finish.Goals as goal

pub append_all-requires : goal.append_all-requires
append_all-requires g c =
    let log = c.args.self in
    let posts = c.args.posts.items in
    let u = view c.drain.new.pass in
    let same = c.drain.ensures.same in
    let all = knows-all (view log.pass) (view c.join_all-kept.new.pass) u posts log.listens.is log.open_
    c.join_all-kept.ensures.known
    c.drain.ensures.listens.is same.0.made same.0.known c.drain.ensures.heard
    (omega (arith, c.args.posts.ok.0, c.requires.count)) in
    let fits = has-room number_of put_by kept_by (most_in log) posts (got_of u)
    (within-limit posts (most_in log) (λ j post there. (c.requires.one_log j post there).most)) all.heard all.rest in
    let got = ap length c.drain.ensures.listens.listed ∙ alarms-length (got_of u) in
    let kept = ap (λ l. length (in_row l)) c.join_all-kept.ensures.kept in
    let room : posts_of log * most_in log ≤ vec_capacity log.list = log.listens.room in
    let count : length posts ≡ posts_of log = omega (arith, c.args.posts.ok.0, c.requires.count) in
    let fits' = subst (λ n. length (got_of u) + length (in_row (map kept_by posts)) ≤ n * most_in log) count fits in
    omega (arith, fits', got, kept, room, same.1)

pub returns : goal.returns
returns g c =
    let log = c.args.self in
    let posts = c.args.posts.items in
    let u = view c.drain.new.pass in
    let same = c.drain.ensures.same in
    let all = knows-all (view log.pass) (view c.join_all-kept.new.pass) u posts log.listens.is log.open_
    c.join_all-kept.ensures.known
    c.drain.ensures.listens.is same.0.made same.0.known c.drain.ensures.heard
    (omega (arith, c.args.posts.ok.0, c.requires.count)) in
    let list = c.append_all.ensures ∙ ap₂ (λ a b. a ++ b) c.drain.ensures.listens.listed
    (ap in_row c.join_all-kept.ensures.kept) in
    record {
      lines = λ m i post there alone.
          ap (of_line m) list
          ∙ finished number_of put_by kept_by m posts (got_of u) i post there alone all.heard all.rest;
      whole = subst (IsPermutation (in_row (map posted_by posts))) (sym list)
          (whole number_of put_by kept_by posts (got_of u) all.heard all.apart all.rest);
    }
