-- One more post is joined.
use Rattle.std.proofs.Common.{sym, ap, ◌∙◌, arith, map, [], ◌∷◌}
use Rattle.std.specs.Vec.Iter.{into_iter_items}
use Rattle.crossbeam_queue.specs.Passes.{view}
use Rattle.thread_alarms.specs.alarm_log.Alarms.{items_of}
use Rattle.thread_alarms.specs.alarm_log.Views.{with_known}
use Rattle.thread_alarms.specs.alarm_log.Posts.{known_by, kept_by}
use Rattle.thread_alarms.proofs.QueueRuleViewSteps.{with-then, joined, moved-one, in-rest}
use Rattle.thread_alarms.proofs.alarm_log.join_posts.join_all.Goals as goal

pub loop-post-preserved : goal.loop-post-preserved
loop-post-preserved c =
    let before = c.loop-post.invariant in
    let post = c.in-Some.post in
    let steps = c.in-Some.ensures.steps in
    let rest = into_iter_items c.next.new.self in
    let was = view c.loop-post.pass in
    let same = c.join_one.ensures.own.1 in
    record {
      own = (c.join_one.ensures.own.0, same ∙ before.own.1);
      is = (joined was (view c.join_one.new.pass) (known_by post ∷ []) before.is c.join_one.ensures.known).is;
      queue = λ i other there. before.queue _ other (in-rest post _ rest steps.0 i other there) ∙ sym same;
      room = omega (arith, before.room, steps.1, c.push_reserved.ensures.len, c.push_reserved.ensures.capacity);
      known = ap (λ u. with_known u (map known_by rest)) c.join_one.ensures.known
          ∙ with-then was (known_by post ∷ []) (map known_by rest)
          ∙ ap (λ l. with_known was (map known_by l)) (sym steps.0) ∙ before.known;
      kept = moved-one items_of kept_by c.loop-post.all.items _ c.join_one.result post _ rest
          c.args.posts.items steps.0 c.push_reserved.ensures.items c.join_one.ensures.kept before.kept;
    }
