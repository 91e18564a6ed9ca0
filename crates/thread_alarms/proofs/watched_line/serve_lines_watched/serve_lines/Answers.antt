-- One line more, with the next post where one is left.
use Rattle.std.proofs.Common.{◌≡◌, [], ◌∷◌, ◌++◌, length, map, sym, ◌∙◌, ap, subst, arith, rules, append_assoc}
use Rattle.std.proofs.Common.{option_to_list}
use Rattle.std.proofs.lemmas.List.{nil_from_length, map_push}
use Rattle.std.specs.Vec.Iter.{into_iter_items, into_iter_len}
use Rattle.thread_alarms.specs.watched_line.ServedWithPosts.{worker_of, posts_of, AreWatchable}
use Rattle.thread_alarms.proofs.LaterServedLineLaws.{posts-more, next-watch, rest-watch, none-left, few-left}
use Rattle.thread_alarms.proofs.watched_line.serve_lines_watched.serve_lines.Goals as goal

pub loop-worker-init : goal.loop-worker-init
loop-worker-init c =
    let gives = c.into_iter-worker-iterator.ensures.into_iter_gives in
    let left = c.into_iter-left.ensures.rest in
    record {
      workers = ap (λ l. map worker_of l ++ into_iter_items c.into_iter-worker-iterator.result) c.requires.room.0
          ∙ gives.0;
      posts = ap (λ l. posts_of l ++ into_iter_items c.into_iter-left.result) c.requires.room.0 ∙ left;
      room = search rules;
      few = omega (arith, c.requires.few, ap length gives.0, ap length left, c.args.posts.ok.0, c.args.workers.ok.0);
      watch = subst (λ ws. AreWatchable ws (into_iter_items c.into_iter-left.result)) (sym gives.0)
          (subst (AreWatchable c.args.workers.items) (sym left) c.requires.watch);
    }

pub new-requires : goal.new-requires
new-requires c = λ own is.
    let before = c.loop-worker.invariant in
    let steps = c.in-Some.ensures.steps in
    let items = c.next-in-loop-worker.ensures.items in
    (next-watch _ (into_iter_items c.loop-worker.left) c.in-Some.worker own (into_iter_items c.next.new.self)
    (into_iter_items c.next-in-loop-worker.new.self) steps.0
    (items ∙ ap (λ o. option_to_list o ++ into_iter_items c.next-in-loop-worker.new.self) is) before.watch).0

pub loop-worker-preserved : goal.loop-worker-preserved
loop-worker-preserved c =
    let before = c.loop-worker.invariant in
    let steps = c.in-Some.ensures.steps in
    let e = c.next-in-loop-worker.ensures in
    let post = c.next-in-loop-worker.result in
    let ws = into_iter_items c.next.new.self in
    let ps = into_iter_items c.next-in-loop-worker.new.self in
    let line = c.new.result in
    let served = c.loop-worker.served.items in
    let pushed = c.push_reserved.ensures.items in
    let size : length (into_iter_items c.loop-worker.left) ≡ into_iter_len c.loop-worker.left = search rules in
    let size' : length ps ≡ into_iter_len c.next-in-loop-worker.new.self = search rules in
    let long = ap length steps.0 in
    record {
      workers = ap (λ l. map worker_of l ++ ws) pushed ∙ ap (λ l. l ++ ws) (map_push worker_of served line)
          ∙ append_assoc (map worker_of served) (worker_of line ∷ []) ws
          ∙ ap (λ w. map worker_of served ++ w ∷ ws) c.new.ensures.worker
          ∙ ap (λ l. map worker_of served ++ l) (sym steps.0) ∙ before.workers;
      posts = ap (λ l. posts_of l ++ ps) pushed ∙ posts-more served line ps
          ∙ ap (λ o. posts_of served ++ (option_to_list o ++ ps)) c.new.ensures.post
          ∙ ap (λ l. posts_of served ++ l) (sym e.items) ∙ before.posts;
      room = search rules;
      few = few-left post _ _ _ (length ps) _ (length ws) _ e.cases size size' e.len before.few long;
      watch = rest-watch post _ (into_iter_items c.loop-worker.left) c.in-Some.worker ws ps steps.0 e.items
          (λ none. nil_from_length ps (size' ∙ none-left post (into_iter_len c.loop-worker.left)
          (into_iter_len c.next-in-loop-worker.new.self) _ e.cases none)) before.watch;
    }
