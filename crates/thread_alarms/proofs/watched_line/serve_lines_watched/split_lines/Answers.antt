-- Nothing is left.
use Rattle.std.proofs.Common.{◌≡◌, ◌++◌, [], length, map, sym, ◌∙◌, ap, subst, arith, rules}
use Rattle.std.proofs.lemmas.List.{append-nil, nil_from_length}
use Rattle.std.specs.Vec.Iter.{into_iter_items}
use Rattle.thread_alarms.specs.watched_line.ServedWithPosts.{worker_of, posts_of, AreTold}
use Rattle.thread_alarms.proofs.LaterServedLineLaws.{are-told}
use Rattle.thread_alarms.proofs.watched_line.serve_lines_watched.split_lines.Goals as goal

pub returns-clause-told : goal.returns-clause-told
returns-clause-told c = λ same.
    let workers = c.loop-line.workers in
    let posts = c.loop-line.posts in
    let lines = c.args.lines.items in
    let left = into_iter_items c.loop-line.line-iterator in
    let empty = c.in-None.ensures.steps in
    let size : length left ≡ 0 = search rules in
    let none : left ≡ [] = nil_from_length left size in
    let own : workers.items ≡ map worker_of lines = sym (append-nil workers.items)
    ∙ ap (λ l. workers.items ++ map worker_of l) (sym none) ∙ c.loop-line.invariant.workers in
    let through : posts.items ≡ posts_of lines = sym (append-nil posts.items)
    ∙ ap (λ l. posts.items ++ posts_of l) (sym none) ∙ c.loop-line.invariant.posts in
    let as_many : length (posts_of lines) ≡ length (map worker_of lines) =
    (let a = ap length own in let b = ap length through in omega (arith, a, b, same, workers.ok.0, posts.ok.0)) in
    subst (λ ws. AreTold ws posts.items) (sym own)
    (subst (AreTold (map worker_of lines)) (sym through) (are-told lines as_many))
