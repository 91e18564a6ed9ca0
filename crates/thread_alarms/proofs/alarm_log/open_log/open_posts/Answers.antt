-- One more post was made.
use Rattle.std.proofs.Common.{◌≡◌, ℕ, ◌+◌, length, slice_get, inl, inr, [], ◌∷◌, sym, ap, ◌∙◌, subst, length-append}
use Rattle.std.specs.Arc.{arc_value}
use Rattle.crossbeam_queue.specs.Passes.{ruled_capacity}
use Rattle.thread_alarms.specs.declared.alarm_log.alarm_post.AlarmPost.{AlarmPost}
use Rattle.thread_alarms.specs.alarm_log.Posts.{IsFresh}
use Rattle.thread_alarms.proofs.QueueRuleViewSteps.{at-end}
use Rattle.thread_alarms.proofs.alarm_log.open_log.open_posts.Goals as goal

pub loop-number-preserved : goal.loop-number-preserved
loop-number-preserved c =
    let before = c.loop-number.invariant in
    let made = c.loop-number.made.items in
    let post = c.in_ok-post.post in
    let items = c.push_reserved.ensures.items in
    let own = c.in_ok-post.ensures.own in
    record {
      own = own.0;
      is = own.2;
      count = ap (length {A = AlarmPost}) items ∙ length-append made (post ∷ []) ∙ ap (λ n. n + 1) before.count;
      capacity = c.push_reserved.ensures.capacity ∙ before.capacity;
      fresh = λ i other there. elim (at-end made post other i (ap (λ l. slice_get l i) (sym items) ∙ there)) [
        | inl old ↦ let h = before.fresh i other old in (h.0, h.1 ∙ sym own.1)
        | inr (last, is) ↦
            let h = c.in_ok-post.ensures.fresh in
            subst (λ (y : ℕ × AlarmPost). IsFresh y.1 y.0 c.args.posts
            (ruled_capacity (arc_value c.args.queue.now)) c.args.most
            × (y.1.pass.table_id ≡ c.open_post.new.pass.table_id))
            (λ k. (sym (last ∙ before.count) k, is k)) (h.0, h.1)
      ];
    }
