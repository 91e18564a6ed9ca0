-- The log has got one alarm more.
use Rattle.std.proofs.Common.{ap₂, ◌∙◌, sym, subst, arith, ◌*◌, ◌≤◌, vec_capacity}
use Rattle.thread_alarms.specs.alarm_log.Views.{heard_of}
use Rattle.crossbeam_queue.specs.Passes.{view}
use Rattle.thread_alarms.proofs.QueueRuleViewSteps.{takes, heard}
use Rattle.thread_alarms.proofs.QueueRuleViewSteps.{got-more, room-more, listed-more}
use Rattle.thread_alarms.proofs.alarm_log.take_alarms.take.Goals as goal

pub pop_as-requires-clause-rule : goal.pop_as-requires-clause-rule
pop_as-requires-clause-rule g c =
    let v = view c.args.pass.now in
    (takes _ v (heard_of v) c.requires.is, heard _ v (heard_of v) c.requires.is)

pub push_reserved-requires : goal.push_reserved-requires
push_reserved-requires g c =
    let v = view c.args.pass.now in
    let w = view c.pop_as.new.pass in
    let x = c.in-Some.tagged in
    let more = got-more v w x c.requires.is c.in-Some.ensures.rule.0 in
    let list = c.args.list.now in
    let below = room-more v w x list.items (vec_capacity list) more.got c.requires.listed c.in-Some.ensures.rule.1
    c.requires.room in
    omega (arith, below, list.ok.0)

pub returns-in-Some-clause-listens : goal.returns-in-Some-clause-listens
returns-in-Some-clause-listens g c =
    let v = view c.args.pass.now in
    let w = view c.pop_as.new.pass in
    let x = c.in-Some.tagged in
    let more = got-more v w x c.requires.is c.in-Some.ensures.rule.0 in
    let room = ap₂ (λ a b. a * b) more.made more.most in
    record {
      own = (c.in-Some.ensures.queue.0 ∙ c.requires.own.0, c.in-Some.ensures.queue.2 ∙ c.requires.own.1);
      is = more.is;
      listed = listed-more v w x _ _ more.got c.requires.listed c.push_reserved.ensures.items;
      room = subst (λ n. n ≤ vec_capacity c.push_reserved.new.self) (sym room)
          (omega (arith, c.requires.room, c.push_reserved.ensures.capacity));
    }
