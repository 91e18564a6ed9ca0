-- A burst begins with no alarms.
use Rattle.std.proofs.Common.{◌++◌, sym, ◌∙◌, ap, subst, arith, append-nil, Contains, IsTrue, ◌↔◌}
use Rattle.law_model.specs.Common.{End}
use Rattle.thread_rings.specs.EndsOfRing.{in_passed, out_passed}
use Rattle.thread_rings.specs.WorkerLineCalls.{calls_on}
use Rattle.thread_rings.specs.WorkerOfLine.{raised_by}
use Rattle.thread_rings.proofs.LineWorkerAlarmsLaws.{later-then}
use Rattle.thread_rings.proofs.LineWorkerAlarmsLaws.{noted-then, sent-few}
use Rattle.thread_rings.proofs.line_worker.LineWorker.burst.Goals as goal

pub returns-then-ended-clause-cells : goal.returns-then-ended-clause-cells
returns-then-ended-clause-cells g c = sent-few c.args.self.now

pub returns-then-eq-clause-cells : goal.returns-then-eq-clause-cells
returns-then-eq-clause-cells g c = sent-few c.carry_on.new.self

pub returns-else-eq-clause-cells : goal.returns-else-eq-clause-cells
returns-else-eq-clause-cells g c = sent-few c.carry-first.new.self

pub returns-then-eq-clause-later : goal.returns-then-eq-clause-later
returns-then-eq-clause-later g c =
    let later = later-then _ _ _ c.carry-first.ensures.later c.carry_on.ensures.later in
    record {
      same = record {
        number = later.same.number;
        delay = later.same.delay;
        windows = later.same.windows;
        total = later.same.total;
        consumer = later.same.consumer;
        producer = later.same.producer;
      };
      received = later.received;
      flushes = later.flushes;
    }

pub returns-then-eq-clause-alarms : goal.returns-then-eq-clause-alarms
returns-then-eq-clause-alarms g c = λ open_ small.
    let noted = noted-then _ _ _ c.carry-first.ensures.noted c.carry_on.ensures.noted in
    let before = raised_by c.args.self.now in
    let few = sent-few c.carry_on.new.self in
    sym (noted.alarms (omega (arith, small, few)) before
    (ap (λ l. before ++ l) c.clear.ensures ∙ append-nil before))

pub returns-else-eq-clause-alarms : goal.returns-else-eq-clause-alarms
returns-else-eq-clause-alarms g c = λ open_ small.
    let before = raised_by c.args.self.now in
    let few = sent-few c.carry-first.new.self in
    sym (c.carry-first.ensures.noted.alarms (omega (arith, small, few)) before
    (ap (λ l. before ++ l) c.clear.ensures ∙ append-nil before))

pub returns-else-eq-clause-still : goal.returns-else-eq-clause-still
returns-else-eq-clause-still g c = λ done.
    let old = c.args.self.now in
    let given : IsTrue c.ended.result ↔ Contains (out_passed old.producer) End =
    subst (λ cells. IsTrue c.ended.result ↔ Contains cells End) (sym old.sent)
    (c.ended.ensures.given (calls_on old.core (in_passed old.consumer)) old.stands) in
    absurd (let ended = given.1 (c.carry-first.ensures.done.0 done) in let open_ = c.if-ended.false in cc)
