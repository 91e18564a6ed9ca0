-- A carry after the last container.
use Rattle.std.proofs.Common.{◌≡◌, [], ◌++◌, length, min, false, refl, sym, ◌∙◌, ap, ap₂, subst, arith, append-nil}
use Rattle.member_path.specs.path_delay.CallsOnDelayedLine.{DelayStands, and_flush, path_cells}
use Rattle.member_path.specs.path_delay.Carry.{carry_cells}
use Rattle.thread_rings.specs.EndsOfRing.{in_passed, out_passed, out_hand}
use Rattle.thread_rings.specs.WorkerLineCalls.{calls_on}
use Rattle.thread_rings.proofs.LineWorkerAlarmsLaws.{calls-flushed}
use Rattle.thread_rings.proofs.SameRingEndsLaws.{out-then, out-hand}
use Rattle.thread_rings.specs.LineAlarms.{failed_after}
use Rattle.thread_rings.proofs.LineWorkerAlarmsLaws.{failed-more, place-more}
use Rattle.thread_rings.proofs.LineWorkerAlarmsLaws.{noted-sent}
use Rattle.thread_rings.proofs.line_worker.LineWorker.flush.Goals as goal

pub invariant_of-self-2 : goal.invariant_of-self-2
invariant_of-self-2 c =
    let old = c.args.self.now in
    let calls = calls_on old.core (in_passed old.consumer) in
    let flushed = c.flush_hand-carry.ensures.flushed in
    let line = c.flush_hand-carry.new.core in
    let stands = flushed.stands calls old.stands in
    let more = carry_cells c.flush_hand-carry.result flushed.place in
    let before = out_passed old.producer in
    let out : out_passed c.send.new.producer ≡ before ++ more = c.send.ensures.sent
    ∙ ap₂ (λ l m. l ++ m) (ap out_passed c.flush_hand-carry.ensures.to ∙ c.ready.ensures.passed) flushed.given in
    let next : and_flush calls ≡ calls_on line (in_passed old.consumer) =
    calls-flushed old.core line (in_passed old.consumer) stands in
    record {
      stands = subst (DelayStands line) next stands;
      sent = out ∙ ap (λ l. l ++ more) old.sent ∙ sym (flushed.cells calls old.stands) ∙ ap path_cells next;
      order = λ some. let counts = flushed.counts in
          omega (arith, c.requires.pushed, counts.pushed, counts.total);
      flushes = let counts = flushed.counts in omega (arith, c.requires.runs, counts.flushed, counts.delay);
      received = let counts = flushed.counts in omega (arith, old.received, counts.total);
      failed = c.note.ensures.failed flushed.place ∙ ap (λ b. failed_after b more) old.failed
          ∙ sym (failed-more false before more) ∙ ap (failed_after false) (sym out);
      next = place-more old.raised.place c.note.new.self.place before more old.next
          (c.note.ensures.place flushed.place) ∙ ap (λ l. min (length l) 4294967295) (sym out);
    }

pub returns-clause-later : goal.returns-clause-later
returns-clause-later c =
    let old = c.args.self.now in
    let stands = c.flush_hand-carry.ensures.flushed.stands (calls_on old.core (in_passed old.consumer)) old.stands in
    let to = c.flush_hand-carry.new.to in
    record {
      same = record {
        number = refl;
        delay = stands.delay;
        windows = stands.windows;
        total = stands.total;
        consumer = (refl, refl, refl);
        producer = out-then old.producer c.ready.new.self c.send.new.producer c.ready.ensures.same
            (out-then c.ready.new.self to c.send.new.producer
            (out-hand c.ready.new.self to (out_hand to) c.flush_hand-carry.ensures.to) c.send.ensures.same);
      };
      received = ([], append-nil _);
      flushes = omega (arith, stands.flushed);
    }

pub returns-clause-noted : goal.returns-clause-noted
returns-clause-noted c =
    let old = c.args.self.now in
    let flushed = c.flush_hand-carry.ensures.flushed in
    let more = carry_cells c.flush_hand-carry.result flushed.place in
    noted-sent old _ more refl
    (c.send.ensures.sent ∙ ap₂ (λ l m. l ++ m) (ap out_passed c.flush_hand-carry.ensures.to ∙ c.ready.ensures.passed)
    flushed.given) (c.note.ensures.alarms flushed.place)
