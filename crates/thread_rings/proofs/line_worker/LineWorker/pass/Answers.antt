-- A container is carried from ring to ring.
use Rattle.std.proofs.Common.{◌≡◌, [], ◌∷◌, ◌++◌, length, min, false, refl, sym, ◌∙◌, ap, ap₂, subst, arith}
use Rattle.std.proofs.Common.{length-append}
use Rattle.member_path.specs.path_delay.CallsOnDelayedLine.{DelayStands, and_push, path_cells}
use Rattle.member_path.specs.path_delay.Carry.{carry_cells}
use Rattle.thread_rings.specs.EndsOfRing.{in_passed, in_hand, out_passed, out_hand}
use Rattle.thread_rings.specs.WorkerLineCalls.{calls_on}
use Rattle.thread_rings.proofs.LineWorkerAlarmsLaws.{calls-pushed}
use Rattle.thread_rings.proofs.SameRingEndsLaws.{in-then, out-then, in-hand, out-hand}
use Rattle.thread_rings.specs.LineAlarms.{failed_after}
use Rattle.thread_rings.proofs.LineWorkerAlarmsLaws.{failed-more, place-more}
use Rattle.thread_rings.proofs.LineWorkerAlarmsLaws.{noted-sent}
use Rattle.thread_rings.proofs.line_worker.LineWorker.pass.Goals as goal

pub invariant_of-self-2 : goal.invariant_of-self-2
invariant_of-self-2 c =
    let old = c.args.self.now in
    let calls = calls_on old.core (in_passed old.consumer) in
    let x = in_hand c.pop_hand.new.self in
    let pushed = c.push_hand-carry.ensures.pushed in
    let line = c.push_hand-carry.new.core in
    let stands = pushed.stands calls old.stands in
    let passed : in_passed c.push_hand-carry.new.from ≡ in_passed old.consumer ++ x ∷ [] =
    ap in_passed c.push_hand-carry.ensures.from ∙ (c.pop_hand.ensures.passed
    ∙ ap (λ l. l ++ x ∷ []) c.ready.ensures.passed) in
    let more = carry_cells c.push_hand-carry.result pushed.place in
    let before = out_passed old.producer in
    let out : out_passed c.send.new.producer ≡ before ++ more = c.send.ensures.sent
    ∙ ap₂ (λ l m. l ++ m) (ap out_passed c.push_hand-carry.ensures.to ∙ c.ready-2.ensures.passed) pushed.given in
    let next : and_push calls x ≡ calls_on line (in_passed c.push_hand-carry.new.from) =
    calls-pushed old.core line (in_passed old.consumer) x stands ∙ ap (calls_on line) (sym passed) in
    record {
      stands = subst (DelayStands line) next stands;
      sent = out ∙ ap (λ l. l ++ more) old.sent ∙ sym (pushed.cells calls old.stands) ∙ ap path_cells next;
      order = λ some. absurd (let counts = pushed.counts in let before = old.order in
          omega (arith, some, before, counts.flushed, c.requires.more));
      flushes = let counts = pushed.counts in omega (arith, old.flushes, counts.flushed, counts.delay);
      received = let counts = pushed.counts in
          let size = ap length passed ∙ length-append (in_passed old.consumer) (x ∷ []) in
          omega (arith, size, old.stands.pushed, c.requires.more, counts.total);
      failed = c.note.ensures.failed pushed.place ∙ ap (λ b. failed_after b more) old.failed
          ∙ sym (failed-more false before more) ∙ ap (failed_after false) (sym out);
      next = place-more old.raised.place c.note.new.self.place before more old.next
          (c.note.ensures.place pushed.place) ∙ ap (λ l. min (length l) 4294967295) (sym out);
    }

pub returns-clause-later : goal.returns-clause-later
returns-clause-later c =
    let old = c.args.self.now in
    let pushed = c.push_hand-carry.ensures.pushed in
    let stands = pushed.stands (calls_on old.core (in_passed old.consumer)) old.stands in
    let from = c.push_hand-carry.new.from in
    let to = c.push_hand-carry.new.to in
    record {
      same = record {
        number = refl;
        delay = stands.delay;
        windows = stands.windows;
        total = stands.total;
        consumer = in-then old.consumer c.ready.new.self from c.ready.ensures.same
            (in-then c.ready.new.self c.pop_hand.new.self from c.pop_hand.ensures.same
            (in-hand c.pop_hand.new.self from (in_hand from) c.push_hand-carry.ensures.from));
        producer = out-then old.producer c.ready-2.new.self c.send.new.producer c.ready-2.ensures.same
            (out-then c.ready-2.new.self to c.send.new.producer
            (out-hand c.ready-2.new.self to (out_hand to) c.push_hand-carry.ensures.to) c.send.ensures.same);
      };
      received = (
        in_hand c.pop_hand.new.self ∷ [],
        sym (ap in_passed c.push_hand-carry.ensures.from ∙ (c.pop_hand.ensures.passed
            ∙ ap (λ l. l ++ in_hand c.pop_hand.new.self ∷ []) c.ready.ensures.passed)),
      );
      flushes = omega (arith, stands.flushed);
    }

pub returns-clause-noted : goal.returns-clause-noted
returns-clause-noted c =
    let old = c.args.self.now in
    let pushed = c.push_hand-carry.ensures.pushed in
    let more = carry_cells c.push_hand-carry.result pushed.place in
    noted-sent old _ more refl
    (c.send.ensures.sent ∙ ap₂ (λ l m. l ++ m) (ap out_passed c.push_hand-carry.ensures.to ∙ c.ready-2.ensures.passed)
    pushed.given) (c.note.ensures.alarms pushed.place)
