-- The end was pushed exactly where the line has given it.
use Rattle.std.proofs.Common.{refl, sym, subst, Contains, IsTrue, ◌↔◌}
use Rattle.law_model.specs.Common.{End}
use Rattle.thread_rings.specs.EndsOfRing.{in_passed, out_passed}
use Rattle.thread_rings.specs.WorkerLineCalls.{calls_on}
use Rattle.thread_rings.proofs.line_worker.LineWorker.carry.Goals as goal

pub returns-then-ended-clause-done : goal.returns-then-ended-clause-done
returns-then-ended-clause-done c =
    let old = c.args.self.now in
    let given : IsTrue c.ended.result ↔ Contains (out_passed old.producer) End =
    subst (λ cells. IsTrue c.ended.result ↔ Contains cells End) (sym old.sent)
    (c.ended.ensures.given (calls_on old.core (in_passed old.consumer)) old.stands) in
    (λ done. given.0 c.if-ended.true, λ has. refl)

pub returns-then-all_pushed-clause-done : goal.returns-then-all_pushed-clause-done
returns-then-all_pushed-clause-done c =
    let old = c.args.self.now in
    let given : IsTrue c.ended.result ↔ Contains (out_passed old.producer) End =
    subst (λ cells. IsTrue c.ended.result ↔ Contains cells End) (sym old.sent)
    (c.ended.ensures.given (calls_on old.core (in_passed old.consumer)) old.stands) in (
      λ done. absurd (c.flush.ensures.never done),
      λ has. absurd (let ended = given.1 has in let open_ = c.if-ended.false in cc),
    )

pub returns-clause-done : goal.returns-clause-done
returns-clause-done c =
    let old = c.args.self.now in
    let given : IsTrue c.ended.result ↔ Contains (out_passed old.producer) End =
    subst (λ cells. IsTrue c.ended.result ↔ Contains cells End) (sym old.sent)
    (c.ended.ensures.given (calls_on old.core (in_passed old.consumer)) old.stands) in (
      λ done. absurd (c.pass.ensures.never done),
      λ has. absurd (let ended = given.1 has in let open_ = c.if-ended.false in cc),
    )
