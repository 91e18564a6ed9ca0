-- A stretch more; and all of them.
use Rattle.std.proofs.Common.{ℕ, ◌+◌, ◌++◌, min, List, [], refl, sym, ◌∙◌, ap, subst, arith, append-nil, append_assoc}
use Rattle.text_got.specs.TextSoFar.{HasText}
use Rattle.law_model.specs.Common.{leg_of}
use Rattle.fate_service.specs.Stretches.{Known, stretch_of, spans_on, spans_of}
use Rattle.fate_service.specs.ServiceText.{known_of, stretch_text, stretches_text}
use Rattle.fate_service.proofs.ServiceTextLaws.{span-next, span-end, text-more, text-whole}
use Rattle.fate_service.proofs.service_report.write_stretches.Goals as goal

pub loop-first-init : goal.loop-first-init
loop-first-init g c = (
  omega arith,
  (
    [],
    c.args.told,
    omega arith,
    refl,
    λ start before has.
        subst (HasText g.K.ByteSink.written g.K.ByteSink.faults c.args.got.now start) (sym (append-nil before)) has,
  ),
)

pub loop-first-preserved : goal.loop-first-preserved
loop-first-preserved g c =
    let known : Known = known_of (leg_of c.args.walk.now.script) c.args.walk.now.counts in
    let first = c.loop-first.first in
    let interval = c.args.interval in
    let told = c.args.told in
    let done = c.loop-first.invariant.1.0 in
    let left = c.loop-first.invariant.1.1 in
    let within = c.requires.interval in
    let some = within.0 in
    let test = c.loop-first-test.true in
    let next = span-next left interval first told some test c.loop-first.invariant.1.2 in
    let text : ℕ → List ℕ = λ (n : ℕ). stretch_text first n (stretch_of known first n) in
    let own : List ℕ = text (min told (first + interval)) in (
      omega (arith, test, c.requires.told, within.1),
      (
        done ++ own,
        next.0,
        next.1,
        text-more done own (stretches_text known (spans_on next.0 interval (first + interval) told))
            (stretches_text known (spans_on left interval first told)) (stretches_text known (spans_of interval told))
            (sym (ap (stretches_text known) next.2)) c.loop-first.invariant.1.3,
        λ start before has. subst (HasText g.K.ByteSink.written g.K.ByteSink.faults c.write_stretch.new.got start)
            (append_assoc before done (text c.min.result) ∙ ap (λ n. before ++ (done ++ text n)) c.min.ensures)
            (c.write_stretch.ensures start (before ++ done) (c.loop-first.invariant.1.4 start before has)),
      ),
    )

pub returns : goal.returns
returns g c = λ start before has.
    let known : Known = known_of (leg_of c.args.walk.now.script) c.args.walk.now.counts in
    let first = c.loop-first.first in
    let interval = c.args.interval in
    let told = c.args.told in
    let done = c.loop-first.invariant.1.0 in
    let left = c.loop-first.invariant.1.1 in
    subst (HasText g.K.ByteSink.written g.K.ByteSink.faults c.loop-first.got start)
    (ap (λ l. before ++ l) (sym (append-nil done)
    ∙ text-whole done (stretches_text known (spans_on left interval first told)) []
    (stretches_text known (spans_of interval told))
    (ap (stretches_text known) (span-end left interval first told c.loop-first-test.false)) c.loop-first.invariant.1.3))
    (c.loop-first.invariant.1.4 start before has)
