-- The items passed aren't refused, and the one that is found is the first.
use Rattle.std.proofs.Common.{◌≡◌, ◌+◌, ◌-◌, ◌*◌, ◌/◌, ◌%◌, ℕ, ◌++◌, Option, sym, ap, ◌∙◌, arith}
use Rattle.law_model.specs.declared.item_refusals.Refusal.{Refusal}
use Rattle.law_model.proofs.ListLaws.{slice_get-inside}
use Rattle.law_walk.specs.Common.{refused_by}
use Rattle.terminal_group.specs.RefusalCodes.{code_at, refusals_left}
use Rattle.terminal_group.proofs.RefusalCodeLaws.{codes-next, codes-past, codes-skipped}
use Rattle.terminal_group.proofs.refused_items.first_refusal.Goals as goal

pub loop-number-preserved-then-is_clear : goal.loop-number-preserved-then-is_clear
loop-number-preserved-then-is_clear c =
    let n : ℕ = c.loop-number.number in
    ap (λ k. refusals_left c.args.lines c.args.codes.now k c.args.items.now)
    (let e : (n / 32 + 1) * 32 ≡ n + (32 - n % 32) = omega arith in e)
    ∙ sym (codes-skipped c.args.lines (code_at c.args.codes.now) c.args.items.now (32 - n % 32) n
    (λ k low high. c.is_clear.ensures c.if-is_clear.true k (omega (arith, low, high))))
    ∙ c.loop-number.invariant

pub returns-in-Some-clause-some : goal.returns-in-Some-clause-some
returns-in-Some-clause-some c =
    let n : ℕ = c.loop-number.number in
    let count = c.len.ensures.count in
    let (item, here) = slice_get-inside c.args.items.now n (omega (arith, count, c.loop-number-test.true)) in
    sym c.loop-number.invariant
    ∙ codes-next c.args.lines (code_at c.args.codes.now) c.args.items.now n item here
    ∙ ap (λ (why : Option Refusal). refused_by n why
    ++ refusals_left c.args.lines c.args.codes.now (n + 1) c.args.items.now)
    (sym (c.reason_at.ensures item here) ∙ c.in-Some.is)

pub loop-number-preserved : goal.loop-number-preserved
loop-number-preserved c =
    let n : ℕ = c.loop-number.number in
    let count = c.len.ensures.count in
    let (item, here) = slice_get-inside c.args.items.now n (omega (arith, count, c.loop-number-test.true)) in
    sym (codes-next c.args.lines (code_at c.args.codes.now) c.args.items.now n item here
    ∙ ap (λ (why : Option Refusal). refused_by n why
    ++ refusals_left c.args.lines c.args.codes.now (n + 1) c.args.items.now)
    (sym (c.reason_at.ensures item here) ∙ c.in_default.is))
    ∙ c.loop-number.invariant

pub returns-clause-none : goal.returns-clause-none
returns-clause-none c =
    let count = c.len.ensures.count in
    sym c.loop-number.invariant ∙ codes-past c.args.lines (code_at c.args.codes.now) c.args.items.now
    c.loop-number.number (omega (arith, count, c.loop-number-test.false))
