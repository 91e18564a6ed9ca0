-- Line by line from the last one on.
use Rattle.std.proofs.Common.{◌≡◌, ℕ, ◌+◌, ◌-◌, ◌<◌, ◌≤◌, List, ◌∷◌, Bool, true, false, length, drop, Option, Some}
use Rattle.std.proofs.Common.{slice_index_or, sym, ◌∙◌, ap, arith, if◌then◌else◌}
use Rattle.std.proofs.lemmas.List.{drop_more, drop_all}
use Rattle.fate_engine.specs.Common.{lesser, least_failing, whole_on}
use Rattle.fate_engine.proofs.fate_core.cause_of_row.least_cut.Goals as goal

-- one line more
step : (passes : ℕ → Bool) (lines : List ℕ) (i : ℕ) → 0 < i → i ≤ length lines →
    least_failing passes (drop (i - 1) lines)
    ≡ (if passes (slice_index_or lines (i - 1) 0) then least_failing passes (drop i lines) else Some
    (lesser (slice_index_or lines (i - 1) 0) (least_failing passes (drop i lines))))
unfolding least_failing
step passes lines i some within =
    ap (least_failing passes) (drop_more lines (i - 1) 0 (omega arith)
    ∙ ap (λ n. slice_index_or lines (i - 1) 0 ∷ drop n lines) (let e : i - 1 + 1 ≡ i = omega arith in e))

pub loop-i-init : goal.loop-i-init
unfolding least_failing
loop-i-init c = ap (least_failing (whole_on c.args.windows.now c.args.from c.args.count))
    (sym (drop_all (length c.args.lines.now) c.args.lines.now (omega arith)))

pub loop-i-preserved : goal.loop-i-preserved
loop-i-preserved c =
    let passes : ℕ → Bool = whole_on c.args.windows.now c.args.from c.args.count in
    let line : ℕ = slice_index_or c.args.lines.now (c.loop-i.i - 1) 0 in
    let more : Option ℕ = least_failing passes (drop c.loop-i.i c.args.lines.now) in
    let whole : passes line ≡ true = sym c.are_whole_on.ensures ∙ c.if-not-are_whole_on.false in
    c.loop-i.invariant ∙ sym (step passes c.args.lines.now c.loop-i.i c.loop-i-test.true c.loop-i.auto.i
    ∙ ap (λ b. if b then more else Some (lesser line more)) whole)

pub loop-i-preserved-then-not-are_whole_on : goal.loop-i-preserved-then-not-are_whole_on
loop-i-preserved-then-not-are_whole_on c =
    let passes : ℕ → Bool = whole_on c.args.windows.now c.args.from c.args.count in
    let line : ℕ = slice_index_or c.args.lines.now (c.loop-i.i - 1) 0 in
    let more : Option ℕ = least_failing passes (drop c.loop-i.i c.args.lines.now) in
    let cut : passes line ≡ false = sym c.are_whole_on.ensures ∙ c.if-not-are_whole_on.true in
    ap Some (c.lesser.ensures ∙ ap (lesser line) c.loop-i.invariant)
    ∙ sym (step passes c.args.lines.now c.loop-i.i c.loop-i-test.true c.loop-i.auto.i
    ∙ ap (λ b. if b then more else Some (lesser line more)) cut)

pub returns : goal.returns
returns c = c.loop-i.invariant ∙ ap
    (λ i. least_failing (whole_on c.args.windows.now c.args.from c.args.count) (drop i c.args.lines.now))
    (let e : c.loop-i.i ≡ 0 = omega arith in e)
