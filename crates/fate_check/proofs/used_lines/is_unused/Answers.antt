-- The rows of a packet more; and all of them.
use Rattle.std.proofs.Common.{◌≡◌, ◌==◌, false, true, not, inl, inr, sym, ◌∙◌, ap, arith}
use Rattle.std.specs.List.{list_any}
use Rattle.std.proofs.lemmas.Bool.{cases_lt, not_from_true, not_from_false}
use Rattle.fate_check.specs.UsedLines.{is_used}
use Rattle.law_row.proofs.LastWordAndReturnPacketLaws.{all-from}
use Rattle.fate_check.proofs.UsedLineAndSparedRowLaws.{fails-range, alike-used}
use Rattle.fate_check.proofs.used_lines.is_unused.Goals as goal

pub loop-row-preserved : goal.loop-row-preserved
loop-row-preserved c = λ scenario cells are t low.
    let row = c.loop-row.row in
    let line = c.args.line in
    let here : is_used scenario cells line row ≡ false =
    ap (list_any (λ used. used == line)) (sym (c.used_lines.ensures scenario cells are)) ∙ sym c.contains.ensures.value
    ∙ c.if-contains.false in
    elim (cases_lt t row) [
      | inl before ↦ c.loop-row.invariant scenario cells are t before
      | inr later ↦ alike-used scenario cells t row (c.next_governed-row.ensures.alike t later low) line ∙ here
    ]

pub returns-then-contains : goal.returns-then-contains
returns-then-contains c = λ scenario cells are.
    let row = c.loop-row.row in
    let line = c.args.line in
    let here : is_used scenario cells line row ≡ true =
    ap (list_any (λ used. used == line)) (sym (c.used_lines.ensures scenario cells are)) ∙ sym c.contains.ensures.value
    ∙ c.if-contains.true in
    sym (fails-range (λ t. not (is_used scenario cells line t)) c.args.rows row c.loop-row-test.true
    (not_from_true (is_used scenario cells line row) here))

pub returns : goal.returns
returns c = λ scenario cells are.
    let line = c.args.line in
    sym (all-from (λ t. not (is_used scenario cells line t)) 0 c.args.rows
    (λ t from low. not_from_false (is_used scenario cells line t)
    (c.loop-row.invariant scenario cells are t (let end = c.loop-row-test.false in omega (arith, low, end)))))
