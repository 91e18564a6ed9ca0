-- The rows of a packet more; and all of them.
use Rattle.std.proofs.Common.{◌≡◌, false, true, inl, inr, sym, ◌∙◌, arith}
use Rattle.std.proofs.lemmas.Bool.{cases_lt}
use Rattle.fate_check.specs.UsedLines.{has_payload}
use Rattle.fate_check.proofs.UsedLineAndSparedRowLaws.{finds-none, finds-first}
use Rattle.fate_check.proofs.UsedLineAndSparedRowLaws.{alike-payload, some-by-length, none-by-length}
use Rattle.fate_check.proofs.used_lines.first_payload.Goals as goal

pub loop-row-preserved : goal.loop-row-preserved
loop-row-preserved c = λ scenario cells are t low.
    let row = c.loop-row.row in
    let here : has_payload scenario cells row ≡ false =
    none-by-length c.used_lines.result.now scenario cells row (c.used_lines.ensures scenario cells are)
    (sym c.is_empty.ensures ∙ c.if-not-is_empty.false) in
    elim (cases_lt t row) [
      | inl before ↦ c.loop-row.invariant scenario cells are t before
      | inr later ↦ alike-payload scenario cells t row (c.next_governed-row.ensures.alike t later low) ∙ here
    ]

pub returns-then-not-is_empty : goal.returns-then-not-is_empty
returns-then-not-is_empty c = λ scenario cells are.
    let row = c.loop-row.row in
    let here : has_payload scenario cells row ≡ true =
    some-by-length c.used_lines.result.now scenario cells row (c.used_lines.ensures scenario cells are)
    (sym c.is_empty.ensures ∙ c.if-not-is_empty.true) in
    sym (finds-first (has_payload scenario cells) 0 c.args.rows row (omega arith)
    (let low = c.loop-row-test.true in omega (arith, low))
    (λ u from below. c.loop-row.invariant scenario cells are u below) here)

pub returns : goal.returns
returns c = λ scenario cells are.
    sym (finds-none (has_payload scenario cells) 0 c.args.rows
    (λ t from low. c.loop-row.invariant scenario cells are t
    (let end = c.loop-row-test.false in omega (arith, low, end))))
