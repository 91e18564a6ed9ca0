-- The last line has a number one below how many there are.
use Rattle.std.proofs.Common.{◌≡◌, ℕ, ◌-◌, ◌++◌, sym, subst, arith}
use Rattle.std.specs.Prelude.{codes, decimal}
use Rattle.law_model.specs.declared.item_refusals.CommandFault.{CommandFault}
use Rattle.text_report.specs.TextCursor.{Extends}
use Rattle.fate_check.specs.CheckText.{known_text}
use Rattle.fate_check.proofs.check_lines.add_known.Goals as goal

pub returns-in-UnknownLine-clause-text : goal.returns-in-UnknownLine-clause-text
returns-in-UnknownLine-clause-text c =
    let last : c.saturating_sub.result ≡ c.in-UnknownLine.lines - 1 = omega (arith, c.saturating_sub.ensures) in
    subst (λ (fault : CommandFault). Extends c.args.line.now c.number.new.self (known_text fault))
    (sym c.in-UnknownLine.is)
    (subst (λ (n : ℕ). Extends c.args.line.now c.number.new.self (codes " lines 0 to " ++ decimal n)) last
    c.number.ensures.text)
