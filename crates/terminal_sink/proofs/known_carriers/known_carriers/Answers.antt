-- The carriers are those that can be inferred.
use Rattle.std.proofs.Common.{◌≡◌, ◌==◌, false, if◌then◌else◌, length, Some, sym, ◌∙◌, ap, arith}
use Rattle.std.proofs.lemmas.Bool.Decides.{nat_tests}
use Rattle.law_model.specs.Common.{active_of}
use Rattle.terminal_sink.specs.known_carriers.Supposed.{inferred_by}
use Rattle.terminal_sink.proofs.ActiveLineAndSupposedCarrierLaws.{known_by, carriers-row}
use Rattle.terminal_sink.proofs.known_carriers.known_carriers.Goals as goal

pub returns-else-len-from-clause-known : goal.returns-else-len-from-clause-known
returns-else-len-from-clause-known c rows states watched =
    let row = c.args.row.now in
    let options = c.args.options in
    let seen = c.args.states.now in
    let watches = c.args.watches.now in
    let found = active_of row in
    let size = c.len.ensures ∙ ap length c.find_active-active.ensures.active in
    let other : length found ≡ c.in-Some.act → ⊥ =
    λ same. absurd (omega (arith, c.if-len-from.false, size, same, c.from.ensures)) in
    let apart : (length found == c.in-Some.act) ≡ false = grind (arith, nat_tests, other) in
    c.inferred.ensures.inferred
    ∙ sym (ap (known_by options seen watches row) (sym c.leading_act.ensures ∙ c.in-Some.is)
    ∙ ap (λ b. if b then Some found else inferred_by options seen watches row c.in-Some.act) apart)
    ∙ carriers-row options rows row seen watches (states, watched)
