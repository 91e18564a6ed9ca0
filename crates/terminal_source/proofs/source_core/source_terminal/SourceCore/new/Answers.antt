-- Nothing was given to the terminal.
use Rattle.std.proofs.Common.{◌≡◌, ◌*◌, length, refl, ◌∙◌, ap, arith}
use Rattle.law_model.specs.Common.{untold}
use Rattle.terminal_source.proofs.SourceTerminalScenarioLaws.{IsTerminal-new, Stands-new}
use Rattle.terminal_source.proofs.source_core.source_terminal.SourceCore.new.Goals as goal

pub invariant_of-result : goal.invariant_of-result
invariant_of-result c =
    let octets : c.from.result * c.from-2.result ≡ c.args.size * c.args.lines =
    ap (λ n. n * c.from-2.result) c.from.ensures ∙ ap (λ n. c.args.size * n) c.from-2.ensures in
    IsTerminal-new c.args.lag c.args.size c.args.lines c.args.statuses c.in_ok-new.field-0 c.new-2.result c.new-3.result
    c.new-4.result.items c.in_ok-no_packets.field-0.items untold (length c.in_ok-vec.field-0.items)
    c.requires.lines c.requires.size c.new-3.ensures c.new-4.ensures c.in_ok-no_packets.ensures
    (omega (arith, c.in_ok-vec.ensures.len, c.in_ok-vec.field-0.ok.0, octets))

pub returns-clause-stands : goal.returns-clause-stands
returns-clause-stands c scenario fresh =
    Stands-new c.args.lag c.args.size c.args.lines c.args.statuses c.in_ok-new.field-0 c.new-2.result c.new-3.result
    c.new-4.result.items c.in_ok-no_packets.field-0.items untold scenario
    c.in_ok-new.ensures (record { waits = refl; octets = c.new-2.ensures }) c.new-3.ensures c.new-4.ensures c.in_ok-no_packets.ensures refl fresh
