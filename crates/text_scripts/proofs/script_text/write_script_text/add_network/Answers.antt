-- A line behind another.
use Rattle.std.proofs.Common.{List, ℕ, subst}
use Rattle.std.specs.Prelude.{codes}
use Rattle.law_model.specs.declared.script_types.Config.{Config}
use Rattle.text_scripts.specs.script_text.TextOuts.{Adds}
use Rattle.text_scripts.specs.script_text.ScriptText.{number_line, network_text}
use Rattle.text_scripts.proofs.ScriptTextGrowthLaws.{network-adds}
use Rattle.text_scripts.proofs.script_text.write_script_text.add_network.Goals as goal

pub returns : goal.returns
returns g c =
    let stands_for = g.T.TextOut.stands_for in
    subst (λ (config : Config). Adds stands_for c.args.out.now c.add_numbers-4.new.out (network_text config)) c.config.view_is
    (network-adds stands_for c.args.out.now c.add_if.new.out c.add_numbers.new.out c.add_delays.new.out
    c.add_numbers-2.new.out c.add_numbers-3.new.out c.add_numbers-4.new.out _ c.add_if.ensures c.add_numbers.ensures
    (subst (λ (delays : List ℕ). Adds stands_for c.add_numbers.new.out c.add_delays.new.out (number_line (codes "delays") delays))
    c.deref.ensures.value c.add_delays.ensures)
    c.add_numbers-2.ensures c.add_numbers-3.ensures c.add_numbers-4.ensures)
