-- A part behind another.
use Rattle.std.proofs.Common.{List, ℕ, ◌∙◌, ap, subst}
use Rattle.std.specs.List.{flat_map}
use Rattle.law_model.specs.declared.script_types.Script.{Script}
use Rattle.text_scripts.specs.script_text.TextOuts.{Adds}
use Rattle.text_scripts.specs.script_text.ScriptText.{options_text, failures_from, lost_line, item_line}
use Rattle.text_scripts.proofs.ScriptTextGrowthLaws.{script-adds}
use Rattle.text_scripts.proofs.script_text.write_script_text.add_script.Goals as goal

pub returns : goal.returns
returns g c =
    let stands_for = g.T.TextOut.stands_for in
    let network = c.add_network.new.out in
    let options = c.add_options.new.out in
    let failures = c.add_failures.new.out in
    let losses = c.add_losses.new.out in
    let items = c.add_items.new.out in
    script-adds stands_for c.args.out.now network options failures losses items c.args.script.now c.add_network.ensures
    (subst (λ (script : Script). Adds stands_for network options (options_text script.config.options)) c.script.view_is
    c.add_options.ensures)
    (subst (λ (script : Script). Adds stands_for options failures (failures_from 0 script.config.windows)) c.script.view_is
    c.add_failures.ensures)
    (subst (λ (lost : List (ℕ × ℕ)). Adds stands_for failures losses (flat_map lost_line lost))
    (c.deref.ensures.value ∙ ap (λ (script : Script). script.config.lost) c.script.view_is) c.add_losses.ensures)
    (subst (λ (script : Script). Adds stands_for losses items (flat_map item_line script.items)) c.script.view_is
    c.add_items.ensures)
