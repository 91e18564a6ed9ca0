-- The windows of a line more.
use Rattle.std.proofs.Common.{List, ◌∙◌, ap, subst, arith, length, slice_index_or}
use Rattle.std.specs.List.{flat_map}
use Rattle.law_model.specs.declared.window_types.Window.{Window}
use Rattle.text_scripts.specs.script_text.TextOuts.{Adds}
use Rattle.text_scripts.specs.script_text.ScriptText.{fail_line}
use Rattle.text_scripts.proofs.ScriptTextGrowthLaws.{failures-none, failures-more}
use Rattle.text_scripts.proofs.script_text.write_script_text.add_failures.Goals as goal

pub loop-line-init : goal.loop-line-init
loop-line-init g c start before has = subst (g.T.TextOut.stands_for c.args.out.now start) (failures-none before) has

pub loop-line-preserved : goal.loop-line-preserved
loop-line-preserved g c =
    let stands_for = g.T.TextOut.stands_for in
    let lists = c.deref-windows-items.ensures.value ∙ c.lists.view_is in
    let size = ap (λ (l : List (List Window)). length l) lists in
    failures-more stands_for c.args.out.now c.loop-line.out c.add_windows.new.out c.args.lists.now c.loop-line.line
    c.windows-item.result (omega (arith, size))
    (c.windows-item.is ∙ ap (λ (l : List (List Window)). slice_index_or l c.loop-line.line c.windows-item.result) lists)
    c.loop-line.invariant
    (subst (λ (windows : List Window). Adds stands_for c.loop-line.out c.add_windows.new.out
    (flat_map (fail_line c.loop-line.line) windows))
    (c.deref.ensures.value ∙ c.windows.view_is) c.add_windows.ensures)
