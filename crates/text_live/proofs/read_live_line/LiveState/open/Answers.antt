-- All lines are kept as before they are cut.
use Rattle.std.proofs.Common.{◌≤◌, List, length, take, ap, arith}
use Rattle.std.proofs.lemmas.Grind.{common_steps}
use Rattle.std.proofs.lemmas.List.{take_all}
use Rattle.law_model.specs.declared.script_types.Config.{Config}
use Rattle.law_model.specs.declared.window_types.Window.{Window}
use Rattle.text_live.proofs.LiveReaderStateLaws.{opened_kept}
use Rattle.text_live.proofs.read_live_line.LiveState.open.Goals as goal

pub returns-clause-kept : goal.returns-clause-kept
returns-clause-kept c =
    let windows : List (List Window) = c.args.config.now.windows in
    let value = ap length c.deref-list-items.ensures.value in
    let view = ap (λ (config : Config). length config.windows) c.config.view_is in
    let most : length windows ≤ c.loop-list.list-index =
    grind (arith, common_steps, value, view, c.loop-list-test.false) in
    opened_kept c.loop-list.self c.args.config.now (take c.loop-list.list-index windows) c.requires.network
    (take_all c.loop-list.list-index windows most) c.loop-list.invariant.lines c.loop-list.invariant.ticks
    c.loop-list.invariant.passed
