-- One line more is opened.
use Rattle.std.proofs.Common.{◌<◌, [], length, refl, sym, ◌∙◌, ap, subst, arith}
use Rattle.std.proofs.lemmas.List.{get_or_read}
use Rattle.law_model.specs.declared.script_types.Config.{Config}
use Rattle.walk_engine.specs.Common.{IsOpened}
use Rattle.walk_engine.proofs.OpenedWayLaws.{opened-more, opened-at}
use Rattle.walk_engine.proofs.walk_core.open_way.new_lines.Goals as goal

pub loop-m-preserved : goal.loop-m-preserved
loop-m-preserved c =
    let test = c.loop-m-test.true in
    let end = c.from-m-end.ensures in
    let lines = ap (λ (x : Config). x.lines) c.config.view_is in
    let delays = c.requires.delay_each in
    let lists = c.requires.windows_each in
    let has_delay : c.loop-m.m < length c.args.config.now.delays = omega (arith, test, end, lines, delays) in
    let has_list : c.loop-m.m < length c.args.config.now.windows = omega (arith, test, end, lines, lists) in
    let is = subst (λ (x : Config). IsOpened x c.loop-m.m c.in_ok-new.field-0) c.config.view_is
    (opened-at _ c.loop-m.m c.in_ok-new.field-0 _ _ _
    (get_or_read _ c.loop-m.m c.index.result.now
    (subst (λ (x : Config). c.loop-m.m < length x.delays) (sym c.config.view_is) has_delay) c.index.ensures 0)
    (c.deref.ensures.value ∙ c.behind-config.view_is
    ∙ get_or_read _ c.loop-m.m c.index-in-loop-m.result.now (subst (λ (x : Config). c.loop-m.m < length x.windows)
    (sym c.config.view_is) has_list) c.index-in-loop-m.ensures [])
    refl c.in_ok-new.ensures.has c.in_ok-new.ensures.ring c.in_ok-new.ensures.popped) in
    rw c.in_ok-push.ensures.items (opened-more c.args.config.now c.loop-m.m c.loop-m.lines.items c.in_ok-new.field-0
    c.loop-m.invariant is)
