-- A failure more; and all of them.
use Rattle.std.proofs.Common.{◌≡◌, ℕ, ◌+◌, ◌<◌, ◌≤◌, ◌∷◌, ◌++◌, List, [], length, take, get_or, All, sym, ◌∙◌}
use Rattle.std.proofs.Common.{ap, ap₂, subst, arith}
use Rattle.std.proofs.lemmas.List.{take_all}
use Rattle.std.proofs.lemmas.List.Elements.{All-get_or}
use Rattle.law_model.specs.declared.script_types.Script.{Script}
use Rattle.law_model.specs.declared.window_types.Window.{Window}
use Rattle.law_model.specs.session.Leg.{leg_of}
use Rattle.law_model.specs.session.ValidScript.{HasFailures}
use Rattle.text_got.specs.TextSoFar.{HasText}
use Rattle.fate_check.specs.IdleWindows.{idle_among}
use Rattle.fate_check.specs.CheckText.{idle_texts}
use Rattle.fate_check.proofs.CheckTextAndEarlyFrameLaws.{text_of, grown, window-more, one-idle-at-most}
use Rattle.fate_check.proofs.write_check_lines.write_idle_on.Goals as goal
use Rattle.law_model.specs.Common.{most_ticks}

pub windows_of-windows-requires : goal.windows_of-windows-requires
windows_of-windows-requires g c =
    let same = ap (λ (s : Script). length s.config.windows) c.script.ensures.script in
    omega (arith, same, c.requires.seen.sound.network.windows_each, c.requires.there)

-- a failure ends within the ticks
within : (ticks : ℕ) (windows : List Window) (i : ℕ) (d : Window) → i < length windows →
    All (λ (window : Window). window.end ≤ ticks) windows → ticks ≤ most_ticks → (get_or windows i d).end ≤ most_ticks
within ticks windows i d low ends few =
    let end : (get_or windows i d).end ≤ ticks = All-get_or (λ (window : Window). window.end ≤ ticks) windows i d low ends in
    omega (arith, end, few)

pub write_if_idle-idle-requires-clause-end : goal.write_if_idle-idle-requires-clause-end
write_if_idle-idle-requires-clause-end g c =
    let network = c.requires.seen.sound.network in
    let windows = c.args.walk.now.script.config.windows in
    let each = network.windows_each in
    let there = c.requires.there in
    let own : HasFailures c.args.walk.now.script.config.ticks (get_or windows c.args.member []) =
    All-get_or (HasFailures c.args.walk.now.script.config.ticks) windows c.args.member [] (omega (arith, each, there))
    network.windows in
    let same : get_or windows c.args.member [] ≡ c.windows_of-windows.result.now =
    sym (c.windows_of-windows.ensures ∙ ap (λ (s : Script). get_or s.config.windows c.args.member []) c.script.ensures.script) in
    let ends : All (λ (window : Window). window.end ≤ c.args.walk.now.script.config.ticks) c.windows_of-windows.result.now =
    subst (All (λ (window : Window). window.end ≤ c.args.walk.now.script.config.ticks)) same own.ends in
    within c.args.walk.now.script.config.ticks c.windows_of-windows.result.now c.loop-window.window-index _
    c.loop-window-test.true ends network.ticks.1

pub loop-window-preserved : goal.loop-window-preserved
loop-window-preserved g c =
    let leg = leg_of c.args.walk.now.script in
    let rows = c.args.walk.now.counts.rows in
    let member = c.args.member in
    let windows = c.windows_of-windows.result.now in
    let i = c.loop-window.window-index in
    let more = c.loop-window-test.true in
    let own = c.write_if_idle-idle.ensures.count in
    let grows = grown text_of (idle_among leg rows member (take i windows)) (idle_among leg rows member (_ ∷ [])) _
    (window-more leg rows member windows i _ more) in
    let few : c.write_if_idle-idle.result ≤ 1 = subst (λ n. n ≤ 1) (sym own) (one-idle-at-most leg rows member _) in (
      ap₂ ◌+◌ c.loop-window.invariant.0 own ∙ sym grows.0,
      omega (arith, c.loop-window.invariant.1, few),
      λ start before has.
          subst (HasText g.K.ByteSink.written g.K.ByteSink.faults c.write_if_idle-idle.new.got start) (grows.1 before)
          (c.write_if_idle-idle.ensures.text start (before ++ idle_texts (idle_among leg rows member (take i windows)))
          (c.loop-window.invariant.2 start before has)),
    )

pub returns : goal.returns
returns g c =
    let leg = leg_of c.args.walk.now.script in
    let rows = c.args.walk.now.counts.rows in
    let member = c.args.member in
    let windows = c.args.walk.now.script.config.windows in
    let network = c.requires.seen.sound.network in
    let each = network.windows_each in
    let there = c.requires.there in
    let own : HasFailures c.args.walk.now.script.config.ticks (get_or windows member []) =
    All-get_or (HasFailures c.args.walk.now.script.config.ticks) windows member [] (omega (arith, each, there))
    network.windows in
    let same : c.windows_of-windows.result.now ≡ get_or windows member [] =
    c.windows_of-windows.ensures ∙ ap (λ (s : Script). get_or s.config.windows member []) c.script.ensures.script in
    let all : take c.loop-window.window-index c.windows_of-windows.result.now ≡ get_or windows member [] =
    take_all c.loop-window.window-index c.windows_of-windows.result.now c.loop-window-test.false ∙ same in
    let count = ap length same in
    let few = own.few in
    record {
      text = λ start before has.
          subst (HasText g.K.ByteSink.written g.K.ByteSink.faults c.loop-window.got start)
          (ap (λ (l : List Window). before ++ idle_texts (idle_among leg rows member l)) all)
          (c.loop-window.invariant.2 start before has);
      count = c.loop-window.invariant.0 ∙ ap (λ (l : List Window). length (idle_among leg rows member l)) all;
      few = omega (arith, count, few, c.loop-window.invariant.1, c.loop-window.auto.window-index-end);
    }
