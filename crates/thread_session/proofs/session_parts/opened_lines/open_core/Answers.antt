-- The delay and the windows of a line are those of the configuration.
use Rattle.std.proofs.Common.{◌≡◌, ◌<◌, ℕ, Result, Ok, Err, refl, List, [], length, slice_index_or, sym, ◌∙◌, ap, subst}
use Rattle.std.proofs.Common.{arith, IfOk}
use Rattle.std.proofs.lemmas.List.{get_or_read}
use Rattle.law_model.specs.declared.window_types.Window.{Window}
use Rattle.law_model.specs.declared.script_types.Config.{Config}
use Rattle.member_path.specs.path_delay.CallsOnDelayedLine.{Line, opened, DelayStands}
use Rattle.thread_session.proofs.session_parts.opened_lines.open_core.Goals as goal

if-ok : {X E : Type 0} {P Q : X → Type 0} (r : Result X E) → IfOk r P → ((x : X) → P x → Q x) → IfOk r Q
if-ok (Ok x) p f = f x p
if-ok (Err e) p f = tt

same-line : (core : Line) (a b : ℕ) (xs ys : List Window) (m n : ℕ) → a ≡ b → xs ≡ ys → m ≡ n →
    DelayStands core (opened a xs m) → DelayStands core (opened b ys n)
same-line core a b xs ys m n d w t stands =
    let same : opened a xs m ≡ opened b ys n = rw (d, w, t) refl in
    subst (DelayStands core) same stands

pub returns : goal.returns
returns c =
    let config = c.args.config.now in
    let m = c.args.m in
    let has_delay : m < length config.delays = omega (arith, c.requires.line, c.requires.network.delay_each) in
    let has_list : m < length config.windows = omega (arith, c.requires.line, c.requires.network.windows_each) in
    let delay : c.index-2.result.now ≡ slice_index_or config.delays m 0 =
    get_or_read _ m c.index-2.result.now
    (subst (λ (x : Config). m < length x.delays) (sym c.config.view_is) has_delay) c.index-2.ensures 0
    ∙ ap (λ (x : Config). slice_index_or x.delays m 0) c.config.view_is in
    let windows : c.in-Ok.windows ≡ slice_index_or config.windows m [] =
    c.in-Ok.ensures.value ∙ c.deref.ensures.value ∙ c.behind-config.view_is
    ∙ get_or_read _ m c.index.result.now
    (subst (λ (x : Config). m < length x.windows) (sym c.config.view_is) has_list) c.index.ensures []
    ∙ ap (λ (x : Config). slice_index_or x.windows m []) c.config.view_is in
    if-ok c.new-2.result c.new-2.ensures
    (λ core stands. same-line core _ _ _ _ _ _ delay windows (ap (λ (x : Config). x.ticks) c.config.view_is) stands)
