-- One line more is whole, or one isn't.
use Rattle.std.proofs.Common.{◌≡◌, ℕ, ◌<◌, ◌+◌, length, drop, get_or, slice_get, is_some, Some, None, sym, ◌∙◌, ap}
use Rattle.std.proofs.Common.{arith}
use Rattle.std.proofs.lemmas.List.{drop_more}
use Rattle.law_model.specs.Common.{container_on, containers_at}
use Rattle.member_path.specs.cell_numbers.SignsAsCells.{told_by}
use Rattle.terminal_sink.proofs.WholeRowContainersLaws.{container_on-told, whole-step, bad-step}
use Rattle.terminal_sink.proofs.sink_core.whole_rows.are_whole.Goals as goal

pub returns-in-Bad : goal.returns-in-Bad
returns-in-Bad c cells stands =
    let i = c.loop-line.line-index in
    let active = c.args.active.now in
    let t = c.args.rows.now.rows in
    let line : ℕ = get_or active i 0 in
    let inside : line < length cells = (let below = c.requires.lines i c.loop-line-test.true in
    let size = stands.size in omega (arith, below)) in
    let bad : container_on (slice_get cells line) t ≡ None =
    container_on-told cells line t (told_by c.verdict.result) inside
    (λ own here. c.verdict.ensures cells own stands here) ∙ ap told_by c.in-Bad.is in
    sym (sym (c.loop-line.invariant cells stands)
    ∙ ap (λ lines. is_some (containers_at cells t lines)) (drop_more active i 0 c.loop-line-test.true)
    ∙ bad-step cells t line (drop (i + 1) active) bad)

pub loop-line-preserved : goal.loop-line-preserved
loop-line-preserved c cells stands =
    let i = c.loop-line.line-index in
    let active = c.args.active.now in
    let t = c.args.rows.now.rows in
    let line : ℕ = get_or active i 0 in
    let inside : line < length cells = (let below = c.requires.lines i c.loop-line-test.true in
    let size = stands.size in omega (arith, below)) in
    let whole : container_on (slice_get cells line) t ≡ Some c.in-Whole.field-0.now =
    container_on-told cells line t (told_by c.verdict.result) inside
    (λ own here. c.verdict.ensures cells own stands here) ∙ ap told_by c.in-Whole.is in
    sym (ap (λ lines. is_some (containers_at cells t lines)) (drop_more active i 0 c.loop-line-test.true)
    ∙ whole-step cells t line (drop (i + 1) active) c.in-Whole.field-0.now whole)
    ∙ c.loop-line.invariant cells stands
