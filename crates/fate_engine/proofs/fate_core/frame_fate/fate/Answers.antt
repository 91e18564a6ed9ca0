-- The fate by the rows of the frame's first octet and of its last.
use Rattle.std.proofs.Common.{◌≡◌, ◌+◌, ◌*◌, length, slice_get, ◌∙◌, ap, arith}
use Rattle.law_model.specs.Common.{place_of, rows_of}
use Rattle.fate_engine.specs.Common.{settles, fate_around}
use Rattle.fate_engine.proofs.FrameFateAndPieceLaws.{rows-count, place-up, late-waits, carried-fate}
use Rattle.fate_engine.proofs.fate_core.frame_fate.fate.Goals as goal

pub returns-then-place-to : goal.returns-then-place-to
returns-then-place-to c = λ scenario cells stream rows are is stands.
    late-waits scenario cells stream rows c.args.frame (c.in-Some.from, c.in-Some.to)
    (c.in-Some.ensures.sides ∙ ap (λ v. slice_get v.sent c.args.frame) is) c.in-Some.ensures.some
    (let place = c.place.ensures scenario cells are in
    let count : c.rows.result ≡ rows = c.rows.ensures ∙ stands.count ∙ rows-count scenario cells rows in
    omega (arith, place, ap (place_of scenario cells) count, c.if-place-to.true))

pub returns-in_default-row_of : goal.returns-in_default-row_of
returns-in_default-row_of c = λ scenario cells stream rows are is stands.
    absurd (
    let up = place-up scenario cells c.rows.result (16 * length c.args.packets.now.active + 24)
    (let few = c.requires in omega (arith, few, c.rows.ensures)) in
    let beyond = c.in_default-row_of.ensures.beyond scenario cells are in
    omega (arith, c.place.ensures scenario cells are, up, beyond, c.in-Some.ensures.some, c.if-place-to.false)
    )

pub returns-in_default-row_of-2 : goal.returns-in_default-row_of-2
returns-in_default-row_of-2 c = λ scenario cells stream rows are is stands.
    absurd (
    let up = place-up scenario cells c.rows.result (16 * length c.args.packets.now.active + 24)
    (let few = c.requires in omega (arith, few, c.rows.ensures)) in
    let beyond = c.in_default-row_of-2.ensures.beyond scenario cells are in
    omega (arith, c.place.ensures scenario cells are, up, beyond, c.in-Some.ensures.some, c.if-place-to.false)
    )

pub returns : goal.returns
returns c = λ scenario cells stream rows are is stands.
    let place = c.place.ensures scenario cells are in
    let count : c.rows.result ≡ rows = c.rows.ensures ∙ stands.count ∙ rows-count scenario cells rows in
    let same = ap (place_of scenario cells) count in
    c.fate_in.ensures
    ∙ ap (λ v. fate_around c.around.result c.in-Some-row_of.first c.in-Some-row_of-2.last c.in-Some.from
    (settles v.sent c.args.frame)) is
    ∙ carried-fate scenario cells stream rows c.args.frame (c.in-Some.from, c.in-Some.to)
    (c.in-Some.ensures.sides ∙ ap (λ v. slice_get v.sent c.args.frame) is) c.in-Some.ensures.some
    (omega (arith, place, same, c.if-place-to.false)) c.in-Some-row_of.first c.in-Some-row_of-2.last
    (c.in-Some-row_of.ensures.from scenario cells are) (c.in-Some-row_of.ensures.below scenario cells are)
    (c.in-Some-row_of-2.ensures.from scenario cells are) (c.in-Some-row_of-2.ensures.below scenario cells are)
    c.around.result (c.around.ensures (rows_of scenario cells rows) stands)
