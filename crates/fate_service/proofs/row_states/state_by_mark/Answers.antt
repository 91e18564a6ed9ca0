-- The row of the mark is found.
use Rattle.std.proofs.Common.{◌<◌, length, sym, ◌∙◌, ap, subst, arith, IfSome}
use Rattle.law_model.specs.Common.{octets_of_rows, scenario_by}
use Rattle.law_walk.specs.Common.{session_of, session_rows}
use Rattle.fate_service.specs.RowStates.{state_by_mark}
use Rattle.fate_service.proofs.SpoiledRowStateLaws.{place-reached, place-row, mark-clear, mark-hunting}
use Rattle.fate_service.proofs.row_states.state_by_mark.Goals as goal

pub returns-in_default-row_of : goal.returns-in_default-row_of
returns-in_default-row_of c = λ leg s sees low.
    let own = subst (λ m. IfSome m (λ place. place < length (octets_of_rows (session_rows leg s.rows)))) c.in-Some.is low in
    absurd (place-reached leg s c.args.seen.now sees c.in-Some.place own
    (c.in_default-row_of.ensures.beyond (scenario_by leg) (session_of leg) sees.rows.packets.are))

pub returns-then-first-row : goal.returns-then-first-row
returns-then-first-row c = λ leg s sees low.
    let own = subst (λ m. IfSome m (λ place. place < length (octets_of_rows (session_rows leg s.rows)))) c.in-Some.is low in
    let row = place-row leg s c.args.seen.now sees c.in-Some.place own c.in-Some-row_of.first
    (c.in-Some-row_of.ensures.from (scenario_by leg) (session_of leg) sees.rows.packets.are)
    (c.in-Some-row_of.ensures.below (scenario_by leg) (session_of leg) sees.rows.packets.are) in
    mark-clear (session_rows leg s.rows) c.args.row c.in-Some.place (omega (arith, row, c.if-first-row.true))
    ∙ ap (state_by_mark (session_rows leg s.rows) c.args.row) (sym c.in-Some.is)

pub returns-else-first-row : goal.returns-else-first-row
returns-else-first-row c = λ leg s sees low.
    let own = subst (λ m. IfSome m (λ place. place < length (octets_of_rows (session_rows leg s.rows)))) c.in-Some.is low in
    let row = place-row leg s c.args.seen.now sees c.in-Some.place own c.in-Some-row_of.first
    (c.in-Some-row_of.ensures.from (scenario_by leg) (session_of leg) sees.rows.packets.are)
    (c.in-Some-row_of.ensures.below (scenario_by leg) (session_of leg) sees.rows.packets.are) in
    let test = c.if-first-row.false in
    mark-hunting (session_rows leg s.rows) c.args.row c.in-Some.place (omega (arith, row, test))
    ∙ ap (state_by_mark (session_rows leg s.rows) c.args.row) (sym c.in-Some.is)
