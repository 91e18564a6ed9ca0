-- By where the row lies.
use Rattle.std.proofs.Common.{◌<◌, length, sym, ◌∙◌, ap, subst, arith, IfSome, ltb-false}
use Rattle.law_model.specs.Common.{octets_of_rows, scenario_by}
use Rattle.law_walk.specs.Common.{session_of, session_rows}
use Rattle.fate_engine.specs.Common.{spoiled_after}
use Rattle.fate_engine.proofs.FrameFateAndPieceLaws.{rows-count}
use Rattle.fate_service.specs.RowStates.{state_by_mark}
use Rattle.fate_service.proofs.SpoiledRowStateLaws.{state-spoiled, state-first, state-later, mark-low-if}
use Rattle.fate_service.proofs.row_states.row_state.Goals as goal

pub returns-then-row-around : goal.returns-then-row-around
returns-then-row-around c = λ leg s sees low.
    let rows = session_rows leg s.rows in
    let count = rows-count (scenario_by leg) (session_of leg) s.rows in
    let around = c.around-around.ensures rows sees.rows.segments (omega (arith, low, count)) in
    state-spoiled rows c.args.row (omega (arith, around.spoiled, c.if-row-around.true))

pub returns-then-around : goal.returns-then-around
returns-then-around c = λ leg s sees low.
    let rows = session_rows leg s.rows in
    let count = rows-count (scenario_by leg) (session_of leg) s.rows in
    let around = c.around-around.ensures rows sees.rows.segments (omega (arith, low, count)) in
    let test = c.if-row-around.false in
    state-first rows c.args.row (omega (arith, around.spoiled, test)) (sym around.first ∙ c.if-around.true)

pub returns : goal.returns
returns c = λ leg s sees low.
    let rows = session_rows leg s.rows in
    let row = c.args.row in
    let count = rows-count (scenario_by leg) (session_of leg) s.rows in
    let around = c.around-around.ensures rows sees.rows.segments (omega (arith, low, count)) in
    let inside : row < spoiled_after rows row = omega (arith, around.spoiled, c.if-row-around.false) in
    let later = sym around.first ∙ c.if-around.false in
    let mark = around.mark inside (ltb-false row (spoiled_after rows 0) later) in
    c.state_by_mark.ensures leg s sees
    (subst (λ m. IfSome m (λ place. place < length (octets_of_rows rows))) (sym mark) (mark-low-if rows row))
    ∙ ap (state_by_mark rows row) mark ∙ state-later rows row inside later
