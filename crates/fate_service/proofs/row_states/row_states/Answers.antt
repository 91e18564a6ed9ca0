-- A row more.
use Rattle.std.proofs.Common.{◌≡◌, ◌<◌, ◌∷◌, ◌++◌, [], map, ◌+◌, ◌∙◌, ap, ap₂, arith}
use Rattle.std.specs.List.{range_with_len}
use Rattle.law_model.specs.Common.{scenario_by}
use Rattle.law_walk.specs.Common.{session_of, session_rows}
use Rattle.fate_engine.proofs.FrameFateAndPieceLaws.{rows-count}
use Rattle.fate_service.specs.RowStates.{state_of}
use Rattle.fate_service.proofs.SpoiledRowStateLaws.{range-push}
use Rattle.fate_service.proofs.row_states.row_states.Goals as goal

pub loop-row-preserved : goal.loop-row-preserved
loop-row-preserved c = λ leg s sees.
    let rows = session_rows leg s.rows in
    let row = c.loop-row.row in
    let size = rows-count (scenario_by leg) (session_of leg) s.rows in
    let test = c.loop-row-test.true in
    let low : row < s.rows = omega (arith, size, sees.rows.segments.count, c.rows-rows.ensures, test) in
    c.in_ok-push.ensures.items
    ∙ ap₂ (λ l state. l ++ state ∷ []) (c.loop-row.invariant leg s sees) (c.row_state.ensures leg s sees low)
    ∙ ap (λ k. map (state_of rows) (range_with_len 0 row) ++ state_of rows k ∷ []) (let e : row ≡ 0 + row = omega arith in e)
    ∙ range-push (state_of rows) 0 row
