-- The row of a mark is found, and whether a piece begins there.
use Rattle.std.proofs.Common.{sym, ap, ◌∙◌, Some}
use Rattle.law_model.specs.Common.{leg_of, stream_before, scenario_of}
use Rattle.law_walk.specs.Common.{session_of, session_rows, session_pieces}
use Rattle.fate_engine.specs.Common.{is_piece_at, mark_text, told_text}
use Rattle.fate_walks.proofs.FatesAndSeenRowsLaws.{not-beyond, mark-piece, mark-row}
use Rattle.fate_walks.proofs.walk_fates.fates_report.told_mark.Goals as goal

pub returns-in_err-row : goal.returns-in_err-row
returns-in_err-row c =
    let script = c.args.walk.now.script in
    absurd (not-beyond
    (leg_of script) c.args.walk.now.counts c.args.seen.now c.requires.seen c.args.segment c.in_ok-place.place
    c.requires.segment c.in_ok-place.was
    (c.in_err-row.ensures.beyond (scenario_of script) (session_of (leg_of script)) c.requires.seen.rows.packets.are))

pub returns : goal.returns
returns c =
    let script = c.args.walk.now.script in
    let s = c.args.walk.now.counts in
    let place = c.in_ok-place.place in
    let sees = c.requires.seen in
    let are = c.requires.seen.rows.packets.are in
    let piece = c.is_piece.ensures (stream_before (scenario_of script) (session_of (leg_of script)) s.ticks) sees.places
    ∙ mark-piece (leg_of script) s c.args.seen.now sees c.args.segment place c.requires.segment c.in_ok-place.was in
    let row = mark-row (leg_of script) s c.args.seen.now sees c.args.segment place c.requires.segment c.in_ok-place.was
    c.in_ok-row.row
    (c.in_ok-row.ensures.from (scenario_of script) (session_of (leg_of script)) are)
    (c.in_ok-row.ensures.below (scenario_of script) (session_of (leg_of script)) are) in
    ap (λ is. told_text (Some (record { is_true = is; row = c.in_ok-row.row }))) piece
    ∙ ap (λ row. told_text (Some (record { is_true = is_piece_at (session_pieces (leg_of script)) place; row = row })))
    row
    ∙ sym (ap (mark_text (session_pieces (leg_of script)) (session_rows (leg_of script) s.rows)) c.in_ok-place.was)
