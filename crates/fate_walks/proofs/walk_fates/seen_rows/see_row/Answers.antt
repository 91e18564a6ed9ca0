-- One row more.
use Rattle.std.proofs.Common.{◌≡◌, ℕ, ◌+◌, ◌≤◌, ◌∷◌, ◌++◌, [], Option, refl, sym, ◌∙◌, ap, subst, arith, map}
use Rattle.std.proofs.lemmas.Result.{on_ok_weaker, on_err_weaker}
use Rattle.law_model.specs.Common.{Leg, Counts, leg_of, scenario_of, place_of, segments_of}
use Rattle.law_model.specs.declared.script_types.Script.{Script}
use Rattle.law_model.specs.rows.SessionStream.{row_of}
use Rattle.fate_engine.specs.Common.{row_cause, Tells, AreRuns}
use Rattle.fate_engine.specs.declared.fate_law.Cause.{Cause}
use Rattle.std.specs.List.{range_with_len}
use Rattle.law_walk.specs.Common.{session_of, session_rows}
use Rattle.terminal_sink.specs.marked_delineator.Marks.{first_place}
use Rattle.walk_engine.proofs.WalkRoundAndTotalsLaws.{mark-is}
use Rattle.fate_walks.proofs.FatesAndSeenRowsLaws.{few-rows, causes-size, rows-size, rows-next, row-tells}
use Rattle.fate_walks.proofs.FatesAndSeenRowsLaws.{whole-cause, none-is, place-low, mark-low-seen as mark-low, one-row}
use Rattle.fate_walks.proofs.FatesAndSeenRowsLaws.{on-err, part-stays, part-packets, part-ahead}
use Rattle.fate_walks.proofs.walk_fates.seen_rows.see_row.Goals as goal

-- the mark of the segment that goes on, after some counts
abbrev mark_after : Leg → Counts → Option ℕ
mark_after leg s = first_place (segments_of (session_rows leg s.rows)).last.octets

pub row_cause-cause-requires-clause-governed : goal.row_cause-cause-requires-clause-governed
row_cause-cause-requires-clause-governed c =
    let few =
    few-rows (leg_of c.args.walk.now.script) c.args.walk.now.counts c.requires.valid.sound c.requires.walked in
    omega (arith, few.0, c.requires.seen.packets.steps, c.requires.last)

pub row_cause-cause-requires-clause-known : goal.row_cause-cause-requires-clause-known
row_cause-cause-requires-clause-known c = let known = c.requires.seen.known in omega (arith, known)

pub row-requires : goal.row-requires
row-requires c =
    let few =
    few-rows (leg_of c.args.walk.now.script) c.args.walk.now.counts c.requires.valid.sound c.requires.walked in
    let size = causes-size (leg_of c.args.walk.now.script) c.args.row in
    omega (arith, few.0, few.2, c.requires.last, size, c.requires.seen.runs.count)

pub overflow_add-row : goal.overflow_add-row
overflow_add-row c =
    let few =
    few-rows (leg_of c.args.walk.now.script) c.args.walk.now.counts c.requires.valid.sound c.requires.walked in
    omega (arith, few.0, few.2, c.requires.last)

pub place-end-requires : goal.place-end-requires
place-end-requires c =
    let few =
    few-rows (leg_of c.args.walk.now.script) c.args.walk.now.counts c.requires.valid.sound c.requires.walked in
    omega (arith, few.0, c.in_ok-see_known.ensures.packets.steps, c.requires.last)

pub row-requires-2 : goal.row-requires-2
row-requires-2 c =
    let leg = leg_of c.args.walk.now.script in
    let rows = c.args.walk.now.counts.rows in
    let sound = c.requires.valid.sound in
    let few = few-rows leg c.args.walk.now.counts sound c.requires.walked in
    let size = rows-size leg c.args.row in
    let low : rows ≤ leg.config.ticks = omega (arith, few.0, few.1) in
    let told = mark-is leg _ _ c.first_confirmed.result (c.way.ensures.stands leg c.live.ensures.stands)
    (rw c.sink.ensures at c.first_confirmed.ensures)
    ∙ ap (mark_after leg) (c.way.ensures.counts ∙ c.live.ensures.counts) in
    let is = c.place-end.ensures (scenario_of c.args.walk.now.script) (session_of leg)
    c.in_ok-see_known.ensures.packets.are in
    record {
      rows = omega (arith, few.0, few.2, c.requires.last, size, c.requires.seen.segments.count);
      end = omega (arith, is, place-low leg (c.args.row + 1) sound (omega (arith, low, c.requires.last)));
      confirmed = mark-low leg rows c.first_confirmed.result sound low told;
    }

pub returns-clause-ok : goal.returns-clause-ok
returns-clause-ok c =
    let script : Script = c.args.walk.now.script in
    let scenario = scenario_of script in
    let cells = session_of (leg_of script) in
    let row = c.args.row in
    let causes = map (row_cause scenario cells) (range_with_len 0 row) in
    let is : c.row_cause-cause.result ≡ row_cause scenario cells row =
    c.row_cause-cause.ensures scenario cells
    (ap (λ (s : Script). s.config.windows) (sym c.script.ensures.script)) c.requires.seen.packets.are in
    let runs : AreRuns c.row.new.self (causes ++ row_cause scenario cells row ∷ []) =
    subst (λ (cause : Option Cause). AreRuns c.row.new.self (causes ++ cause ∷ [])) is
    (c.in_ok-row.ensures.ok causes c.requires.seen.runs) in
    let ends : c.place-end.result ≡ place_of scenario cells c.args.walk.now.counts.rows =
    c.place-end.ensures scenario cells c.in_ok-see_known.ensures.packets.are
    ∙ ap (place_of scenario cells) c.requires.last in
    let told : Tells (session_rows (leg_of script) (row + 1)) c.place-end.result c.first_confirmed.result =
    row-tells (leg_of script) c.args.walk.now.counts
    (row + 1) c.place-end.result c.first_confirmed.result c.requires.last ends
    (mark-is (leg_of script) _ _ c.first_confirmed.result
    (c.way.ensures.stands (leg_of script) c.live.ensures.stands) (rw c.sink.ensures at c.first_confirmed.ensures)
    ∙ ap (mark_after (leg_of script)) (c.way.ensures.counts ∙ c.live.ensures.counts)) in
    let whole = whole-cause (leg_of script) row c.row_cause-cause.result is
    ∙ none-is c.row_cause-cause.result c.is_none.result c.is_none.ensures in
    let stands =
    c.row-2.ensures.ok (session_rows (leg_of script) row) (row_of scenario cells row) c.requires.seen.segments whole
    (subst (λ rows. Tells rows c.place-end.result c.first_confirmed.result) (rows-next (leg_of script) row) told) in
    on_ok_weaker c.row-2.result
    (λ segments. one-row (leg_of script) c.args.walk.now.counts.ticks row c.args.walk.now.counts.rows
    (record { packets = c.see_known.new.packets; segments = c.row-2.new.self; runs = c.row.new.self }) c.requires.last
    c.in_ok-see_known.ensures.packets c.in_ok-see_known.ensures.known segments runs) stands

pub returns-in_err-see_known-clause-err : goal.returns-in_err-see_known-clause-err
returns-in_err-see_known-clause-err c =
    on-err c.from_residual.result
    (part-stays (leg_of c.args.walk.now.script) c.args.walk.now.counts.ticks c.args.walk.now.counts.rows c.args.seen.now
    (record c.args.seen.now { packets = c.see_known.new.packets }) refl c.in_err-see_known.ensures.err refl)

pub returns-in_err-row-clause-err : goal.returns-in_err-row-clause-err
returns-in_err-row-clause-err c =
    on-err c.from_residual-in_err-row.result
    (part-packets (leg_of c.args.walk.now.script) c.args.walk.now.counts.ticks c.args.walk.now.counts.rows
    c.args.seen.now (record c.args.seen.now { packets = c.see_known.new.packets; runs = c.row.new.self }) refl
    c.in_ok-see_known.ensures.packets c.in_ok-see_known.ensures.known c.in_err-row.ensures.err)

pub returns-clause-err : goal.returns-clause-err
returns-clause-err c =
    let script : Script = c.args.walk.now.script in
    let scenario = scenario_of script in
    let cells = session_of (leg_of script) in
    let row = c.args.row in
    let causes = map (row_cause scenario cells) (range_with_len 0 row) in
    let is : c.row_cause-cause.result ≡ row_cause scenario cells row =
    c.row_cause-cause.ensures scenario cells
    (ap (λ (s : Script). s.config.windows) (sym c.script.ensures.script)) c.requires.seen.packets.are in
    let runs : AreRuns c.row.new.self (causes ++ row_cause scenario cells row ∷ []) =
    subst (λ (cause : Option Cause). AreRuns c.row.new.self (causes ++ cause ∷ [])) is
    (c.in_ok-row.ensures.ok causes c.requires.seen.runs) in
    on_err_weaker c.row-2.result
    (λ same. part-ahead (leg_of script) c.args.walk.now.counts.ticks row c.args.walk.now.counts.rows c.args.seen.now
    (record { packets = c.see_known.new.packets; segments = c.row-2.new.self; runs = c.row.new.self })
    c.requires.last same c.in_ok-see_known.ensures.packets c.in_ok-see_known.ensures.known runs) c.row-2.ensures.err
