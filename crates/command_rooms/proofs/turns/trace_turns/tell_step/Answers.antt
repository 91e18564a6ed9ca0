-- The last step is noted, and its line written.
use Rattle.std.proofs.Common.{ℕ, List, ◌∙◌, ap, subst}
use Rattle.std.proofs.lemmas.Result.{on_ok_weaker, on_err_weaker}
use Rattle.law_model.specs.Common.{Appends, AppendsPart, Counts, leg_of}
use Rattle.law_walk.specs.Common.{last_packet, table_in}
use Rattle.walk_engine.specs.Common.{note_of}
use Rattle.command_rooms.proofs.WalkTraceAndEventCountLaws.{last-line}
use Rattle.command_rooms.proofs.turns.trace_turns.tell_step.Goals as goal

pub returns : goal.returns
returns g c =
    let leg = leg_of c.args.walk.now.script in
    let note = c.in-Some.ensures.step leg c.live.ensures.stands
    ∙ ap (λ (s : Counts). note_of leg (last_packet s.ticks)) c.live.ensures.counts in
    let table = c.table.ensures.table leg _ (c.way.ensures.stands leg c.live-2.ensures.stands)
    ∙ ap (λ (s : Counts). table_in leg s.ticks) (c.way.ensures.counts ∙ c.live-2.ensures.counts) in
    let line = c.trace_line-end.ensures.line
    ∙ last-line c.args.walk.now.script c.args.walk.now.counts.ticks c.args.lines c.in-Some.note
    c.table.result.now.source.table c.requires.some note table c.requires.lines in
    let P : List ℕ → Type 0 = λ text. Appends g.E.ByteSink.written g.E.ByteSink.faults c.args.notes.now
    c.put_all.new.sink text in
    let Q : List ℕ → Type 0 = λ text. AppendsPart g.E.ByteSink.written g.E.ByteSink.faults c.args.notes.now
    c.put_all.new.sink text in
    record {
      ok = on_ok_weaker c.put_all.result (subst P line) c.put_all.ensures.ok;
      err = on_err_weaker c.put_all.result (subst Q line) c.put_all.ensures.err;
    }
