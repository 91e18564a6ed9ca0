-- Nothing is told before any event.
use Rattle.std.proofs.Common.{ℕ, List, refl, sym, ap, subst}
use Rattle.law_model.specs.Common.{Appends, Counts}
use Rattle.octet_io.proofs.AppendedTextAndPrefixLaws.{Appends-none}
use Rattle.command_rooms.specs.commands.Trace.{decisions_text}
use Rattle.command_rooms.proofs.WalkTraceAndEventCountLaws.{rows-begun}
use Rattle.command_rooms.proofs.turns.trace_turns.Tracer.new.Goals as goal

pub returns-clause-begun : goal.returns-clause-begun
returns-clause-begun g c walk begun lines =
    let first = c.args.notes.now in
    let P : List ℕ → Type 0 = λ text. Appends g.E.ByteSink.written g.E.ByteSink.faults first first text in
    record {
      name = refl;
      lines = lines;
      told = record {
        whole = c.new.ensures.whole;
        gives = rows-begun g.K.ByteSink.written g.K.ByteSink.faults c.new.result _ walk c.new.ensures.fresh begun;
        lines = subst P (sym (ap (λ (s : Counts). decisions_text walk.script s.ticks) begun))
            (Appends-none g.E.ByteSink.written g.E.ByteSink.faults first);
      };
    }
