-- A script is read, its walk is made, and its texts are written or a write fails.
use Rattle.std.proofs.Common.{refl}
use Rattle.law_model.specs.declared.script_types.Script.{Script}
use Rattle.law_headline.specs.WalkTexts.{walk_text}
use Rattle.command_rooms.specs.commands.Trace.{trace_text}
use Rattle.command_parts.specs.Common.{Answer, writes_both}
use Rattle.command_parts.proofs.SourceTextAndStopLaws.{meets-script}
use Rattle.command_rooms.proofs.HandedWalkAndTrueStartLaws.{hands-script, both-ok}
use Rattle.command_rooms.proofs.commands.trace.trace.Goals as goal

abbrev answer : Script → Answer
answer script = writes_both (walk_text script) (trace_text script)

pub returns-in-Err : goal.returns-in-Err
returns-in-Err g c = record { ran = tt; stopped = c.in-Err.ensures.stopped answer; nothing = (refl, refl) }

pub write_trace-written-requires-clause-valid : goal.write_trace-written-requires-clause-valid
write_trace-written-requires-clause-valid g c = c.in-Ok.ensures.begun.valid

pub write_trace-written-requires-clause-begun : goal.write_trace-written-requires-clause-begun
write_trace-written-requires-clause-begun g c = c.in-Ok.ensures.begun.counts

pub returns : goal.returns
returns g c = record {
  ran = record {
    answer = answer c.in-Ok.begun.walk.script;
    meets = meets-script _ answer c.in-Ok.begun.walk.script c.in-Ok.ensures.script;
    all = both-ok _ _ _ c.write_trace-written.ensures.walked c.write_trace-written.ensures.traced;
    part = c.write_trace-written.ensures.err;
    made = hands-script _ c.in-Ok.begun.walk.script c.write_trace-written.new.walk c.in-Ok.ensures.script
        c.write_trace-written.ensures.script c.write_trace-written.ensures.counts;
  };
  stopped = tt;
  nothing = tt;
}
