-- A line more.
use Rattle.std.proofs.Common.{◌++◌, take, get_or, subst, flat_map}
use Rattle.std.proofs.lemmas.Option.{slice_get-get_or}
use Rattle.fate_engine.specs.declared.fate_law.Cause.TheVariants.{Packet}
use Rattle.fate_engine.specs.Common.{spoiled_text}
use Rattle.fate_engine.specs.declared.fate_law.SpoiledRun.{SpoiledRun}
use Rattle.text_got.specs.TextSoFar.{HasText}
use Rattle.fate_walks.proofs.FatesAndSeenRowsLaws.{text-next}
use Rattle.fate_walks.proofs.walk_fates.fates_report.write_runs.Goals as goal

pub loop-run-preserved : goal.loop-run-preserved
loop-run-preserved g c = λ start before has.
    let runs = c.args.runs.now in
    let i = c.loop-run.run-index in
    let none : SpoiledRun = record { first = 0; end = 0; cause = Packet } in
    subst (HasText g.K.ByteSink.written g.K.ByteSink.faults c.line.new.self start)
    (text-next spoiled_text runs i (get_or runs i none) before
    (take c.spoiled_line-end.result c.spoiled_line-end.new.out) (slice_get-get_or runs i none c.loop-run-test.true)
    c.spoiled_line-end.ensures.line)
    (c.line.ensures start (before ++ flat_map spoiled_text (take i runs)) (c.loop-run.invariant start before has))
