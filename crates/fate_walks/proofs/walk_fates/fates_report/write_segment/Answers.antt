-- The line of the segment, where there is one.
use Rattle.std.proofs.Common.{◌≡◌, ℕ, List, ◌++◌, ◌∙◌, Some, ap, subst, codes, decimal}
use Rattle.law_model.specs.Common.{leg_of}
use Rattle.text_got.specs.TextSoFar.{HasText}
use Rattle.law_walk.specs.Common.{session_rows}
use Rattle.fate_walks.specs.walk_fates.MadeWalk.{segment_in}
use Rattle.fate_walks.proofs.walk_fates.fates_report.write_segment.Goals as goal

pub returns : goal.returns
returns g c = λ segment there start before has.
    let script = c.args.walk.now.script in
    let rows = c.args.walk.now.counts.rows in
    let own = c.in-Some.segment in
    let found : Some own ≡ Some segment = c.in-Some.ensures (session_rows (leg_of script) rows) c.requires.rows.segments
    ∙ there in
    let same : own ≡ segment = cc in
    let text : List ℕ → List ℕ = λ (t : List ℕ). codes "segment " ++ decimal own.first ++ codes " " ++ decimal own.end
    ++ codes " " ++ t ++ codes "\n" in
    subst (HasText g.K.ByteSink.written g.K.ByteSink.faults c.line.new.self start)
    (ap (λ l. before ++ l) (c.segment_line-end.ensures.line ∙ ap text c.told_mark.ensures
    ∙ ap (segment_in (leg_of script) rows) same))
    (c.line.ensures start before has)
