-- A record more, in the row that the frame's fate tells.
use Rattle.std.proofs.Common.{◌≡◌, ◌++◌, Some, sym, ◌∙◌, ap, subst}
use Rattle.law_model.specs.Common.{leg_of}
use Rattle.text_captures.specs.capture_file.CaptureSoFar.{HasGfp}
use Rattle.fate_walks.specs.walk_fates.MadeWalk.{fates_in}
use Rattle.fate_walks.specs.walk_gfp.LastRowOfFrame.{last_row, frame_if}
use Rattle.fate_walks.proofs.walk_gfp.gfp_records.write_accepted.Goals as goal

pub returns-in-Some : goal.returns-in-Some
returns-in-Some g c start before has =
    let fate = fates_in (leg_of c.args.walk.now.script) c.args.walk.now.counts.rows c.args.frame in
    let row : Some c.in-Some.row ≡ last_row fate = sym c.in-Some.is ∙ c.last_row.ensures
    ∙ ap last_row c.accepted_fate.ensures in
    subst (HasGfp g.K.ByteSink.written g.K.ByteSink.faults c.frame.new.self start)
    (ap (λ o. before ++ frame_if o c.args.octets.now) row) (c.frame.ensures start before has)
