-- Where the next frame waits, those after it wait too.
use Rattle.std.proofs.Common.{arith}
use Rattle.law_model.specs.Common.{leg_of}
use Rattle.fate_walks.proofs.CursorAndRulerLaws.{next-waits}
use Rattle.fate_walks.proofs.walk_fates.frame_places.next_before.Goals as goal

pub returns-in_default-clause-none : goal.returns-in_default-clause-none
returns-in_default-clause-none c =
    next-waits
    (leg_of c.args.walk.now.script) c.args.cursor.now c.next.new.self c.in-Some.frame c.args.walk.now.counts.ticks
    c.requires.at.sound c.in-Some.ensures.some
    (omega (arith, c.requires.ticks, c.if-frame-ticks.false))
