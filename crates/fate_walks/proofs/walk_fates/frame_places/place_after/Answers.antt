-- The place is that of the session, whose octets are few.
use Rattle.std.proofs.Common.{◌+◌, arith}
use Rattle.law_model.specs.Common.{leg_of, scenario_of}
use Rattle.law_walk.specs.Common.{session_of}
use Rattle.fate_walks.proofs.CursorAndRulerLaws.{few-ticks, place-few}
use Rattle.fate_walks.proofs.walk_fates.frame_places.place_after.Goals as goal

pub overflow_add-row : goal.overflow_add-row
overflow_add-row c =
    let few =
    few-ticks (leg_of c.args.walk.now.script) c.args.walk.now.counts c.requires.valid.sound c.requires.walked in
    omega (arith, few.1, c.requires.made)

pub returns-clause-low : goal.returns-clause-low
returns-clause-low c =
    let few =
    few-ticks (leg_of c.args.walk.now.script) c.args.walk.now.counts c.requires.valid.sound c.requires.walked in
    let made = c.requires.made in
    let is = c.place.ensures (scenario_of c.args.walk.now.script)
    (session_of (leg_of c.args.walk.now.script)) c.requires.packets.are in
    let low =
    place-few (leg_of c.args.walk.now.script) (c.args.row + 1) c.requires.valid.sound (omega (arith, few.0, made)) in
    omega (arith, is, low)
