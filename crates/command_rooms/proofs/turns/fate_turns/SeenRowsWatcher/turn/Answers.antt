-- The walk goes on by a turn's events.
use Rattle.std.proofs.Common.{rules}
use Rattle.law_model.specs.Common.{leg_of}
use Rattle.law_walk.specs.Common.{walk_plan}
use Rattle.command_rooms.specs.TracedWalk.{events_of}
use Rattle.command_rooms.proofs.WalkTraceAndEventCountLaws.{walked-on}
use Rattle.command_rooms.proofs.turns.fate_turns.SeenRowsWatcher.turn.Goals as goal

pub see_since-requires-clause-walked : goal.see_since-requires-clause-walked
see_since-requires-clause-walked c =
    walked-on _ _ c.args.walk.now.counts _ (events_of (walk_plan (leg_of c.args.walk.now.script)) c.args.turn)
    c.requires.walked c.make_turn.ensures.script c.make_turn.ensures.counts

pub see_since-requires-clause-seen : goal.see_since-requires-clause-seen
see_since-requires-clause-seen c = let seen = c.requires.seen.1 in search (rules, seen)
