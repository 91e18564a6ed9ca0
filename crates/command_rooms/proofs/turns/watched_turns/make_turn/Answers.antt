-- An event or a round, as the walk tells.
use Rattle.std.proofs.Common.{◌≡◌, rules, sym, ◌∙◌, subst}
use Rattle.law_model.specs.Common.{leg_of, run}
use Rattle.law_walk.specs.Common.{walk_plan}
use Rattle.command_rooms.specs.TracedWalk.{events_of}
use Rattle.command_rooms.specs.declared.turns.watched_turns.Turn.{Turn}
use Rattle.command_rooms.proofs.WalkTraceAndEventCountLaws.{Moves, run-one, step-moves, round-moves}
use Rattle.command_rooms.proofs.turns.watched_turns.make_turn.Goals as goal

pub returns-in-Try : goal.returns-in-Try
returns-in-Try g c =
    let plan = walk_plan (leg_of c.args.walk.now.script) in
    let moves = subst (Moves 1 1 c.args.walk.now.counts) (sym c.step.ensures.counts)
    (step-moves plan c.args.walk.now.counts c.in-Try.event) in
    record {
      script = search rules;
      counts = subst (λ (turn : Turn). c.step.new.self.counts ≡ run plan c.args.walk.now.counts (events_of plan turn))
          (sym c.in-Try.is) (c.step.ensures.counts ∙ sym (run-one plan c.args.walk.now.counts c.in-Try.event));
      gives = search rules;
      rows = moves.rows;
      one = moves.more_rows;
      least = moves.ticks;
      most = moves.more_ticks;
    }

pub returns-in-Round : goal.returns-in-Round
returns-in-Round g c =
    let moves = subst (Moves 1 1 c.args.walk.now.counts) (sym c.round.ensures.counts)
    (round-moves (walk_plan (leg_of c.args.walk.now.script)) c.args.walk.now.counts) in
    record {
      script = search rules;
      counts = search rules;
      gives = search rules;
      rows = moves.rows;
      one = moves.more_rows;
      least = moves.ticks;
      most = moves.more_ticks;
    }
