-- One turn more, or all are made.
use Rattle.std.proofs.Common.{refl, sym, ◌∙◌, ap, subst}
use Rattle.law_model.specs.declared.script_types.Script.{Script}
use Rattle.law_model.specs.declared.session_totals.Totals.{Totals}
use Rattle.law_model.specs.session.Leg.{leg_of}
use Rattle.law_model.specs.session.ValidScript.{IsValid}
use Rattle.law_walk.specs.Walk.{walk_plan, IsWalked}
use Rattle.command_rooms.specs.TracedWalk.{IsTurn}
use Rattle.command_rooms.specs.TurnsLeft.{AreLeft}
use Rattle.command_rooms.proofs.TurnsLeftLaws.{turn-made}
use Rattle.command_rooms.proofs.turns.watched_turns.drive.Goals as goal

pub loop-turn-init : goal.loop-turn-init
loop-turn-init g c =
    let script = c.args.walk.now.script in
    record {
      script = refl;
      left = subst (AreLeft script c.new-turns.result) (sym c.requires.begun)
          (c.new-turns.ensures script c.requires.valid c.requires.events c.requires.ticks);
      seen = λ before has. has;
    }

pub turn-requires : goal.turn-requires
turn-requires g c =
    let inv = c.loop-turn.invariant in
    let gives = c.in-Some.ensures.some c.args.walk.now.script c.loop-turn.walk.counts inv.left
    (ap (λ (t : Totals). t.taken) c.totals.ensures) in
    record {
      valid = subst IsValid (sym inv.script) c.requires.valid;
      walked = subst (λ (s : Script). IsWalked (leg_of s) c.loop-turn.walk.counts) (sym inv.script) inv.left.walked;
      turn = subst (λ (s : Script). IsTurn (walk_plan (leg_of s)) c.in-Some.turn) (sym inv.script) gives.is;
      seen = (c.requires.seen.0, inv.seen c.requires.seen.0 c.requires.seen.1);
    }

pub loop-turn-smaller : goal.loop-turn-smaller
loop-turn-smaller g c =
    let inv = c.loop-turn.invariant in
    let gives = c.in-Some.ensures.some c.args.walk.now.script c.loop-turn.walk.counts inv.left
    (ap (λ (t : Totals). t.taken) c.totals.ensures) in
    gives.fewer c.turn.new.walk.counts
    (turn-made c.args.walk.now.script c.loop-turn.walk.script _ _ c.in-Some.turn inv.script c.turn.ensures.counts)

pub loop-turn-preserved : goal.loop-turn-preserved
loop-turn-preserved g c =
    let inv = c.loop-turn.invariant in
    let gives = c.in-Some.ensures.some c.args.walk.now.script c.loop-turn.walk.counts inv.left
    (ap (λ (t : Totals). t.taken) c.totals.ensures) in
    record {
      script = c.turn.ensures.script ∙ inv.script;
      left = gives.left c.turn.new.walk.counts
          (turn-made c.args.walk.now.script _ _ _ c.in-Some.turn inv.script c.turn.ensures.counts);
      seen = λ before has. c.in-Ok.ensures.seen before (inv.seen before has);
    }

pub returns-clause-counts : goal.returns-clause-counts
returns-clause-counts g c =
    c.in_default.ensures.none c.args.walk.now.script c.loop-turn.walk.counts c.loop-turn.invariant.left
    (ap (λ (t : Totals). t.taken) c.totals.ensures)
