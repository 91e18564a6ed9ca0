-- A turn is told, or nothing more is.
use Rattle.std.proofs.Common.{sym, ◌∙◌, ap, arith}
use Rattle.law_model.specs.declared.script_types.Script.{Script}
use Rattle.law_model.specs.declared.session_totals.Totals.{Totals}
use Rattle.command_rooms.proofs.WalkTraceAndEventCountLaws.{told-silent, turn-told}
use Rattle.command_rooms.proofs.turns.trace_turns.TracerWatcher.turn.Goals as goal

pub returns-then-self-clause-seen : goal.returns-then-self-clause-seen
returns-then-self-clause-seen g c before has = record {
  name = has.name;
  lines = has.lines ∙ ap (λ (s : Script). s.config.lines) (sym c.make_turn.ensures.script);
  told = told-silent _ _ _ _ before.start before.first c.args.self.now.over c.args.self.now.got _ c.args.walk.now
      c.make_turn.new.walk c.if-self.true c.make_turn.ensures.script c.make_turn.ensures.rows c.make_turn.ensures.least
      has.told;
}

pub tell_turn-self-requires : goal.tell_turn-self-requires
tell_turn-self-requires g c =
    let has = c.requires.seen.1 in
    let e = ap (λ (t : Totals). t.ticks) c.totals-ticks.ensures in
    record {
      few = (let lines = has.lines in let most = c.requires.valid.sound.network.lines.1 in omega (arith, lines, most));
      lines = has.lines ∙ ap (λ (s : Script). s.config.lines) (sym c.make_turn-2.ensures.script);
      least = (let h = c.make_turn-2.ensures.least in omega (arith, e, h));
      most = (let h = c.make_turn-2.ensures.most in omega (arith, e, h));
    }

pub returns-clause-seen : goal.returns-clause-seen
returns-clause-seen g c before has =
    let on = turn-told _ _ _ _ before.start before.first c.args.self.now.over c.args.self.now.got c.make_turn-2.new.out
    c.args.self.now.notes.now c.args.walk.now c.make_turn-2.new.walk _ c.if-self.false c.make_turn-2.ensures.script
    c.make_turn-2.ensures.rows c.make_turn-2.ensures.gives (ap (λ (t : Totals). t.ticks) c.totals-ticks.ensures) has.told in
    record {
      name = has.name;
      lines = has.lines ∙ ap (λ (s : Script). s.config.lines) (sym c.make_turn-2.ensures.script);
      told = c.tell_turn-self.ensures before.start before.first on.0 on.1;
    }
