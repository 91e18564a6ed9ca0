-- A turn of the line that was begun, a line more, or the end.
use Rattle.std.proofs.Common.{refl, arith}
use Rattle.law_model.specs.declared.script_types.EventLine.TheVariants.{Client}
use Rattle.command_rooms.proofs.TurnsLeftLaws.{next-line, next-fewer, last-line-made, later}
use Rattle.command_rooms.proofs.turns.next_turns.TurnsLeft.next.Goals as goal

pub loop-turn-init : goal.loop-turn-init
loop-turn-init c = record { left = λ script s left taken. left; few = λ script s left taken. omega arith }

pub returns-in-Some-clause-some : goal.returns-in-Some-clause-some
returns-in-Some-clause-some c script s left taken =
    let inv = c.loop-turn.invariant in
    later script c.args.self.now c.loop-turn.self c.of_line.new.self s c.in-Some.turn (inv.few script s left taken)
    (c.in-Some.ensures.some script s (inv.left script s left taken) taken)

pub returns-in-empty-clause-none : goal.returns-in-empty-clause-none
returns-in-empty-clause-none c script s left taken =
    let own = c.loop-turn.invariant.left script s left taken in
    last-line-made script c.loop-turn.self c.of_line.new.self s own (c.in_default.ensures.none script s own taken)
    c.in_default.ensures.kept c.in-empty.len_below

pub loop-turn-preserved : goal.loop-turn-preserved
loop-turn-preserved c =
    let inv = c.loop-turn.invariant in
    let says = c.pending_of-self.ensures in
    record {
      left = λ script s left taken.
          let own = inv.left script s left taken in
          next-line script _ _ _ s (Client 0) own (c.in_default.ensures.none script s own taken)
          c.in_default.ensures.kept c.in-len1-up.len_at_least refl refl says.once says.fits;
      few = λ script s left taken.
          next-fewer script c.loop-turn.self c.of_line.new.self s (Client 0) c.pending_of-self.result _
          c.in_default.ensures.kept c.in-len1-up.len_at_least (inv.few script s left taken) says.turns;
    }
