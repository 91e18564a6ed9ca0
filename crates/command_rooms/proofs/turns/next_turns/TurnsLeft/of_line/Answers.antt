-- A try less, a round, or none.
use Rattle.std.proofs.Common.{refl, arith}
use Rattle.command_rooms.proofs.TurnsLeftLaws.{gives-try, gives-round, no-try, no-round}
use Rattle.command_rooms.proofs.turns.next_turns.TurnsLeft.of_line.Goals as goal

pub returns-then-count-eq0-clause-none : goal.returns-then-count-eq0-clause-none
returns-then-count-eq0-clause-none c script s left taken =
    no-try script c.args.self.now c.args.self.now s left c.in-Tries.turn _ c.in-Tries.is c.if-count-eq0.true

pub returns-else-count-eq0-clause-some : goal.returns-else-count-eq0-clause-some
returns-else-count-eq0-clause-some c script s left taken =
    gives-try script c.args.self.now _ s left c.in-Tries.turn c.in-Tries.count c.in-Tries.is
    (let some = c.if-count-eq0.false in omega (arith, some)) refl refl refl

pub returns-then-taken-self-clause-some : goal.returns-then-taken-self-clause-some
returns-then-taken-self-clause-some c script s left taken =
    gives-round script c.args.self.now _ s left c.in-Rounds.is
    (let test = c.if-taken-self.true in let ticks = left.ticks in omega (arith, test, ticks, taken)) refl

pub returns-else-taken-self-clause-none : goal.returns-else-taken-self-clause-none
returns-else-taken-self-clause-none c script s left taken =
    no-round script c.args.self.now c.args.self.now s left c.in-Rounds.is
    (let test = c.if-taken-self.false in let ticks = left.ticks in omega (arith, test, ticks, taken))
