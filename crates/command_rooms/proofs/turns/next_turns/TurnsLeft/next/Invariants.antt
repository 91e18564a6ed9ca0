-- What is left is what was, but for lines in which nothing is done.
use Rattle.std.proofs.Common.{◌≡◌, ◌≤◌, length}
use Rattle.law_model.specs.declared.script_types.Script.{Script}
use Rattle.law_model.specs.session.Counts.{Counts}
use Rattle.command_rooms.specs.TurnsLeft.{turns_in, AreLeft}
use Rattle.command_rooms.proofs.turns.next_turns.TurnsLeft.next.Given as goal

abbrev pub invariant-loop-turn : goal.invariant-loop-turn
invariant-loop-turn l = record {
  left : (script : Script) (s : Counts) → AreLeft script l.fn.self s → l.fn.taken ≡ s.rows → AreLeft script l.self s;
  few : (script : Script) (s : Counts) → AreLeft script l.fn.self s → l.fn.taken ≡ s.rows →
      turns_in script l.self s ≤ turns_in script l.fn.self s;
}

abbrev pub decreases-loop-turn : goal.decreases-loop-turn
decreases-loop-turn l = length l.self.lines.now
