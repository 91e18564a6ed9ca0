-- The lines so far were heard, and the rest follows them.
use Rattle.std.proofs.Common.{◌≡◌, ◌⊎◌, ℕ, ◌-◌, ◌<◌, ◌≤◌, List, length, drop}
use Rattle.command_parts.specs.Dialogue.{Heard}
use Rattle.command_parts.specs.Conversation.{Stands, StandsSomewhere, HasHeardLines}
use Rattle.command_parts.proofs.conversation.hear_lines.Given as goal

abbrev pub invariant-loop-line : goal.invariant-loop-line
invariant-loop-line g l = record {
  somewhere : StandsSomewhere g.T.Talker.Hears g.K.ByteSink.written g.K.ByteSink.faults l.listener l.out l.block;
  suffix : l.rest ≡ drop (length l.fn.octets - length l.rest) l.fn.octets;
  within : length l.rest ≤ length l.fn.octets;
  moves : (length l.rest ≡ length l.fn.octets) ⊎ (l.fn.listener.lines < l.listener.lines);
  rises : l.fn.listener.lines ≤ l.listener.lines;
  few : l.fn.listener.lines ≤ 67108864 → l.listener.lines ≤ 67108864;
  heard : (first : g.row.K.Denot) (earlier : List ℕ) (heard : Heard) →
      Stands g.T.Talker.Hears g.K.ByteSink.written g.K.ByteSink.faults first earlier l.fn.listener l.fn.out l.fn.block heard →
      HasHeardLines g.T.Talker.Hears g.K.ByteSink.written g.K.ByteSink.faults first earlier l.listener l.out l.block heard
      l.fn.octets l.rest;
}

abbrev pub decreases-loop-line : goal.decreases-loop-line
decreases-loop-line g l = length l.rest
