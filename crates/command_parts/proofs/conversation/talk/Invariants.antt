-- What has come was heard but for a rest, what was said is written, and nothing waits.
use Rattle.std.proofs.Common.{◌≡◌, ◌⊎◌, ℕ, ◌+◌, ◌*◌, ◌-◌, ◌<◌, ◌≤◌, List, [], length}
use Rattle.command_parts.specs.Dialogue.{Heard}
use Rattle.command_parts.proofs.TalkOverSourceAndEndLaws.{IsGoing}
use Rattle.command_parts.proofs.conversation.talk.Given as goal

abbrev pub invariant-loop-n : goal.invariant-loop-n
invariant-loop-n g l = record {
  going : (all : List ℕ) × (heard : Heard) × IsGoing g.S.ByteSource.left g.S.ByteSource.faults g.K.ByteSink.written
      g.K.ByteSink.faults g.T.Talker.Hears (g.T.Talker.dialogue l.fn.talker) l.fn.source l.fn.out l.source l.out
      l.listener l.intake all heard;
  quiet : l.block ≡ [];
  short : length l.intake ≤ 262144;
  few : l.listener.lines ≤ 67108864;
  few_behind : (0 ≡ length l.intake) ⊎ (l.listener.lines < 67108864);
}

abbrev pub decreases-loop-n : goal.decreases-loop-n
decreases-loop-n g l = (67108864 - l.listener.lines) * 262146 + (262145 - length l.intake)
