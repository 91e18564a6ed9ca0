-- What was made of the stream was received.
use Rattle.std.proofs.Common.{◌≡◌, ◌-◌, ◌≤◌, [], length}
use Rattle.law_model.specs.Common.{Start}
use Rattle.gfp_model.specs.linear_model.ChannelStream.{stream_to}
use Rattle.gfp_channels.specs.channel_link.Run.{Received}
use Rattle.gfp_channels.proofs.LinearStreamPlaceLaws.{HasSent}
use Rattle.gfp_channels.proofs.channel_link.channel_run.carry.Given as goal

abbrev pub invariant-loop-left : goal.invariant-loop-left
invariant-loop-left g l = record {
  within : l.left ≤ l.octets;
  sent : HasSent l.filler l.queue l.fn.queue.channels (l.octets - l.left);
  received : (start : Start) → Received g.K.ByteSink.written g.K.ByteSink.faults l.fn.reception start l.cuts []
      → Received g.K.ByteSink.written g.K.ByteSink.faults l.reception start l.cuts
      (stream_to (l.octets - l.left) l.fn.queue.channels);
  place : l.reception.place ≡ l.octets - l.left;
  more : l.reception.got ≤ l.reception.place;
  room : length l.block ≡ 4096;
}

abbrev pub decreases-loop-left : goal.decreases-loop-left
decreases-loop-left g l = l.left
