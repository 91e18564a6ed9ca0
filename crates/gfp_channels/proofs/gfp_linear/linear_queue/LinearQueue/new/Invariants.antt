-- The channels so far are silent.
use Rattle.std.proofs.Common.{◌≡◌, [], replicate, vec_len}
use Rattle.gfp_channels.proofs.gfp_linear.linear_queue.LinearQueue.new.Given as goal

abbrev pub invariant-loop : goal.invariant-loop
invariant-loop l = record {
  made : l.queues.items ≡ replicate l.counter [];
  count : vec_len l.queues ≡ l.counter;
}
