-- No channel has a frame.
use Rattle.std.proofs.Common.{◌≡◌, ℕ, [], length, replicate, sym, ◌∙◌, ap, arith}
use Rattle.std.proofs.lemmas.List.{length-replicate}
use Rattle.gfp_channels.specs.gfp_linear.Queue.{busy_from}
use Rattle.gfp_channels.proofs.BusyChannelTurnLaws.{none-busy}
use Rattle.gfp_channels.proofs.gfp_linear.linear_queue.LinearQueue.new.Goals as goal

pub invariant_of-result : goal.invariant_of-result
invariant_of-result c =
    let n : ℕ = c.loop.counter in
    let made : c.loop.queues.items ≡ replicate n [] = c.loop.invariant.made in
    let long : length c.loop.queues.items ≡ n = ap length made ∙ length-replicate n [] in
    record {
      some = omega (arith, long, c.requires.some);
      most = omega (arith, long, c.requires.most);
      numbers = c.in_ok-with_capacity.ensures.items ∙ sym (ap (busy_from 0) made ∙ none-busy 0 n);
      places = omega (arith, long, c.in_ok-with_capacity.ensures.capacity);
      round = omega arith;
    }
