-- Both ways are before any event.
use Rattle.std.proofs.Common.{arith}
use Rattle.pair_engine.specs.Ways.{walking_both}
use Rattle.pair_engine.proofs.LivePairLaws.{over-counts, over-lives}
use Rattle.pair_engine.proofs.live_pair.open_both.Goals as goal

pub open-requires : goal.open-requires
open-requires c = record {
  network = c.requires.there_network;
  near = c.requires.near;
  lost = c.requires.there_lost;
}

pub open-requires-2 : goal.open-requires-2
open-requires-2 c =
    let near = c.requires.near in
    let lag = c.requires.lag in
    record {
      network = c.requires.back_network;
      near = omega (arith, near, lag);
      lost = c.requires.back_lost;
    }

pub returns : goal.returns
returns c =
    let pair = walking_both c.in_ok-there.there c.in_ok-back.back in
    let there = c.in_ok-there.ensures.new in
    let back = c.in_ok-back.ensures.new in
    record {
      lives = λ one other over. over-lives c.args.there.now c.args.back.now one other pair over there back;
      counts = λ one other over. over-counts c.args.there.now c.args.back.now one other pair over there back;
      there = there.windows;
      back = back.windows;
    }
