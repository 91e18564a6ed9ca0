-- A way is opened over its script's network.
use Rattle.pair_engine.proofs.pair_way.open_parts.Goals as goal

pub of-requires : goal.of-requires
of-requires c = c.requires.valid

pub open-requires : goal.open-requires
open-requires c = record {
  network = c.requires.valid.sound.network;
  near = c.requires.near;
  lost = c.requires.lost;
}
