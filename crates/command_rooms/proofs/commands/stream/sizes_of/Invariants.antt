-- The sizes so far, before those of the rest.
use Rattle.std.proofs.Common.{◌≡◌, ◌≤◌, length}
use Rattle.command_rooms.specs.commands.Stream.{all_of}
use Rattle.command_rooms.proofs.StreamSizeLaws.{parts, joined}
use Rattle.command_rooms.proofs.commands.stream.sizes_of.Given as goal

abbrev pub invariant-loop-part : goal.invariant-loop-part
invariant-loop-part l = record {
  all : all_of (parts l.word) ≡ joined l.sizes (all_of (parts l.rest));
  few : length l.sizes ≤ 16;
}

abbrev pub decreases-loop-part : goal.decreases-loop-part
decreases-loop-part l = length l.rest
