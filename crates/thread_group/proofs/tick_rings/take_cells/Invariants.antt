-- What has been moved so far; no look has missed yet.
use Rattle.std.proofs.Common.{◌≡◌, ◌+◌, ◌-◌, ◌≤◌, length}
use Rattle.thread_rings.specs.EndsOfRing.{in_misses}
use Rattle.thread_group.specs.GroupRings.{HasMoved}
use Rattle.thread_group.proofs.tick_rings.take_cells.Given as goal

abbrev pub invariant-loop-back : goal.invariant-loop-back
invariant-loop-back l = record {
  moved : HasMoved l.fn.source.inbox l.source.inbox l.fn.back l.back;
  within : length l.source.inbox.cells ≤ l.source.inbox.room;
  few : l.source.inbox.come + (l.source.inbox.room - length l.source.inbox.cells) ≤ l.fn.source.inbox.come +
      l.fn.source.inbox.room;
  rest : l.source ≡ record l.fn.source { inbox = l.source.inbox };
  quiet : in_misses l.back ≡ in_misses l.fn.back;
}

abbrev pub decreases-loop-back : goal.decreases-loop-back
decreases-loop-back l = l.source.inbox.room - length l.source.inbox.cells
