-- The lines up to here say the packets of this table.
use Rattle.std.proofs.Common.{◌≡◌, ℕ, ◌<◌, ◌-◌, List, All, slice_index_or}
use Rattle.law_model.specs.Common.{packet_nibbles, forward_packet, telling, passed_on}
use Rattle.terminal_source.proofs.source_core.packets_of_step.say_all.Given as goal

abbrev pub invariant-loop-line : goal.invariant-loop-line
invariant-loop-line l = record {
  said : (line : ℕ) (d : List ℕ) → line < l.line →
      slice_index_or l.nibbles line d ≡ packet_nibbles
      (telling (passed_on l.told) (forward_packet l.table.source.table line (l.table.steps - 1)));
  below : (line : ℕ) (d : List ℕ) → line < l.line → All (λ nibble. nibble < 16) (slice_index_or l.nibbles line d);
}
