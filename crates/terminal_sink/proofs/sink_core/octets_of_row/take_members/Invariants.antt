-- The octets of the places so far are taken, and the frames that they complete are given.
use Rattle.std.proofs.Common.{◌≤◌, ◌-◌}
use Rattle.member_cells.specs.HeldPlaces.{held}
use Rattle.law_model.specs.Common.{octets_from, Start}
use Rattle.member_rows.specs.vcat_interleave.MemberPayloads.{payloads_of}
use Rattle.terminal_sink.specs.sink_core.RowsInReceiver.{IsKnown, Grows, Gives}
use Rattle.terminal_sink.proofs.sink_core.octets_of_row.take_members.Given as goal

abbrev pub invariant-loop-place : goal.invariant-loop-place
invariant-loop-place g l = record {
  within : l.place ≤ l.size;
  known : IsKnown l.delineator;
  grows : Grows l.fn.delineator l.delineator (octets_from 0 l.place (payloads_of (held l.containers) l.active));
  gives : (start : Start) → Gives (λ o. g.F.FrameOut.stands_for o start) l.fn.delineator
      (octets_from 0 l.place (payloads_of (held l.containers) l.active)) l.fn.out l.out;
}

abbrev pub decreases-loop-place : goal.decreases-loop-place
decreases-loop-place g l = l.size - l.place
