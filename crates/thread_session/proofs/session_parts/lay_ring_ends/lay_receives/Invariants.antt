-- The first pairs are laid beside each other.
use Rattle.thread_session.specs.session_parts.LineRingsLaid.{PairsBelow, IsReceiveLaid}
use Rattle.thread_session.proofs.session_parts.lay_ring_ends.lay_receives.Given as goal

abbrev pub invariant-loop-m : goal.invariant-loop-m
invariant-loop-m l = PairsBelow IsReceiveLaid l.m l.fn.workers.items l.fn.rx.items l.workers.items l.rx.items
