-- The first pairs are laid beside each other.
use Rattle.thread_session.specs.session_parts.LineRingsLaid.{PairsBelow, IsSendLaid}
use Rattle.thread_session.proofs.session_parts.lay_ring_ends.lay_sends.Given as goal

abbrev pub invariant-loop-m : goal.invariant-loop-m
invariant-loop-m l = PairsBelow IsSendLaid l.m l.fn.tx.items l.fn.workers.items l.tx.items l.workers.items
