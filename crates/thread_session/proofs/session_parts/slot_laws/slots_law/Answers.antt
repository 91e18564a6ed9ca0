-- No receive ring is too short.
use Rattle.thread_session.proofs.ReceiveRingSlotLaws.{enough, held}
use Rattle.thread_session.proofs.session_parts.slot_laws.slots_law.Goals as goal

pub returns-clause-enough : goal.returns-clause-enough
returns-clause-enough c = enough

pub returns-clause-held : goal.returns-clause-held
returns-clause-held c = held
