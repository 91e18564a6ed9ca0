-- What the queue of a tick counts.
use Rattle.fate_service.proofs.LandedFrameTicksLaws.{most-told}
use Rattle.fate_service.proofs.QueueOfWaitingFramesLaws.{queue-waits, queue-few, stretch-peaks}
use Rattle.fate_service.proofs.service_law.queue_law.Goals as goal

pub returns : goal.returns
returns c = record {
  waits = λ leg s t sound walked low. queue-waits leg s sound walked t low;
  few = λ leg s t sound walked low. queue-few leg s sound walked t low;
  told = λ leg s sound walked. most-told leg s walked;
  greatest = stretch-peaks;
}
