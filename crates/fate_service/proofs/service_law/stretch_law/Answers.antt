-- What the stretches add up to.
use Rattle.fate_service.proofs.StretchSumAndQueuePeakLaws.{span-each, text-lines, lines-follow, offered-sum}
use Rattle.fate_service.proofs.StretchSumAndQueuePeakLaws.{refused-sum, got-sum, lost-sum, capacity-sum, darkness-sum}
use Rattle.fate_service.proofs.StretchSumAndQueuePeakLaws.{delay-most, peak-is, queue-highest}
use Rattle.fate_service.proofs.service_law.stretch_law.Goals as goal

pub returns : goal.returns
returns c = record {
  written = text-lines;
  follow = lines-follow;
  each = span-each;
  offered = offered-sum;
  refused = refused-sum;
  got = got-sum;
  lost = lost-sum;
  capacity = capacity-sum;
  dark = darkness-sum;
  delay = delay-most;
  queue = queue-highest;
  peak = peak-is;
}
