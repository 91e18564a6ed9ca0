-- A walk is never stuck.
use Rattle.law_progress.proofs.RoundProgressAndDrainLaws.{reached-fits, inbox-fits, reached-ends}
use Rattle.law_progress.proofs.StalledEventLaws.{stalled-same}
use Rattle.law_progress.proofs.RoundProgressAndDrainLaws.{walked-reached, reached-progress}
use Rattle.law_progress.proofs.never_stuck.progress_law.Goals as goal

pub returns : goal.returns
returns c = record {
  within = reached-fits;
  inbox = inbox-fits;
  moves = reached-progress;
  ends = reached-ends;
  stalls = stalled-same;
  lines = walked-reached;
}
