-- The two laws.
use Rattle.thread_alarms.proofs.AlarmCountLaws.{are_few, are_kept}
use Rattle.thread_alarms.proofs.alarm_law.alarm_law.Goals as goal

pub returns : goal.returns
returns c = record { few = are_few; kept = are_kept }
