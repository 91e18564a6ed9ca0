-- Legs that meet what is asked.
use Rattle.std.proofs.Common.{arith}
use Rattle.law_service.proofs.WorkedServiceLegLaws.{queued-sound, full-sound, full-keeps, twin-sound, timed-sound}
use Rattle.law_service.proofs.WorkedServiceLegLaws.{timed-even}
use Rattle.law_service.proofs.legs_that_reach_bounds.met_law.Goals as goal

pub returns : goal.returns
returns c = record {
  queued = queued-sound;
  full = full-sound;
  keeps = full-keeps;
  twin = twin-sound;
  timed = timed-sound;
  even = timed-even;
  lags = omega arith;
}
