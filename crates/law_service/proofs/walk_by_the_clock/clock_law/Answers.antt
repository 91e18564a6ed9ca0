-- A walk goes by the clock.
use Rattle.law_service.proofs.ClockedWalkRoundLaws.{clock, row-clock, rows-left, drain-clock}
use Rattle.law_service.proofs.RepeatedTurnAndDelayLaws.{leg-keeps, leg-clock}
use Rattle.law_service.proofs.walk_by_the_clock.clock_law.Goals as goal

pub returns : goal.returns
returns c = record {
  ticks = λ slow fast count plan keeps. (clock slow fast plan keeps count).0.ticks;
  frames = λ slow fast count plan keeps. (clock slow fast plan keeps count).0.frames;
  commands = λ slow fast count plan keeps. (clock slow fast plan keeps count).0.commands;
  rows = λ slow fast count plan keeps. (clock slow fast plan keeps count).0.rows;
  row = λ slow fast t plan keeps. row-clock slow fast plan keeps t;
  ends = drain-clock;
  goes_on = λ slow fast count plan keeps. rows-left slow fast plan keeps count;
  legs = leg-keeps;
  whole = leg-clock;
}
