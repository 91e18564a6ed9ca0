-- The walk of a pair of scripts.
use Rattle.law_walk.specs.Common.{numbered}
use Rattle.law_pair.proofs.PairWayAndPacketLaws.{has-pair-plan, there-walked, back-walked, there-taken, back-taken}
use Rattle.law_pair.proofs.PairWayAndPacketLaws.{there-report, back-report, delivered-same, report-same}
use Rattle.law_pair.proofs.pair_never_stuck.walk_law.Goals as goal

pub returns : goal.returns
returns c = record {
  plan = has-pair-plan;
  there = there-walked;
  back = back-walked;
  there_taken = there-taken;
  back_taken = back-taken;
  there_report = there-report;
  back_report = back-report;
  delivered = delivered-same;
  told = λ script other tells.
      report-same script other tells script.config.ticks script.config.ticks (numbered 0 script.items);
}
