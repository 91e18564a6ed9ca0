-- All frames so far were sent and taken.
use Rattle.std.proofs.Common.{◌≡◌, [], take}
use Rattle.law_model.specs.Common.{Start}
use Rattle.member_au4.specs.au4_pointer.SourceToSink.{Carries}
use Rattle.member_au4.specs.au4_link.Vcs.{first_vcs}
use Rattle.member_au4.specs.au4_link.LinkReportText.{cuts, HasVcs}
use Rattle.member_au4.proofs.NumberedVcCountsLaws.{feeds, gives}
use Rattle.member_au4.proofs.au4_link.au4_run.carry_all.Given as goal

abbrev pub invariant-loop-a : goal.invariant-loop-a
invariant-loop-a g l = record {
  carries : (to : Start) → HasVcs g.K.ByteSink.written g.K.ByteSink.faults l.fn.out.lines l.fn.out.back to []
      → Carries feeds (gives g.K.ByteSink.written g.K.ByteSink.faults) l.source l.sink l.feed l.out to to l.fn.start
      (take l.a-index l.actions)
      (first_vcs l.feed.next);
  cut : l.cut ≡ cuts l.fn.start (take l.a-index l.actions);
}
