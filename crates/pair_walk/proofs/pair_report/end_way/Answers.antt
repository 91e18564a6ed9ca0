-- What follows the lines of frames is written.
use Rattle.std.proofs.Common.{◌∙◌}
use Rattle.law_walk.specs.Common.{report_of}
use Rattle.law_pair.specs.Common.{counts_on}
use Rattle.pair_engine.specs.PairAfterEvent.{leg_on}
use Rattle.pair_walk.proofs.PairReportRowsLaws.{rest-lines}
use Rattle.pair_walk.proofs.pair_report.end_way.Goals as goal

pub returns : goal.returns
returns g c =
    let leg = leg_on c.args.pair.now c.args.way in
    let s = counts_on c.args.pair.now.counts c.args.way in
    record {
      name = λ first has. c.finish.ensures.name ∙ (rest-lines g.K.ByteSink.written g.K.ByteSink.faults first c.args.got
          c.write_rest.new.got leg s c.refusals.result c.totals.result c.refusals.ensures c.totals.ensures
          c.write_rest.ensures has).0;
      ok = λ first has. c.finish.ensures.ok first (report_of leg s)
          (rest-lines g.K.ByteSink.written g.K.ByteSink.faults first c.args.got c.write_rest.new.got leg s
          c.refusals.result c.totals.result c.refusals.ensures c.totals.ensures c.write_rest.ensures has).1;
      err = λ first has. c.finish.ensures.err first (report_of leg s)
          (rest-lines g.K.ByteSink.written g.K.ByteSink.faults first c.args.got c.write_rest.new.got leg s
          c.refusals.result c.totals.result c.refusals.ensures c.totals.ensures c.write_rest.ensures has).1;
    }
