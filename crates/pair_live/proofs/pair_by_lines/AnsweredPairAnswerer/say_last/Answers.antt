-- Both lines of totals are those of the two scripts that the lines say.
use Rattle.std.proofs.Common.{◌++◌, OnErr, OnOk, subst}
use Rattle.law_model.specs.Common.{AppendsPart}
use Rattle.text_got.specs.TextSoFar.{Holds}
use Rattle.pair_live.proofs.PairByLinesLaws.{last_is}
use Rattle.pair_live.proofs.pair_by_lines.AnsweredPairAnswerer.say_last.Goals as goal

pub returns : goal.returns
returns g c = record {
  told = λ asked ls has.
      subst (λ text. OnOk c.tell_both_totals.result (Holds g.K.ByteSink.written g.K.ByteSink.faults c.args.out.now
      c.tell_both_totals.new.out c.tell_both_totals.new.block (c.args.block.now ++ text)))
      (last_is c.args.self.now asked ls c.totals-there.result c.totals-back.result has c.totals-there.ensures
      c.totals-back.ensures)
      c.tell_both_totals.ensures.told;
  part = λ asked ls has.
      subst (λ text. OnErr c.tell_both_totals.result (AppendsPart g.K.ByteSink.written g.K.ByteSink.faults c.args.out.now
      c.tell_both_totals.new.out (c.args.block.now ++ text)))
      (last_is c.args.self.now asked ls c.totals-there.result c.totals-back.result has c.totals-there.ensures
      c.totals-back.ensures)
      c.tell_both_totals.ensures.part;
}
