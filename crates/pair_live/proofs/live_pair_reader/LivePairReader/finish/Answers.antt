-- The live lines begin with what is kept of the configurations.
use Rattle.std.proofs.Common.{◌∙◌, sym}
use Rattle.pair_live.specs.PairReaderStands.{SaysSettings}
use Rattle.pair_live.proofs.PairReaderStateLaws.{opened_says, settings_says}
use Rattle.pair_live.proofs.live_pair_reader.LivePairReader.finish.Goals as goal

pub returns-in-Ok-clause-at : goal.returns-in-Ok-clause-at
returns-in-Ok-clause-at c n s at =
    let says : SaysSettings c.take-2.result c.in-Some-take.reader s =
    settings_says c.args.self.now n s c.in-Some-take.reader c.take-2.result at (sym c.take.ensures.value ∙ c.in-Some-take.is)
    c.take-2.ensures.value in
    record {
      goes_on = at.goes_on;
      number = at.number;
      says = opened_says c.take-2.new.self c.take.new.self c.open.new.self s c.take-2.result c.in-Some-take.reader
          c.in-Ok.configs c.take.ensures.after says (c.in-Ok.ensures.fine s says) (c.in-Ok.ensures.configs s says)
          c.open.ensures.keeps;
    }
