-- What was opened is the network's.
use Rattle.std.proofs.Common.{rules}
use Rattle.walk_engine.proofs.walk_core.one_way.WayCore.new.Goals as goal

pub returns : goal.returns
returns c =
    record {
      stands = λ leg alike. c.from_opened.ensures.stands leg c.args.config.now c.in_ok-opened.ensures alike;
      counts = λ leg alike. c.from_opened.ensures.counts leg c.args.config.now c.in_ok-opened.ensures alike;
      inbox = search rules;
      windows = c.from_opened.ensures.windows c.args.config.now c.in_ok-opened.ensures;
    }
