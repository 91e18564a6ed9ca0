-- Nothing has come yet.
use Rattle.std.proofs.Common.{refl, ◌∙◌, ap}
use Rattle.terminal_group.specs.ReturnInbox.{empty_inbox}
use Rattle.terminal_group.proofs.counted_source.CountedSource.new.Goals as goal

pub invariant_of-result : goal.invariant_of-result
invariant_of-result c = c.requires.ticks.1

pub returns : goal.returns
returns c = record {
  core = record {
    lines = c.in_ok-new-2.ensures.lines;
    lag = c.in_ok-new-2.ensures.lag;
    size = c.in_ok-new-2.ensures.size;
    statuses = c.in_ok-new-2.ensures.statuses;
    ticks = c.in_ok-new-2.ensures.ticks;
    made = c.in_ok-new-2.ensures.stands;
  };
  total = refl;
  landed = c.none.ensures;
  inbox = c.in_ok-new.ensures ∙ ap (λ lost. empty_inbox lost c.args.config.now.lag) c.lost_of.ensures;
}
