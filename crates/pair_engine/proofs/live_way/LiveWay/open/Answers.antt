-- The direction has twice the lag.
use Rattle.std.proofs.Common.{◌*◌, ◌∙◌, ap, refl}
use Rattle.terminal_group.specs.ReturnInbox.{empty_inbox}
use Rattle.pair_engine.proofs.LiveWayLaws.{both-lags}
use Rattle.pair_engine.proofs.live_way.LiveWay.open.Goals as goal

pub new-requires-2 : goal.new-requires-2
new-requires-2 c = both-lags c.args.config.now c.requires

pub returns-clause-new : goal.returns-clause-new
returns-clause-new c = record {
  lag = refl;
  stands = c.in_ok-core.ensures.stands;
  counts = c.in_ok-core.ensures.counts;
  inbox = c.in_ok-core.ensures.inbox ∙ ap (λ lost. empty_inbox lost (2 * c.args.config.now.lag)) c.requires.lost;
  windows = c.in_ok-core.ensures.windows;
  said = c.in_ok-said.ensures;
  last = refl;
}
