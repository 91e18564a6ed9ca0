-- Each fact of what a sound leg meets.
use Rattle.std.proofs.Common.{arith}
use Rattle.law_loss.proofs.ItemDueTicksLaws.{orders_rise, offers_rise, are_octets}
use Rattle.law_loss.proofs.law_script.read_law.Goals as goal

pub returns-clause-limits : goal.returns-clause-limits
returns-clause-limits c leg is = record {
  lag = (let least = is.network.lag.0 in omega (arith, least));
  lines =
      (let each = is.network.windows_each in
      let most = is.network.lines.1 in
      omega (arith, each, most));
  statuses = is.network.options.statuses;
}

pub returns-clause-orders : goal.returns-clause-orders
returns-clause-orders c leg is = orders_rise leg.items is.items.commands

pub returns-clause-offers : goal.returns-clause-offers
returns-clause-offers c leg is = offers_rise leg.items is.items.frames

pub returns-clause-octets : goal.returns-clause-octets
returns-clause-octets c = are_octets
