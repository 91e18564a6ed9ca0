-- The frames so far were offered, and those that were refused are told.
use Rattle.std.proofs.Common.{◌≡◌, ◌++◌, drop}
use Rattle.gfp_channels.specs.gfp_linear.Queue.{unbegun}
use Rattle.gfp_channels.specs.channel_link.ChannelReportText.{after_offers, refusals}
use Rattle.gfp_channels.proofs.channel_link.channel_run.offer_all.Given as goal

abbrev pub invariant-loop-offer : goal.invariant-loop-offer
invariant-loop-offer l = record {
  item : l.item ≡ l.offer-index;
  queue : l.queue ≡ unbegun l.queue.channels;
  channels : after_offers l.queue.channels (drop l.offer-index l.offers)
      ≡ after_offers l.fn.queue.channels l.offers;
  refused : l.refused.items ++ refusals l.item l.queue.channels (drop l.offer-index l.offers)
      ≡ refusals 0 l.fn.queue.channels l.offers;
}
