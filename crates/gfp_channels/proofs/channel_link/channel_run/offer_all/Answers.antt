-- A frame more is offered, and all are.
use Rattle.std.proofs.Common.{◌≡◌, ℕ, ◌+◌, List, ◌∷◌, ◌++◌, drop, refl, sym, ◌∙◌, ap, append-nil, Some, None, Vec}
use Rattle.std.specs.declared.alloc.Global.{Global}
use Rattle.std.proofs.lemmas.List.{drop_more, drop_all}
use Rattle.std.specs.Result.{result_err}
use Rattle.gfp_model.specs.linear_model.Channels.{Channels, channel_refusal, pushed}
use Rattle.gfp_channels.specs.gfp_linear.Queue.{unbegun}
use Rattle.gfp_channels.specs.declared.channel_link.channel_draft.Offer.{Offer}
use Rattle.gfp_channels.specs.declared.channel_link.channel_run.Refusal.{Refusal}
use Rattle.gfp_channels.specs.channel_link.ChannelReportText.{refusal_where, refusals}
use Rattle.gfp_channels.proofs.OfferedChannelFrameLaws.{after-next, after-all, refusals-next, refusals-all}
use Rattle.gfp_channels.proofs.channel_link.channel_run.offer_all.Goals.{in-Ok, in-Err+in_ok-push-in-Err}
use Rattle.gfp_channels.proofs.channel_link.channel_run.offer_all.Goals as goal

pub loop-offer-preserved : goal.loop-offer-preserved
loop-offer-preserved c =
    let offers : List Offer = c.args.offers.now in
    let i : ℕ = c.loop-offer.offer-index in
    let offer : Offer = c.offer-item.result in
    let channels : Channels = c.loop-offer.queue.channels in
    let rest : List Offer = drop (i + 1) offers in
    let first : drop i offers ≡ offer ∷ rest =
    drop_more offers i offer c.loop-offer-test.true ∙ ap (λ (o : Offer). o ∷ rest) (sym c.offer-item.is) in
    let frame : c.as_slice.result.now ≡ offer.frame = c.as_slice.ensures.value
    ∙ ap (λ (o : Offer). o.frame) c.offer.view_is in
    let cid : c.offer.inside.0.0 ≡ offer.cid = ap (λ (o : Offer). o.cid) c.offer.view_is in
    let next : c.push.new.self.channels ≡ pushed offer.cid offer.frame channels =
    c.push.ensures.channels ∙ (λ k. pushed (cid k) (frame k) channels) in
    let refusal : result_err c.push.result ≡ channel_refusal offer.cid offer.frame channels =
    c.push.ensures.refusal ∙ (λ k. channel_refusal (cid k) (frame k) channels) in
    let grown : c.match-push.refused.items ≡ c.loop-offer.refused.items
    ++ refusal_where c.loop-offer.item (channel_refusal offer.cid offer.frame channels) =
    elim c.match-push.branch [
      | in-Ok w ↦
          let none : None ≡ channel_refusal offer.cid offer.frame channels = sym (ap result_err w.in-Ok.is) ∙ refusal in
          ap (λ (v : Vec Refusal Global). v.items) w.refused-is ∙ sym (append-nil c.loop-offer.refused.items)
          ∙ ap (λ r. c.loop-offer.refused.items ++ refusal_where c.loop-offer.item r) none
      | in-Err+in_ok-push-in-Err w ↦
          let some : Some w.in-Err.why ≡ channel_refusal offer.cid offer.frame channels =
          sym (ap result_err w.in-Err.is) ∙ refusal in
          ap (λ (v : Vec Refusal Global). v.items) w.refused-is ∙ w.in_ok-push-in-Err.ensures.items
          ∙ ap (λ r. c.loop-offer.refused.items ++ refusal_where c.loop-offer.item r) some
    ] in
    record {
      item = ap (λ n. n + 1) c.loop-offer.invariant.item;
      queue = ap (λ (b : List ℕ). record { channels = c.push.new.self.channels; begun = b })
          (c.push.ensures.sending ∙ ap (λ q. q.begun) c.loop-offer.invariant.queue);
      channels = after-next channels c.push.new.self.channels offer (drop i offers) rest first next
          ∙ c.loop-offer.invariant.channels;
      refused = ap (λ (l : List Refusal). l ++ refusals (c.loop-offer.item + 1) c.push.new.self.channels rest) grown
          ∙ refusals-next c.loop-offer.item (c.loop-offer.item + 1) channels c.push.new.self.channels offer
          (drop i offers) rest c.loop-offer.refused.items first next refl
          ∙ c.loop-offer.invariant.refused;
    }

pub returns-clause-queue : goal.returns-clause-queue
returns-clause-queue c =
    let none = drop_all c.loop-offer.offer-index c.args.offers.now c.loop-offer-test.false in
    c.loop-offer.invariant.queue
    ∙ ap unbegun (sym (after-all c.loop-offer.queue.channels (drop c.loop-offer.offer-index c.args.offers.now) none)
    ∙ c.loop-offer.invariant.channels)

pub returns-clause-refused : goal.returns-clause-refused
returns-clause-refused c =
    let none = drop_all c.loop-offer.offer-index c.args.offers.now c.loop-offer-test.false in
    sym (ap (λ (l : List Refusal). c.loop-offer.refused.items ++ l) (refusals-all c.loop-offer.item
    c.loop-offer.queue.channels (drop c.loop-offer.offer-index c.args.offers.now) none)
    ∙ append-nil c.loop-offer.refused.items)
    ∙ c.loop-offer.invariant.refused
