-- The lines of all frames that are delivered, those of all that are refused, and then the counts.
use Rattle.std.proofs.Common.{rules, ◌≡◌, ◌++◌, ◌-◌, [], true, List, ℕ, length, refl, sym, ◌∙◌, ap, ap₂, subst, arith}
use Rattle.std.proofs.Common.{vec_len, flat_map}
use Rattle.law_model.specs.Common.{Start}
use Rattle.text_got.specs.TextSoFar.{HasText, name_of, start_at}
use Rattle.gfp_model.specs.linear_model.ChannelArea.{frame_in}
use Rattle.gfp_model.specs.linear_model.Channels.{silent}
use Rattle.gfp_model.specs.linear_model.ChannelStream.{stream_to, cut_outcomes}
use Rattle.gfp_channels.specs.gfp_linear.Queue.{Queued}
use Rattle.gfp_channels.specs.gfp_linear.Delineator.{StandsIn}
use Rattle.gfp_channels.specs.declared.channel_link.channel_draft.ChannelPlan.{ChannelPlan}
use Rattle.gfp_channels.specs.declared.channel_link.channel_run.Refusal.{Refusal}
use Rattle.gfp_channels.specs.channel_link.Plan.{AreCuts}
use Rattle.gfp_channels.specs.channel_link.Run.{Prepared, Received}
use Rattle.gfp_channels.specs.channel_link.ChannelReportText.{after_offers, delivered, refused, got_text, refusal_text}
use Rattle.gfp_channels.specs.channel_link.ChannelReportText.{plan_text}
use Rattle.gfp_channels.proofs.OfferedChannelFrameLaws.{refusals-few}
use Rattle.gfp_channels.proofs.CutSegmentReceptionLaws.{received-none, received-text, received-got, text-is}
use Rattle.gfp_channels.proofs.channel_link.channel_run.ChannelRun.write.Given as given
use Rattle.gfp_channels.proofs.channel_link.channel_run.ChannelRun.write.Goals as goal
use Rattle.gfp_channels.proofs.channel_link.channel_run.ChannelRun.write.Goals.{After-as_slice, After-count}
use Rattle.gfp_channels.proofs.channel_link.channel_run.ChannelRun.write.Goals.{After-finish-back}

-- nothing is received yet
module _ (g : given.Over) (c : After-as_slice g) where
  cuts : c.as_slice.result.now ≡ c.args.plan.now.cuts
  cuts = c.as_slice.ensures.value ∙ ap (λ (p : ChannelPlan). p.cuts) c.plan.view_is

  are : AreCuts 0 c.args.plan.now.octets c.as_slice.result.now
  are = subst (AreCuts 0 c.args.plan.now.octets) (sym cuts) c.requires.plan.cuts

  none : Received g.K.ByteSink.written g.K.ByteSink.faults
      (record { delineator = c.self.inside.receiver; lines = c.new.result; got = 0; place = 0; ended = 0 })
      (start_at g.K.ByteSink.written g.K.ByteSink.faults c.args.out.now (name_of c.new.result)) c.as_slice.result.now []
  none = received-none g.K.ByteSink.written g.K.ByteSink.faults
      (record { delineator = c.self.inside.receiver; lines = c.new.result; got = 0; place = 0; ended = 0 })
      (start_at g.K.ByteSink.written g.K.ByteSink.faults c.args.out.now (name_of c.new.result)) c.args.plan.now.octets
      c.as_slice.result.now are refl refl refl
      (subst (λ (p : Prepared). StandsIn p.receiver true []) (sym c.self.view_is) c.requires.ready.receiver)
      c.new.ensures.fresh

-- the refused frames, and how many were offered
module _ (g : given.Over) (c : After-count g) where
  lost : c.as_slice-2.result.now ≡ refused c.args.plan.now
  lost = c.as_slice-2.ensures.value ∙ ap (λ (p : Prepared). p.refused) c.self.view_is ∙ c.requires.ready.refused

  all : c.count.result ≡ length c.args.plan.now.offers
  all = c.count.ensures ∙ ap (λ (p : ChannelPlan). length p.offers) c.plan.view_is

-- all lines are written or wait
told : (g : given.Over) (c : After-finish-back g) → c.as_slice.result.now ≡ c.args.plan.now.cuts →
    AreCuts 0 c.args.plan.now.octets c.as_slice.result.now → c.as_slice-2.result.now ≡ refused c.args.plan.now →
    c.count.result ≡ length c.args.plan.now.offers →
    Received g.K.ByteSink.written g.K.ByteSink.faults c.carry.new.reception
    (start_at g.K.ByteSink.written g.K.ByteSink.faults c.args.out.now (name_of c.new.result)) c.as_slice.result.now
    (stream_to c.plan.inside.0.1.0 c.self.inside.queue.channels) →
    HasText g.K.ByteSink.written g.K.ByteSink.faults c.line.new.self
    (start_at g.K.ByteSink.written g.K.ByteSink.faults c.args.out.now (name_of c.new.result))
    (plan_text c.args.plan.now)
told g c cuts are lost all has =
    let plan : ChannelPlan = c.args.plan.now in
    let to : Start = start_at g.K.ByteSink.written g.K.ByteSink.faults c.args.out.now (name_of c.new.result) in
    let channels : c.self.inside.queue.channels ≡ after_offers (silent plan.channels) plan.offers =
    ap (λ (p : Prepared). p.queue.channels) c.self.view_is
    ∙ ap (λ (q : Queued). q.channels) c.requires.ready.queue in
    let size : c.plan.inside.0.1.0 ≡ plan.octets = ap (λ (p : ChannelPlan). p.octets) c.plan.view_is in
    let sent : List ℕ = stream_to c.plan.inside.0.1.0 c.self.inside.queue.channels in
    let came : delivered plan ≡ flat_map frame_in (cut_outcomes c.as_slice.result.now sent) =
    λ k. flat_map frame_in (cut_outcomes (sym cuts k) (stream_to (sym size k) (sym channels k))) in
    let more = c.write_refused.ensures to (flat_map got_text (delivered plan))
    (received-text g.K.ByteSink.written g.K.ByteSink.faults c.carry.new.reception to plan.octets c.as_slice.result.now
    sent (delivered plan) are has came) in
    let left = c.len-count.ensures ∙ sym c.as_slice-2.ensures.len in
    subst (HasText g.K.ByteSink.written g.K.ByteSink.faults c.line.new.self to)
    (text-is plan (delivered plan) c.as_slice-2.result.now _ _ _ _ refl lost (ap₂ ◌-◌ all left) left
    (received-got g.K.ByteSink.written g.K.ByteSink.faults c.carry.new.reception to plan.octets c.as_slice.result.now
    sent (delivered plan) are has came) c.end_line-end.ensures.line)
    (c.line.ensures to (flat_map got_text (delivered plan) ++ flat_map refusal_text c.as_slice-2.result.now) more)

pub carry-requires-clause-stands : goal.carry-requires-clause-stands
carry-requires-clause-stands g c = (
  start_at g.K.ByteSink.written g.K.ByteSink.faults c.args.out.now (name_of c.new.result),
  none g (goal.at.carry-requires-clause-stands g c).After-as_slice,
)

pub overflow_sub-count : goal.overflow_sub-count
overflow_sub-count g c =
    let plan : ChannelPlan = c.args.plan.now in
    let few = refusals-few 0 (silent plan.channels) plan.offers in
    let size = ap (λ (l : List Refusal). length l) (lost g c) in
    let left : c.len-count.result ≡ vec_len c.self.inside.refused = c.len-count.ensures in
    let count : c.count.result ≡ length plan.offers = all g c in
    omega (arith, few, size, left, count, c.as_slice-2.ensures.len)

pub returns-clause-ok : goal.returns-clause-ok
returns-clause-ok g c =
    let at = goal.at.returns-clause-ok g c in
    let carried = c.carry.ensures _ (none g at.After-as_slice) in
    let has = told g at.After-finish-back (cuts g at.After-as_slice) (are g at.After-as_slice) (lost g at.After-count)
    (all g at.After-count) carried in
    let end = c.finish-back.ensures.ok c.args.out.now (plan_text c.args.plan.now) (refl, has.1) in
    let back = rw (sym c.take_back.ensures) at end in
    let name = c.finish-back.ensures.name ∙ has.0 ∙ c.new.ensures.name in
    search (rules, back, name)

pub returns-clause-err : goal.returns-clause-err
returns-clause-err g c =
    let at = goal.at.returns-clause-err g c in
    let carried = c.carry.ensures _ (none g at.After-as_slice) in
    let has = told g at.After-finish-back (cuts g at.After-as_slice) (are g at.After-as_slice) (lost g at.After-count)
    (all g at.After-count) carried in
    let end = c.finish-back.ensures.err c.args.out.now (plan_text c.args.plan.now) (refl, has.1) in
    let back = rw (sym c.take_back.ensures) at end in
    let name = c.finish-back.ensures.name ∙ has.0 ∙ c.new.ensures.name in
    search (rules, back, name)
