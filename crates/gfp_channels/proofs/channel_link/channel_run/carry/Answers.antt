-- Nothing was made, and a block more was.
use Rattle.std.proofs.Common.{◌≡◌, ℕ, ◌+◌, ◌-◌, ◌≤◌, ◌++◌, length, take, drop, refl, sym, ◌∙◌, ap, subst, arith}
use Rattle.std.proofs.Common.{length-append, length-drop, length-take-le, take_at}
use Rattle.gfp_model.specs.linear_model.Channels.{Channels}
use Rattle.gfp_model.specs.linear_model.ChannelStream.{stream_to, unsent}
use Rattle.gfp_channels.specs.gfp_linear.Queue.{Queued}
use Rattle.gfp_channels.specs.gfp_linear.Filler.{LinearFillerStands}
use Rattle.gfp_channels.specs.channel_link.Run.{Received}
use Rattle.gfp_channels.proofs.LinearStreamPlaceLaws.{HasSent, sent-none, sent-block}
use Rattle.gfp_channels.proofs.CutSegmentReceptionLaws.{received-few}
use Rattle.gfp_channels.proofs.channel_link.channel_run.carry.Goals as goal

pub loop-left-init : goal.loop-left-init
loop-left-init g c =
    let channels : Channels = c.args.queue.now.channels in
    let none : 0 ≡ c.args.octets - c.args.octets = omega arith in
    let was = c.requires.stands.1 in
    record {
      within = omega arith;
      sent = subst (HasSent c.new-filler.result c.args.queue.now channels) none
          (sent-none c.new-filler.result c.args.queue.now channels
          (subst (λ (q : Queued). LinearFillerStands c.new-filler.result q (unsent channels) 0) (sym c.requires.fresh)
          (record { waits = refl; octets = c.new-filler.ensures })));
      received = λ start r. subst (Received g.K.ByteSink.written g.K.ByteSink.faults c.args.reception.now start
          c.args.cuts.now) (ap (λ n. stream_to n channels) none) r;
      place = was.place ∙ none;
      more = (let few = received-few g.K.ByteSink.written g.K.ByteSink.faults c.args.reception.now
          c.requires.stands.0 c.args.cuts.now was in omega (arith, few));
      room = refl;
    }

pub loop-left-preserved : goal.loop-left-preserved
loop-left-preserved g c =
    let channels : Channels = c.args.queue.now.channels in
    let n : ℕ = c.min-n.result in
    let left : ℕ = c.loop-left.left in
    let place : ℕ = c.args.octets - left in
    let was = c.loop-left.invariant in
    let fits : n ≤ left = omega (arith, c.min-n.ensures) in
    let few : n ≤ length c.loop-left.block = omega (arith, c.min-n.ensures, was.room) in
    let further : c.args.octets - (left - n) ≡ place + n = omega (arith, fits, was.within) in
    let room : length (take n c.loop-left.block) ≡ n = length-take-le n c.loop-left.block few in
    let count : length c.fill.new.out ≡ n = omega (arith, c.fill.auto.out, room) in
    let whole : take n (c.fill.new.out ++ drop n c.loop-left.block) ≡ c.fill.new.out =
    take_at c.fill.new.out (drop n c.loop-left.block) n count in
    let both = sent-block c.loop-left.filler c.fill.new.self c.loop-left.queue c.fill.new.waiting channels place n
    (length (take n c.loop-left.block)) c.fill.new.out was.sent room count c.fill.ensures.stands
    c.fill.ensures.octets in
    let all : stream_to place channels ++ take n (c.fill.new.out ++ drop n c.loop-left.block)
    ≡ stream_to (c.args.octets - (left - n)) channels =
    ap (λ l. stream_to place channels ++ l) whole ∙ both.1 ∙ ap (λ k. stream_to k channels) (sym further) in
    let size = ap length whole in
    record {
      within = omega (arith, was.within);
      sent = subst (HasSent c.fill.new.self c.fill.new.waiting channels) (sym further) both.0;
      received = λ start r. subst (Received g.K.ByteSink.written g.K.ByteSink.faults c.send_all.new.reception start
          c.args.cuts.now) all (c.send_all.ensures.received start (stream_to place channels) (was.received start r));
      place = omega (arith, c.send_all.ensures.place, size, count, was.place, further);
      more = c.send_all.ensures.more;
      room =
          omega (
            arith,
            length-append c.fill.new.out (drop n c.loop-left.block),
            length-drop n c.loop-left.block,
            count,
            was.room,
            few,
          );
    }
