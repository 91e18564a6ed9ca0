-- The sink refuses no frame of the source.
use Rattle.std.proofs.Common.{◌≡◌, None, Some, sym, ◌∙◌}
use Rattle.member_au4.specs.au4_pointer.SentFrames.{sent}
use Rattle.member_au4.specs.au4_pointer.Sink.{word_fault}
use Rattle.member_au4.proofs.PointerSourceAndSinkLaws.{never-refused, carried}
use Rattle.member_au4.proofs.au4_pointer.pointer_relay.relay.Goals as goal

pub unreachable-requires : goal.unreachable-requires
unreachable-requires g c =
    let l = c.requires in
    let k = l.carries in
    let frames = sent l.start l.actions l.asked in
    let none : word_fault frames c.send.new.out ≡ None =
    never-refused (λ f. g.V.VcFeed.stands_for f)
    (λ o. g.O.VcOut.stands_for o) c.args.source.now c.send.new.self c.args.sink.now c.args.feed.now
    c.send.new.feed c.args.out.now l.behind l.to
    l.start l.actions l.asked k c.args.a c.send.new.out
    (sym (c.in-Ok.ensures.cause l.start l.actions l.asked k.sends)) c.in-Ok.ensures.sends in
    let some : Some c.in-Err-take.field-0 ≡ word_fault frames c.send.new.out =
    c.in-Err-take.ensures.cause frames k.takes in
    let both : Some c.in-Err-take.field-0 ≡ None = some ∙ none in
    cc

pub returns-in-Ok-take-clause-carries : goal.returns-in-Ok-take-clause-carries
returns-in-Ok-take-clause-carries g c behind to start actions asked k = (
  c.in-Ok.ensures.sends.vcs,
  carried (λ f. g.V.VcFeed.stands_for f)
      (λ o. g.O.VcOut.stands_for o) c.args.source.now c.send.new.self c.args.sink.now c.args.feed.now c.send.new.feed
      c.args.out.now behind to
      start actions asked k c.args.a c.send.new.out
      (sym (c.in-Ok.ensures.cause start actions asked k.sends)) c.in-Ok.ensures.sends
      c.take.new.self c.take.new.out (c.take.ensures.stands (sent start actions asked) k.takes)
      (c.take.ensures.gives (sent start actions asked) k.takes),
)
