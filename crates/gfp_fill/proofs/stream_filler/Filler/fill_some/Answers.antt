-- Each way in which octets are written is one step of the stream.
use Rattle.std.proofs.Common.{◌≡◌, ◌+◌, ◌/◌, [], length, take, sym, subst, arith}
use Rattle.std.proofs.lemmas.List.{length-take-le, nil_from_length}
use Rattle.gfp_fill.specs.SentAreas.{Sender, head_of, StandsIn}
use Rattle.gfp_fill.specs.Multiplex.{Stands}
use Rattle.gfp_fill.proofs.SenderAndFillerStepLaws.{all_written, here_written, next_written, idles_next}
use Rattle.gfp_fill.proofs.stream_filler.Filler.fill_some.Goals as goal

pub returns-then-left-gt0-clause-writes : goal.returns-then-left-gt0-clause-writes
returns-then-left-gt0-clause-writes g c stream place stands =
    let order = g.Q.WaitingFrames.order in
    let queue = c.args.waiting.now in
    let was = subst (λ (s : Sender). Stands order s queue stream place) (sym c.self.view_is) stands in
    here_written order c.requires.order c.send_headers.new.self queue stream place _ was.waits
    (c.send_headers.ensures.writes (order.begun queue) (order.areas stream) place was.octets)

pub returns-then-left-gt0-2-clause-writes : goal.returns-then-left-gt0-2-clause-writes
returns-then-left-gt0-2-clause-writes g c stream place stands =
    let order = g.Q.WaitingFrames.order in
    let was = subst (λ (s : Sender). Stands order s c.args.waiting.now stream place) (sym c.self.view_is) stands in
    here_written order c.requires.order c.send.new.sender c.send.new.self stream place _
    (c.send.ensures.waits stream was.waits) (c.send.ensures.writes (order.areas stream) place was.octets)

pub returns-then-begin_next-clause-writes : goal.returns-then-begin_next-clause-writes
returns-then-begin_next-clause-writes g c stream place stands =
    let order = g.Q.WaitingFrames.order in
    let queue = c.args.waiting.now in
    let s : Sender = c.self.inside.sender in
    let rest = c.begin_next.new.self in
    let sent = c.send_headers-then-begin_next in
    let was = subst (λ (s : Sender). Stands order s queue stream place) (sym c.self.view_is) stands in
    let head : head_of s ≡ [] = nil_from_length (head_of s) (omega (arith, c.left.ensures)) in
    let gone : order.begun queue ≡ [] = nil_from_length (order.begun queue) (omega (arith, c.left-2.ensures)) in
    let here = subst (λ left. StandsIn s left (order.areas stream) place) gone was.octets in
    let end = all_written s (order.areas stream) place here head in
    let begun = c.if-begin_next.ensures.begins stream place was.waits here in
    next_written order c.requires.order sent.new.self rest stream place _
    (omega (
      arith,
      end,
      length-take-le sent.result sent.new.out (omega (arith, sent.ensures.count, sent.auto.out)),
      sent.ensures.count,
      c.if-begin_next.ensures.some,
      c.requires.room,
    ))
    (here_written order c.requires.order sent.new.self rest (order.next stream) place _ begun.waits
    (sent.ensures.writes (order.begun rest) (order.areas (order.next stream)) place begun.octets))

pub returns-clause-writes : goal.returns-clause-writes
returns-clause-writes g c stream place stands =
    let order = g.Q.WaitingFrames.order in
    let queue = c.args.waiting.now in
    let s : Sender = c.self.inside.sender in
    let sent = c.send_idles in
    let n = sent.result in
    let was = subst (λ (s : Sender). Stands order s queue stream place) (sym c.self.view_is) stands in
    let head : head_of s ≡ [] = nil_from_length (head_of s) (omega (arith, c.left.ensures)) in
    let gone : order.begun queue ≡ [] = nil_from_length (order.begun queue) (omega (arith, c.left-2.ensures)) in
    let here = subst (λ left. StandsIn s left (order.areas stream) place) gone was.octets in
    let end = all_written s (order.areas stream) place here head in
    let size : length (take n sent.new.out) ≡ n =
    length-take-le n sent.new.out (omega (arith, sent.ensures.within, sent.auto.out)) in
    rw c.if-begin_next.ensures.stays
    (idles_next order c.requires.order ((n + 3) / 4) sent.new.self queue stream place _ c.if-begin_next.ensures.none
    was.waits (omega (arith, size, end)) (omega (arith, size, end)) (rw gone (sent.ensures.writes (order.areas stream) place
    (rw c.if-begin_next.ensures.same here))))
