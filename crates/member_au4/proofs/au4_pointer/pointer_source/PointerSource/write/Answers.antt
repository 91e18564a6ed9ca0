-- The data of a Down frame is in H3 and behind it.
use Rattle.std.proofs.Common.{◌≡◌, ◌++◌, length, sym, subst, arith, length-append, take_at, drop_at}
use Rattle.member_au4.specs.au4_pointer.Source.{Writes}
use Rattle.member_au4.proofs.SourceSendSteps.{asks-more}
use Rattle.member_au4.proofs.au4_pointer.pointer_source.PointerSource.write.Goals as goal

pub returns-in-Down-clause-writes : goal.returns-in-Down-clause-writes
returns-in-Down-clause-writes g c =
    let h3 = c.fill-in-Down.new.piece in
    let body = c.fill-in-Down-2.new.piece in
    let three : length h3 ≡ 3 = omega (arith, c.fill-in-Down.auto.piece, c.told-h3) in
    let long : length body ≡ 2349 = omega (arith, c.fill-in-Down-2.auto.piece, c.told-body) in
    subst (λ a. Writes
    (λ f. g.V.VcFeed.stands_for f) c.args.feed.now c.fill-in-Down-2.new.feed a c.args.self.now.rest
    c.fill-in-Down-2.new.self.rest h3 body) (sym c.in-Down.is)
    (record {
      octets = h3 ++ body;
      size = omega (arith, length-append h3 body, three, long);
      in_h3 = sym (take_at h3 body 3 three);
      in_body = sym (drop_at h3 body 3 three);
      asks = asks-more
          (λ f. g.V.VcFeed.stands_for f) c.args.feed.now c.fill-in-Down.new.feed c.fill-in-Down-2.new.feed
          c.args.self.now.rest c.fill-in-Down.new.self.rest c.fill-in-Down-2.new.self.rest
          h3 body c.fill-in-Down.ensures.asks c.fill-in-Down-2.ensures.asks;
    })
