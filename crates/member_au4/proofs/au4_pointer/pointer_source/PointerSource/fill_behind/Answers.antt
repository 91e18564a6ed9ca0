-- Three zeros, and what is written behind them.
use Rattle.std.proofs.Common.{◌≡◌, length, set, sym, subst, ◌∙◌, arith, length-set}
use Rattle.member_au4.specs.au4_pointer.Source.{Asks}
use Rattle.member_au4.proofs.VcsOfStreamPartLaws.{behind, three-zeros}
use Rattle.member_au4.proofs.au4_pointer.pointer_source.PointerSource.fill_behind.Goals as goal

pub returns-clause-zeros : goal.returns-clause-zeros
returns-clause-zeros g c = three-zeros c.args.body.now c.fill.new.piece c.told-body (omega (arith, c.fill.auto.piece))

pub returns-clause-asks : goal.returns-clause-asks
returns-clause-asks g c =
    let body = c.args.body.now in
    let was = set (set (set body 0 0) 1 0) 2 0 in
    let same : length was ≡ 2349 = length-set (set (set body 0 0) 1 0) 2 0 ∙ length-set (set body 0 0) 1 0
    ∙ length-set body 0 0 ∙ c.told-body in
    subst (λ l. Asks
    (λ f. g.V.VcFeed.stands_for f) c.args.feed.now c.fill.new.feed c.args.self.now.rest l c.fill.new.self.rest)
    (sym (behind was c.fill.new.piece same (omega (arith, c.fill.auto.piece)))) c.fill.ensures.asks
