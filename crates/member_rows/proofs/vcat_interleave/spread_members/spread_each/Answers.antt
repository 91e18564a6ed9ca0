-- One member more has its part.
use Rattle.std.proofs.Common.{◌≡◌, ◌+◌, suc, length, subst, arith}
use Rattle.member_cells.specs.HeldPlaces.{held}
use Rattle.member_rows.specs.vcat_interleave.Spread.{SpreadsOver}
use Rattle.member_rows.proofs.PutOctetAndRowSpreadLaws.{spreads-none, spreads-next, lines-stay}
use Rattle.member_rows.proofs.vcat_interleave.spread_members.spread_each.Goals as goal

pub loop-rank-init : goal.loop-rank-init
loop-rank-init c = spreads-none 0 0 c.args.place c.args.places c.args.row.now c.args.active.now
    (held c.args.containers.now) (omega arith)

pub loop-rank-preserved : goal.loop-rank-preserved
loop-rank-preserved c =
    let rank = c.loop-rank.rank in
    let next : suc rank ≡ rank + 1 = omega arith in
    subst (λ n. SpreadsOver 0 n c.args.place c.args.places c.args.row.now c.args.active.now (held c.args.containers.now)
    (held c.put_part.new.containers)) next
    (spreads-next 0 rank c.args.place c.args.places c.args.row.now c.args.active.now (held c.args.containers.now)
    (held c.loop-rank.containers) (held c.put_part.new.containers)
    c.requires.distinct (lines-stay (length c.args.containers.now) c.loop-rank.containers c.args.active.now
    c.loop-rank.auto.containers c.requires.lines)
    (omega arith) c.loop-rank-test.true (λ d. rw c.from-line.ensures at (c.put_part.ensures.put d))
    c.loop-rank.invariant)
