-- A square of places more is spread.
use Rattle.std.proofs.Common.{◌≡◌, ◌+◌, ◌*◌, length, subst, arith}
use Rattle.std.proofs.lemmas.List.{take_rest}
use Rattle.member_cells.specs.HeldPlaces.{held}
use Rattle.member_rows.specs.vcat_interleave.Spread.{SpreadsOver}
use Rattle.member_rows.proofs.PutOctetAndRowSpreadLaws.{spreads-empty, spreads-add}
use Rattle.member_rows.proofs.vcat_interleave.spread_members.spread_ranks.Goals as goal

pub loop-k-init : goal.loop-k-init
loop-k-init c = spreads-empty c.args.rank (c.args.rank + c.args.ranks) c.args.place c.args.row.now c.args.active.now
    (held c.args.containers.now)

pub loop-k-preserved : goal.loop-k-preserved
loop-k-preserved c =
    let done = c.loop-k.k * 16 in
    let next : done + 16 ≡ (c.loop-k.k + 1) * 16 = omega arith in
    subst (λ n. SpreadsOver c.args.rank (c.args.rank + c.args.ranks) c.args.place n c.args.row.now c.args.active.now
    (held c.args.containers.now) (held c.spread_square.new.containers)) next
    (spreads-add c.args.rank (c.args.rank + c.args.ranks) c.args.place done 16 c.args.row.now c.args.active.now
    (held c.args.containers.now) (held c.loop-k.containers) (held c.spread_square.new.containers)
    c.loop-k.invariant
    (subst (λ l. SpreadsOver c.args.rank (c.args.rank + c.args.ranks) (c.args.place + done) 16 l c.args.active.now
    (held c.loop-k.containers) (held c.spread_square.new.containers))
    (take_rest c.args.row.now (done * length c.args.active.now)) c.spread_square.ensures))
