-- Sixteen ranks more have their parts, and at last those that are left.
use Rattle.std.proofs.Common.{◌≡◌, ◌+◌, ◌*◌, ◌/◌, ℕ, length, subst, arith}
use Rattle.member_cells.specs.HeldPlaces.{held}
use Rattle.member_rows.specs.vcat_interleave.Spread.{SpreadsOver}
use Rattle.member_rows.proofs.PutOctetAndRowSpreadLaws.{spreads-none, spreads-join}
use Rattle.member_rows.proofs.vcat_interleave.spread_members.spread_squares.Goals as goal

pub loop-k-init : goal.loop-k-init
loop-k-init c = spreads-none 0 0 c.args.place (c.args.squares * 16) c.args.row.now c.args.active.now
    (held c.args.containers.now) (omega arith)

pub loop-k-preserved : goal.loop-k-preserved
loop-k-preserved c =
    let rank = 16 * c.loop-k.k in
    let next : rank + 16 ≡ 16 * (c.loop-k.k + 1) = omega arith in
    subst (λ n. SpreadsOver 0 n c.args.place (c.args.squares * 16) c.args.row.now c.args.active.now
    (held c.args.containers.now) (held c.spread_ranks.new.containers)) next
    (spreads-join 0 rank (rank + 16) c.args.place (c.args.squares * 16) c.args.row.now c.args.active.now
    (held c.args.containers.now) (held c.loop-k.containers) (held c.spread_ranks.new.containers)
    c.requires.distinct (omega arith) (omega arith) (omega (arith, c.loop-k-test.true)) c.loop-k.invariant
    c.spread_ranks.ensures)

pub returns : goal.returns
returns c =
    let x = length c.args.active.now in
    let rank : ℕ = x / 16 * 16 in
    let done : 16 * c.loop-k.k ≡ rank = omega arith in
    spreads-join 0 rank x c.args.place (c.args.squares * 16) c.args.row.now c.args.active.now
    (held c.args.containers.now) (held c.loop-k.containers) (held c.spread_last.new.containers)
    c.requires.distinct (omega arith) (omega arith) (omega arith)
    (subst (λ n. SpreadsOver 0 n c.args.place (c.args.squares * 16) c.args.row.now c.args.active.now
    (held c.args.containers.now) (held c.loop-k.containers)) done c.loop-k.invariant)
    c.spread_last.ensures
