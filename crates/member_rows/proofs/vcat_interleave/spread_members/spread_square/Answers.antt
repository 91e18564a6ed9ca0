-- One rank of the square more has its part: its column has the octets that it carries.
use Rattle.std.proofs.Common.{◌≡◌, [], ◌+◌, ◌<◌, suc, length, slice_index_or, subst, ap, ◌∙◌, arith}
use Rattle.law_model.specs.Common.{part_of}
use Rattle.member_cells.specs.HeldPlaces.{held}
use Rattle.member_rows.specs.vcat_interleave.Spread.{SpreadsOver}
use Rattle.member_rows.proofs.RowPartAndLaneLaws.{is-part_of}
use Rattle.member_rows.proofs.PutOctetAndRowSpreadLaws.{spreads-none, spreads-next, lines-stay}
use Rattle.member_rows.proofs.vcat_interleave.spread_members.spread_square.Goals as goal

pub loop-i-init : goal.loop-i-init
loop-i-init c = spreads-none c.args.rank (c.args.rank + 0) c.args.place 16 c.args.row.now c.args.active.now
    (held c.args.containers.now) (omega arith)

pub loop-i-preserved : goal.loop-i-preserved
loop-i-preserved c =
    let x = length c.args.active.now in
    let row = c.args.row.now in
    let rank = c.args.rank + c.loop-i.i in
    let small : c.loop-i.i < 16 = omega (arith, c.loop-i-test.true, c.requires.few) in
    let column = slice_index_or c.turned-columns.result c.loop-i.i [] in
    let is : column ≡ part_of rank x 16 row =
    is-part_of column row rank x (λ p low.
    c.turned-columns.ensures c.loop-i.i p small (omega (arith, c.put_member.ensures.octets))
    ∙ c.rows_between.ensures p c.loop-i.i (omega (arith, c.put_member.ensures.octets)) small)
    ∙ ap (λ n. part_of rank x n row) c.put_member.ensures.octets in
    let next : suc rank ≡ c.args.rank + (c.loop-i.i + 1) = omega arith in
    subst (λ n. SpreadsOver c.args.rank n c.args.place 16 row c.args.active.now (held c.args.containers.now)
    (held c.put_member.new.containers)) next
    (spreads-next c.args.rank rank c.args.place 16 row c.args.active.now (held c.args.containers.now)
    (held c.loop-i.containers) (held c.put_member.new.containers)
    c.requires.distinct (lines-stay (length c.args.containers.now) c.loop-i.containers c.args.active.now
    c.loop-i.auto.containers c.requires.lines)
    (omega arith) (omega (arith, c.loop-i-test.true, c.requires.ranks))
    (λ d. rw (c.from.ensures, is) at (c.put_member.ensures.put d)) c.loop-i.invariant)
