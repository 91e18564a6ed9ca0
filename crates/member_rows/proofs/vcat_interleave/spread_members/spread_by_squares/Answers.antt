-- The places done by squares, and those after them.
use Rattle.std.proofs.Common.{◌≡◌, ◌+◌, ◌-◌, ◌*◌, ◌≤◌, drop, length, subst, ◌∙◌, ap, arith, length-drop}
use Rattle.std.proofs.lemmas.List.{take_rest}
use Rattle.std.proofs.lemmas.Nat.{mul-le}
use Rattle.member_cells.specs.HeldPlaces.{held}
use Rattle.member_rows.specs.vcat_interleave.Spread.{Spreads}
use Rattle.member_rows.proofs.PutOctetAndRowSpreadLaws.{rest-size, spreads-add}
use Rattle.member_rows.proofs.vcat_interleave.spread_members.spread_by_squares.Goals as goal

pub spread_each-requires-clause-row : goal.spread_each-requires-clause-row
spread_each-requires-clause-row c =
    let x = length c.args.active.now in
    let done = c.squares_over-squares.result * 16 in
    let few = c.squares_over-squares.ensures.within c.args.places c.requires.row in
    let fits : done * x ≤ length c.args.row.now =
    omega (arith, mul-le done x c.args.places x few (omega arith), c.requires.row) in
    ap length (take_rest c.args.row.now (done * x))
    ∙ rest-size c.args.places done x (length (drop (done * x) c.args.row.now)) few
    (omega (arith, length-drop (done * x) c.args.row.now, fits, c.requires.row))

pub returns : goal.returns
returns c =
    let x = length c.args.active.now in
    let done = c.squares_over-squares.result * 16 in
    let count : done + (c.args.places - done) ≡ c.args.places =
    omega (arith, c.squares_over-squares.ensures.within c.args.places c.requires.row) in
    subst (λ n. Spreads c.args.place n c.args.row.now c.args.active.now (held c.args.containers.now)
    (held c.spread_each.new.containers)) count
    (spreads-add 0 x c.args.place done (c.args.places - done) c.args.row.now c.args.active.now
    (held c.args.containers.now) (held c.spread_squares.new.containers) (held c.spread_each.new.containers)
    c.spread_squares.ensures
    (subst (λ l. Spreads (c.args.place + done) (c.args.places - done) l c.args.active.now
    (held c.spread_squares.new.containers) (held c.spread_each.new.containers))
    (take_rest c.args.row.now (done * x)) c.spread_each.ensures))
