-- The octets of the square, as far as members are there.
use Rattle.std.proofs.Common.{◌≡◌, ◌+◌, ◌*◌, take, length, ap, ◌∙◌, arith, get_or-take, length-take-le}
use Rattle.member_cells.specs.HeldPlaces.{held}
use Rattle.member_rows.specs.vcat_interleave.Square.{octet_at}
use Rattle.member_rows.specs.vcat_interleave.MemberPayloads.{payloads_of}
use Rattle.member_rows.proofs.RowPartAndLaneLaws.{within-row, is-row}
use Rattle.member_rows.proofs.vcat_interleave.gather_members.gather_square.Goals as goal

pub returns : goal.returns
returns c =
    let x = length c.args.active.now in
    let out = c.put_places.new.out in
    let parts = payloads_of (held c.args.containers.now) c.args.active.now in
    is-row (held c.args.containers.now) c.args.active.now c.args.place 16 (take (16 * x) out)
    (length-take-le (16 * x) out (omega (arith, c.put_places.auto.out, c.requires.out, c.requires.few)))
    (λ p rank low below.
    get_or-take (16 * x) out (p * x + rank) 0 (within-row x 16 p rank low below)
    ∙ c.put_places.ensures p rank low below
    ∙ c.turned.ensures p rank low (omega (arith, below, c.requires.few))
    ∙ c.rows_of.ensures rank p below low
    ∙ ap (λ n. octet_at parts n (c.args.place + p)) (let e : 0 + rank ≡ rank = omega arith in e))
