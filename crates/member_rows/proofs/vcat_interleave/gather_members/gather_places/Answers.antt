-- The places done by squares, and those after them.
use Rattle.std.proofs.Common.{◌*◌, length, ◌∙◌}
use Rattle.member_cells.specs.HeldPlaces.{held}
use Rattle.member_rows.specs.vcat_interleave.MemberPayloads.{payloads_of}
use Rattle.member_rows.proofs.PutOctetAndRowSpreadLaws.{rest-size}
use Rattle.member_rows.proofs.RowPartAndLaneLaws.{rows-add}
use Rattle.member_rows.proofs.vcat_interleave.gather_members.gather_places.Goals as goal

pub gather_each-requires-clause-out : goal.gather_each-requires-clause-out
gather_each-requires-clause-out c =
    rest-size c.args.places (c.squares_of-squares.result * 16) (length c.args.active.now)
    (length c.split_at_mut-front.result.1.now)
    c.squares_of-squares.ensures.within (c.split_at_mut-front.ensures.back_len ∙ c.requires.out)

pub returns : goal.returns
returns c =
    rows-add (c.squares_of-squares.result * 16) c.args.places c.args.place
    (payloads_of (held c.args.containers.now) c.args.active.now) _ _
    c.squares_of-squares.ensures.within c.gather_squares.ensures c.gather_each.ensures
