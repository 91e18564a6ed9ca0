-- The row of one member, and that of two.
use Rattle.std.proofs.Common.{◌*◌, length, ap, ◌∙◌, slice_index, arith}
use Rattle.member_cells.specs.HeldPlaces.{held}
use Rattle.member_rows.proofs.RowPartAndLaneLaws.{is-row-of_one, is-row-of_two}
use Rattle.member_rows.proofs.vcat_interleave.gather_members.gather_each.Goals as goal

pub returns-in-1 : goal.returns-in-1
returns-in-1 c =
    is-row-of_one (held c.args.containers.now) c.args.active.now c.args.place c.args.places c.copy_from_slice.new.self
    c.in-1.is
    (ap length c.copy_from_slice.ensures.after ∙ c.piece.ensures.size)
    (λ p low. ap (λ l. slice_index l p) c.copy_from_slice.ensures.after ∙ c.piece.ensures.octets p low)

pub returns-in-2 : goal.returns-in-2
returns-in-2 c =
    is-row-of_two (held c.args.containers.now) c.args.active.now c.args.place c.args.places c.put_pairs.new.row
    c.in-2.is
    (c.put_pairs.auto.row ∙ c.requires.out ∙ ap (λ n. c.args.places * n) c.in-2.is)
    (λ p low. c.put_pairs.ensures.firsts p (omega (arith, c.piece-first.ensures.size))
    ∙ c.piece-first.ensures.octets p low)
    (λ p low. c.put_pairs.ensures.seconds p (omega (arith, c.piece-first.ensures.size))
    ∙ c.piece-second.ensures.octets p low)
