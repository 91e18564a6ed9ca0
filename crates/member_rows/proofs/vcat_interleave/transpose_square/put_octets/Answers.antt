-- Sixteen octets stand in the place of sixteen others.
use Rattle.std.proofs.Common.{◌+◌, ◌++◌, inl, inr, take, drop, slice_index, ap, ap₂, ◌∙◌, sym, arith, drop-drop}
use Rattle.std.proofs.lemmas.Simd.{put_chunk_whole}
use Rattle.member_rows.proofs.PutOctetAndRowSpreadLaws.{put-placed, put-before, put-after}
use Rattle.member_rows.proofs.vcat_interleave.transpose_square.put_octets.Goals as goal

pub returns-clause-octets : goal.returns-clause-octets
returns-clause-octets c =
    let first = c.split_at_mut-rest.ensures in
    let second = c.split_at_mut-place.ensures in
    let whole = put_chunk_whole c.split_at_mut-place.result.0.now c.args.row (second.front_len ∙ sym c.fits-row.0) in
    ap₂ (λ a b. a ++ b) first.front
    (ap₂ (λ a b. a ++ b) whole (second.back ∙ ap (drop 16) first.back ∙ drop-drop 16 c.args.at c.args.out.now))

pub returns-clause-placed : goal.returns-clause-placed
returns-clause-placed c i h =
    let at = c.args.at in
    let out = c.args.out.now in
    let all = ap (λ l. slice_index l (at + i))
    (returns-clause-octets c ∙ ap (λ n. take at out ++ (c.args.row ++ drop (at + n) out)) (sym c.fits-row.0)) in
    all ∙ put-placed at i out c.args.row (omega (arith, c.fits-row.0)) (omega (arith, c.fits-row.0))

pub returns-clause-others : goal.returns-clause-others
returns-clause-others c n where_else =
    let at = c.args.at in
    let out = c.args.out.now in
    let all = ap (λ l. slice_index l n)
    (returns-clause-octets c ∙ ap (λ n. take at out ++ (c.args.row ++ drop (at + n) out)) (sym c.fits-row.0)) in
    all ∙ elim where_else [
      | inl before ↦ put-before at n out c.args.row (omega (arith, c.fits-row.0)) before
      | inr after ↦ put-after at n out c.args.row (omega (arith, c.fits-row.0)) (omega (arith, c.fits-row.0))
    ]
