-- A vector has the octets of the slice that it was read from.
use Rattle.std.proofs.Common.{◌≡◌, ◌+◌, ◌-◌, take, drop, get_or, ap, ◌∙◌, arith, get_or-take, get_or-drop}
use Rattle.std.proofs.lemmas.Simd.{get_or-chunk}
use Rattle.member_rows.proofs.vcat_interleave.transpose_square.octets_of.Goals as goal

pub returns : goal.returns
returns c j h =
    let at = c.args.at in
    let row = c.args.octets.now in
    let part = take (at + 16 - at) (drop at row) in
    get_or-chunk 0 16 part j 0 h ∙ (let e : 0 + j ≡ j = omega arith in ap (λ n. get_or part n 0) e)
    ∙ get_or-take (at + 16 - at) (drop at row) j 0 (omega arith) ∙ get_or-drop at row j 0
