-- The digits of a table, by place.
use Rattle.std.proofs.Common.{◌≡◌, ℕ, ◌+◌, ◌*◌, ◌/◌, ◌<◌, List, slice_index, refl, ◌∙◌, ap, arith, w8}
use Rattle.std.proofs.lemmas.Bool.{lt-leb}
use Rattle.std.proofs.lemmas.Simd.{SwzOk-from_below, Each1-from_get_or, get_or-swz_l, length-swz_l}
use Rattle.hex.specs.Hex.{lower_digits}
use Rattle.text_hex.proofs.encoding.digits.Goals as goal

pub swizzle : goal.swizzle
swizzle c =
    SwzOk-from_below w8 16 1 16 0 c.args.values refl (omega (arith, c.fits-values.0))
    (Each1-from_get_or (λ v. v < 16) c.args.values 0 (λ i within. c.requires i (omega (arith, c.fits-values.0))))

pub returns-clause-lanes : goal.returns-clause-lanes
returns-clause-lanes c = length-swz_l w8 16 lower_digits 0 c.args.values ∙ c.fits-values.0

pub returns-clause-digits : goal.returns-clause-digits
returns-clause-digits c i below =
    let values : List ℕ = c.args.values in
    let small : slice_index values i < 16 = c.requires i below in
    get_or-swz_l w8 16 lower_digits 0 values i (omega (arith, c.fits-values.0))
    ∙ rw (lt-leb 128 (slice_index values i) (omega arith))
    (let e : 16 * ((0 + i) / 16) + slice_index values i ≡ slice_index values i =
    omega arith in ap (slice_index lower_digits) e)
