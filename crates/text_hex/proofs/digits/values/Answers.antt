-- Each lane by the same steps, which are tried on all characters.
use Rattle.std.proofs.Common.{ℕ, List, refl}
use Rattle.std.proofs.lemmas.Simd.{zip2_splat, splat_is_map, zip2_of_maps}
use Rattle.text_hex.proofs.HexDigitLanesLaws.{chosen, all_values}
use Rattle.text_hex.proofs.digits.values.Goals as goal

pub returns : goal.returns
returns c =
    let v : List ℕ = c.args.chars in
    let long = c.requires in
    let six = splat_is_map v 16 6 long in
    let most = splat_is_map v 16 245 long in
    let added = zip2_splat {Y = ℕ} _ v 16 198 long in
    let figures = zip2_of_maps _ _ _ v (chosen _ _ _ _ _ v added six six added) (splat_is_map v 16 246 long) in
    let letter = zip2_of_maps _ _ _ v (zip2_splat {Y = ℕ} _ v 16 223 long) (splat_is_map v 16 65 long) in
    let letters = zip2_of_maps _ _ _ v (chosen _ _ _ _ _ v letter most letter most) (splat_is_map v 16 10 long) in
    all_values _ v _ (chosen _ _ _ _ _ v figures letters figures letters) refl refl long c.fits-chars.1
