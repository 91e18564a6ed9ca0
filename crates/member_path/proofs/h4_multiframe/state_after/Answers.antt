-- No cell is in step from one whose MFI1 is not 0.
use Rattle.std.proofs.Common.{[], ◌∷◌, ◌++◌, length, Some, subst, arith}
use Rattle.member_path.specs.h4_multiframe.MultiframePlace.{IsPlace}
use Rattle.member_path.proofs.LineNumbersAfterCellLaws.{unlocked_after}
use Rattle.member_path.proofs.h4_multiframe.state_after.Goals as goal

pub returns-else-nibble_lo-eq0 : goal.returns-else-nibble_lo-eq0
returns-else-nibble_lo-eq0 c cells is_place =
    let h4 = c.args.h4 in
    unlocked_after cells h4 (omega arith)
    (subst (IsPlace (cells ++ Some h4 ∷ []) (length cells)) c.in-Unknown.is is_place)
