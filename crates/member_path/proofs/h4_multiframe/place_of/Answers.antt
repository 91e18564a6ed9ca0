-- In each state one MFI1 at most is in step.
use Rattle.std.proofs.Common.{◌≡◌, ◌+◌, ◌*◌, ◌/◌, ◌%◌, [], ◌∷◌, ◌++◌, length, Some, subst, arith}
use Rattle.member_path.specs.declared.h4_multiframe.Place.TheVariants.{Locks, At}
use Rattle.member_path.specs.h4_multiframe.MultiframePlace.{IsPlace}
use Rattle.member_path.specs.h4_multiframe.LockState.{LockStands}
use Rattle.member_path.proofs.LineNumbersAfterCellLaws.{locks_place, at_place, unlocked_unknown, begun_unknown}
use Rattle.member_path.proofs.LineNumbersAfterCellLaws.{locked_unknown}
use Rattle.member_path.proofs.h4_multiframe.place_of.Goals as goal

pub returns-in-Unlocked : goal.returns-in-Unlocked
returns-in-Unlocked c cells stands =
    unlocked_unknown cells c.args.h4 (subst (λ state. LockStands state cells) c.in-Unlocked.is stands)

pub returns-then-mfi1-eq1 : goal.returns-then-mfi1-eq1
returns-then-mfi1-eq1 c cells stands =
    let octet = c.in-Begun.octet in
    let h4 = c.args.h4 in
    let number : 16 * (16 * (octet / 16) + h4 / 16) + 1 ≡ 16 * c.from.result + 1 = omega arith in
    subst (λ n. IsPlace (cells ++ Some h4 ∷ []) (length cells) (Locks n)) number
    (locks_place cells octet h4 (omega arith) (omega arith) (omega arith)
    (subst (λ state. LockStands state cells) c.in-Begun.is stands))

pub returns-else-mfi1-eq1 : goal.returns-else-mfi1-eq1
returns-else-mfi1-eq1 c cells stands =
    begun_unknown cells c.in-Begun.octet c.args.h4 (omega arith)
    (subst (λ state. LockStands state cells) c.in-Begun.is stands)

pub returns-then-from-next : goal.returns-then-from-next
returns-then-from-next c cells stands =
    let number = c.in-Locked.number in
    let h4 = c.args.h4 in
    let next : (number + 1) % 4096 ≡ (number + 1) % 65536 % 4096 = omega arith in
    subst (λ n. IsPlace (cells ++ Some h4 ∷ []) (length cells) (At n)) next
    (at_place cells number h4 (omega arith) (subst (λ state. LockStands state cells) c.in-Locked.is stands))

pub returns-else-from-next : goal.returns-else-from-next
returns-else-from-next c cells stands =
    locked_unknown cells c.in-Locked.number c.args.h4 (omega arith)
    (subst (λ state. LockStands state cells) c.in-Locked.is stands)
