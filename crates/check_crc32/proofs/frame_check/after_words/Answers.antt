-- At first the register has 32 ones; behind the words are the octets that are left.
use Rattle.std.proofs.Common.{ℕ, List, ◌≡◌, ◌*◌, ◌/◌, ◌++◌, length, take, drop, subst, arith, ap, ◌∙◌}
use Rattle.std.proofs.lemmas.List.{take-append-drop, take_all, length-drop}
use Rattle.check_crc32.specs.Register.{RegisterStands}
use Rattle.check_crc32.proofs.CheckRegisterAndTableLaws.{stands_none, first_of}
use Rattle.check_crc32.proofs.frame_check.after_words.Goals as goal

pub loop-i-init : goal.loop-i-init
loop-i-init c order are = stands_none order

pub returns : goal.returns
returns c order are =
    let octets : List ℕ = c.args.octets.now in
    let read = 8 * (length octets / 8) in
    let made : c.loop-i.i ≡ length octets / 8 = omega (arith, c.loop-i-test.false, c.loop-i.auto.i-end) in
    subst (λ l. RegisterStands order l c.after_octets.result)
    (ap (λ l. take read octets ++ l) (take_all _ (drop read octets) (omega (arith, length-drop read octets)))
    ∙ take-append-drop read octets)
    (c.after_octets.ensures order (take read octets) (first_of order c.args.tables.now are)
    (subst (λ n. RegisterStands order (take (8 * n) octets) c.loop-i.register) made (c.loop-i.invariant order are)))
