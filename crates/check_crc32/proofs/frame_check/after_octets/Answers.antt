-- Each octet that is read stands behind those before it.
use Rattle.std.proofs.Common.{ℕ, List, ◌++◌, [], ◌∷◌, length, take, subst, ap, sym, ◌∙◌, append_assoc, arith, slice_index}
use Rattle.std.proofs.lemmas.List.{take_more, take_all, append-nil}
use Rattle.check_crc32.specs.Register.{RegisterStands}
use Rattle.check_crc32.proofs.frame_check.after_octets.Goals as goal

pub loop-i-init : goal.loop-i-init
loop-i-init c order before is stands =
    subst (λ l. RegisterStands order l c.args.begun) (sym (append-nil before)) stands

pub loop-i-preserved : goal.loop-i-preserved
loop-i-preserved c order before is stands =
    let octets = c.args.octets.now in
    let i = c.loop-i.i in
    subst (λ l. RegisterStands order l c.after_octet-register.result)
    (append_assoc before (take i octets) _ ∙ ap (λ l. before ++ l) (sym (take_more octets i 0 (omega arith))))
    (c.after_octet-register.ensures order (before ++ take i octets) is (c.loop-i.invariant order before is stands))

pub returns : goal.returns
returns c order before is stands =
    subst (λ l. RegisterStands order (before ++ l) c.loop-i.register) (take_all c.loop-i.i c.args.octets.now (omega arith))
    (c.loop-i.invariant order before is stands)
