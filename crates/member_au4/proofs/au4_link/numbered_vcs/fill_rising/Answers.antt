-- One octet on, and after the last one.
use Rattle.std.proofs.Common.{◌<◌, ◌≤◌, ◌∙◌, ◌+◌, ◌-◌, ◌%◌, ◌++◌, length, take, ap, sym, arith}
use Rattle.std.proofs.lemmas.List.{take_more_set, take_all}
use Rattle.member_au4.specs.au4_link.Vcs.{rising}
use Rattle.member_au4.proofs.NumberedVcCountsLaws.{rising_next, rising_end}
use Rattle.member_au4.proofs.au4_link.numbered_vcs.fill_rising.Goals as goal

pub loop-i-preserved : goal.loop-i-preserved
loop-i-preserved c =
    let small = c.loop-i.auto.octet-fits in
    let inside : c.loop-i.i < length c.loop-i.out = omega (arith, c.loop-i.auto.out, c.loop-i-test.true) in
    rising_next _ (take c.loop-i.i c.loop-i.out) (length c.args.out.now) c.loop-i.i c.loop-i.octet
    ((c.loop-i.octet + 1) % 256) c.loop-i.invariant c.loop-i-test.true (omega (arith, small)) (omega arith)
    ∙ ap (λ l. l ++ rising (length c.args.out.now - (c.loop-i.i + 1)) ((c.loop-i.octet + 1) % 256))
    (sym (take_more_set c.loop-i.out c.loop-i.i c.loop-i.octet inside))

pub returns : goal.returns
returns c =
    let past : length c.loop-i.out ≤ c.loop-i.i = omega (arith, c.loop-i.auto.out, c.loop-i-test.false) in
    sym (take_all c.loop-i.i c.loop-i.out past)
    ∙ rising_end _ (take c.loop-i.i c.loop-i.out) (length c.args.out.now) c.loop-i.i c.loop-i.octet c.loop-i.invariant
    c.loop-i-test.false
