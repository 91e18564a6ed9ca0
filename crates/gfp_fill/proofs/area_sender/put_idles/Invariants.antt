-- The idles so far.
use Rattle.std.proofs.Common.{◌≡◌, ◌*◌, take}
use Rattle.law_model.proofs.CoreHeaderLaws.{idles}
use Rattle.gfp_fill.proofs.area_sender.put_idles.Given as goal

abbrev pub invariant-loop-i : goal.invariant-loop-i
invariant-loop-i l = take (64 * l.i) l.out ≡ idles (16 * l.i)
