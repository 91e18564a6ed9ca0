-- One more.
use Rattle.std.proofs.Common.{◌-◌, vec_len, arith}
use Rattle.member_au4.proofs.LinkDraftAndActionLaws.{keep_one}
use Rattle.member_au4.proofs.au4_link.read_au4_text.keep_up_to.Goals as goal

pub loop-actions-preserved : goal.loop-actions-preserved
loop-actions-preserved c =
    let size = c.in_ok-push.ensures.len in
    let long = c.loop-actions.invariant.long in
    let less = c.loop-actions-test.true in
    let is = c.len.ensures in
    record {
      kept = keep_one c.args.actions.now.items c.loop-actions.actions.items _
          (vec_len c.loop-actions.actions - vec_len c.args.actions.now) _
          c.in_ok-push.ensures.items c.loop-actions.invariant.kept (omega (arith, size, long));
      long = omega (arith, size, long);
      inside = omega (arith, size, less, is);
    }
