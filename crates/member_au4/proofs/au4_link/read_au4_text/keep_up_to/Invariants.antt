-- Keep stands behind the actions that were there.
use Rattle.std.proofs.Common.{◌≡◌, ◌≤◌, ◌-◌, ◌++◌, replicate, vec_len}
use Rattle.member_au4.specs.declared.au4_pointer.au_frame.Action.TheVariants.{Keep}
use Rattle.member_au4.proofs.au4_link.read_au4_text.keep_up_to.Given as goal

abbrev pub invariant-loop-actions : goal.invariant-loop-actions
invariant-loop-actions l = record {
  kept : l.actions.items ≡ l.fn.actions.items ++ replicate (vec_len l.actions - vec_len l.fn.actions) Keep;
  long : vec_len l.fn.actions ≤ vec_len l.actions;
  inside : vec_len l.actions ≤ l.frame;
}

abbrev pub decreases-loop-actions : goal.decreases-loop-actions
decreases-loop-actions l = l.frame - vec_len l.actions
