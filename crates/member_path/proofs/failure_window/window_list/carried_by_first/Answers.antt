-- The first window that ends above a container names it, or none does.
use Rattle.std.proofs.Common.{◌∙◌, sym}
use Rattle.member_path.proofs.FailureWindowListLaws.{first-ends, first-in, first-before, first-none}
use Rattle.member_path.proofs.failure_window.window_list.carried_by_first.Goals as goal

pub carried_in_window-requires : goal.carried_in_window-requires
carried_in_window-requires c = first-ends c.args.list.now c.args.n c.in-Some.window.now c.requires
    c.in-Some.ensures.value

pub returns-then-window-n : goal.returns-then-window-n
returns-then-window-n c =
    c.carried_in_window.ensures
    ∙ sym (first-in c.args.list.now c.args.n c.in-Some.window.now c.requires c.in-Some.ensures.value c.if-window-n.true)

pub returns-else-window-n : goal.returns-else-window-n
returns-else-window-n c = first-before c.args.list.now c.args.n c.in-Some.window.now c.requires c.in-Some.ensures.value
    c.if-window-n.false

pub returns-in-None : goal.returns-in-None
returns-in-None c = first-none c.args.list.now c.args.n c.in-None.ensures.value
