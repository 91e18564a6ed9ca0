-- The windows that were passed have no fault.
use Rattle.std.proofs.Common.{sym, ◌∙◌}
use Rattle.member_path.proofs.FailureWindowListLaws.{fault-more, fault-here, fault-end}
use Rattle.member_path.proofs.failure_window.window_fault.first_fault.Goals as goal

pub loop-i-preserved : goal.loop-i-preserved
loop-i-preserved c =
    sym (fault-more c.loop-i.i c.loop-i.end c.args.list.now _ c.loop-i-test.true
    (sym c.fault_of_window.ensures ∙ c.in_default.is))
    ∙ c.loop-i.invariant

pub returns-in-Some : goal.returns-in-Some
returns-in-Some c =
    sym (fault-here c.loop-i.i c.loop-i.end c.args.list.now _ c.in-Some.fault c.loop-i-test.true
    (sym c.fault_of_window.ensures ∙ c.in-Some.is))
    ∙ c.loop-i.invariant

pub returns : goal.returns
returns c = sym (fault-end c.loop-i.i c.loop-i.end c.args.list.now c.loop-i-test.false) ∙ c.loop-i.invariant
