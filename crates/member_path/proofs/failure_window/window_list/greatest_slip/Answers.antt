-- One window on, the greatest sum so far and that of the windows left stay the slip of the list.
use Rattle.std.proofs.Common.{arith, sym, ◌∙◌}
use Rattle.member_path.proofs.FailureWindowListLaws.{slip-step, slip-end, are-more}
use Rattle.member_path.proofs.failure_window.window_list.greatest_slip.Goals as goal

pub run_with-run-requires : goal.run_with-run-requires
run_with-run-requires c = let are =
    are-more c.loop-window.end c.args.list.now c.loop-window.window-index _ c.loop-window-test.true c.loop-window.invariant.apart in
    record { sum = c.loop-window.invariant.within; apart = are.0; sign = are.1 }

pub loop-window-preserved : goal.loop-window-preserved
loop-window-preserved c =
    let are = are-more c.loop-window.end c.args.list.now c.loop-window.window-index _ c.loop-window-test.true
    c.loop-window.invariant.apart in
    record {
      apart = are.2;
      within = c.run_with-run.ensures.within;
      most = omega arith;
      slip = slip-step c.loop-window.run c.loop-window.end c.loop-window.most c.args.list.now c.loop-window.window-index
          _
          c.run_with-run.result c.max-most.result c.loop-window-test.true c.loop-window.invariant.most
          c.run_with-run.ensures.sum c.max-most.ensures
          ∙ c.loop-window.invariant.slip;
    }

pub returns : goal.returns
returns c =
    sym (slip-end c.loop-window.run c.loop-window.end c.loop-window.most c.args.list.now c.loop-window.window-index
    c.loop-window-test.false c.loop-window.invariant.most)
    ∙ c.loop-window.invariant.slip
