-- As many shares are held as were given, and each looks at the flag of its place.
use Rattle.std.proofs.Common.{arith}
use Rattle.std.specs.Global.{Vec}
use Rattle.thread_alarms.specs.declared.watched_line.served_line.ServedLine.{ServedLine}
use Rattle.thread_session.specs.declared.session_parts.line_thread.Held.{Held}
use Rattle.thread_session.specs.session_parts.HeldShares.{IsHeldOf, AreHeldOf}
use Rattle.thread_session.proofs.WorkerShareAndPairListLaws.{zip-length}
use Rattle.thread_session.proofs.session_run.start_threads.fn.shares_beside.scope.Goals as goal

pub take_all_back-back-requires : goal.take_all_back-back-requires
take_all_back-back-requires g c =
    let shares = c.captures.shares in
    let held = c.attend-duty.result.1 in
    let are : AreHeldOf shares.items held.items =
    c.attend-duty.ensures.held shares.items c.start_shares-held.ensures.held in
    let long = zip-length (λ (share : Vec ServedLine) (one : Held). IsHeldOf share.items one) shares.items held.items
    are in
    record {
      room = (c.requires.back.0, omega (arith, long, c.requires.back.1, held.ok.0, shares.ok.0));
      flags = omega (arith, long, c.requires.flags, held.ok.0, shares.ok.0);
      told = c.attend-duty.ensures.told _ c.start_shares-held.ensures.told;
    }
