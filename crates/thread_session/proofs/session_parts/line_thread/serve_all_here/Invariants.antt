-- What is held is held of the same workers, and looks at the same flags. Bursts were made of those before the next.
use Rattle.std.proofs.Common.{◌≡◌, List, true}
use Rattle.std.specs.Global.{Vec}
use Rattle.thread_alarms.specs.declared.watched_line.served_line.ServedLine.{ServedLine}
use Rattle.thread_session.specs.declared.session_parts.stop_flag.Flag.{Flag}
use Rattle.thread_session.specs.session_parts.HeldShares.{AreHeldOf, AreToldBy}
use Rattle.thread_session.specs.session_parts.Bursts.{IsTriedHere, all_carries_here}
use Rattle.thread_session.proofs.WorkerShareAndPairListLaws.{EachBelow}
use Rattle.thread_session.proofs.CarriesHereLaws.{Rises}
use Rattle.thread_session.proofs.session_parts.line_thread.serve_all_here.Given as goal

abbrev pub invariant-loop-share : goal.invariant-loop-share
invariant-loop-share g l = record {
  held : (shares : List (Vec ServedLine)) → AreHeldOf shares l.fn.held.items → AreHeldOf shares l.share-items;
  told : (flags : List Flag) → AreToldBy flags l.fn.held.items → AreToldBy flags l.share-items;
  tried : EachBelow IsTriedHere l.share-index l.fn.held.items l.share-items;
  rises : Rises (l.moved ≡ true) (all_carries_here l.fn.held.items) (all_carries_here l.share-items);
}
