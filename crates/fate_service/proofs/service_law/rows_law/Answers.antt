-- What lines of rows add up to.
use Rattle.fate_service.proofs.MemberRunAndCarriedOctetLaws.{members-are, members-rows, members-room}
use Rattle.fate_service.proofs.OutageAndDarkRowLaws.{lines-count}
use Rattle.fate_service.proofs.OutageAndLostFrameLaws.{outages-lost, outages-dark, outages-broken}
use Rattle.fate_service.specs.Outages.{outages_of}
use Rattle.fate_service.specs.RowStates.{states_of}
use Rattle.fate_service.specs.FrameColumns.{carried_of}
use Rattle.fate_engine.specs.fate_law.SessionFates.{ended_of}
use Rattle.law_walk.specs.DeliveredFrames.{session_rows}
use Rattle.fate_service.proofs.service_law.rows_law.Goals as goal

pub returns : goal.returns
returns c = record {
  runs = members-are;
  taken = members-rows;
  capacity = members-room;
  count = λ leg s. lines-count (carried_of (ended_of leg s)) s.rows (outages_of (states_of (session_rows leg s.rows)));
  dark = outages-dark;
  spoiled = outages-broken;
  lost = outages-lost;
}
