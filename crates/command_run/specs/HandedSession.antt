-- The session that is handed back, and the end of its report.
use Rattle.std.specs.Prelude.{ℕ, List, ◌++◌, Option, Some, None}
use Rattle.law_model.specs.Common.{leg_of}
use Rattle.law_model.specs.declared.script_types.Script.{Script}
use Rattle.text_report.specs.ReportLines.{refused_texts, total_text}
use Rattle.law_walk.specs.Common.{refusals_among, totals_among, numbered}
use Rattle.thread_session.specs.session_parts.EndedSession.{IsEnded}
use Rattle.thread_session.specs.declared.session_run.opened_session.Ended.{Ended}
use Rattle.command_parts.specs.Common.{Lent, HasScript}
use Rattle.std.specs.Prelude.{◌≡◌, true, false, Result, Ok, Err}
use Rattle.octet_io.specs.Transfer.{Appends, AppendsPart}
use Rattle.text_report.specs.ReportLines.{got_texts}
use Rattle.law_walk.specs.DeliveredFrames.{delivered_of}
use Rattle.thread_sink.specs.WorkerOfSink.{has_failed}
use Rattle.command_parts.specs.declared.stop_and_status.Ran.{Ran}
use Rattle.command_parts.specs.declared.stop_and_status.Stop.{Stop}
use Rattle.thread_session.specs.session_run.SessionOfScript.{IsGroupEnded}

-- the session is that of the script: both ends of each ring say so, and so does the group
pub record HasEnded (script : Script) (ended : Ended) : Type 0 where
  pub rings : IsEnded script ended.group.tx.items ended.group.back ended.lines.items ended.sink
  pub group : IsGroupEnded script ended.group

-- that of the script which was read is handed back
abbrev pub HandsSession : {S : Type 0} → Lent S → Option Ended → Type 0
HandsSession source None = ⊥
HandsSession source (Some ended) = (script : Script) × HasScript source script × HasEnded script ended

-- that which a command gives
abbrev pub ended_of : Result (Ran Ended) Stop → Option Ended
ended_of (Ok own) = Some own.made
ended_of (Err stop) = None

-- the got lines of a session are written, or a part of them up to a fault, which its sink tells
pub record HasGot {K : Type 0} (written : K → Option (List ℕ)) (faults : K → ℕ) (first now : K) (script : Script)
    (ended : Ended) : Type 0 where
  pub all : has_failed ended.sink ≡ false →
      Appends written faults first now (got_texts (delivered_of (leg_of script) script.config.ticks))
  pub part : has_failed ended.sink ≡ true →
      AppendsPart written faults first now (got_texts (delivered_of (leg_of script) script.config.ticks))

-- the lines of refused items, and the line of totals
abbrev pub end_text : Script → List ℕ
end_text script =
    refused_texts (refusals_among (leg_of script) (numbered 0 script.items))
    ++ total_text (totals_among (leg_of script) script.config.ticks script.config.ticks (numbered 0 script.items))
