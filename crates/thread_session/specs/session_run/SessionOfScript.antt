-- A session of a script at its opening, and at its end.
use Rattle.std.specs.Prelude.{◌≡◌, ℕ, ◌≤◌, List, [], ◌∷◌, ◌++◌, length, slice_get, Some, false}
use Rattle.law_model.specs.Common.{Container, Cell, leg_of, offers_of, orders_of}
use Rattle.law_model.specs.declared.script_types.Script.{Script}
use Rattle.std.specs.Prelude.{filter}
use Rattle.std.specs.List.Sorted.{IsNonDecreasingBy}
use Rattle.law_model.specs.session.Leg.{Leg}
use Rattle.law_model.specs.declared.session_totals.Totals.{Totals}
use Rattle.thread_rings.specs.EndsOfRing.{OutEnd, InEnd, out_passed, in_passed, in_items, AreEnds}
use Rattle.thread_rings.specs.declared.line_worker.LineWorker.{LineWorker}
use Rattle.thread_sink.specs.declared.sink_worker.SinkWorker.{SinkWorker}
use Rattle.thread_sink.specs.WorkerOfSink.{SinkWorkerStands, lines_of, size_of, options_of, taken_of, has_failed}
use Rattle.thread_sink.specs.WorkerOfSink.{ticks_of as rows_of}
use Rattle.law_walk.specs.Common.{refusals_among, totals_among, numbered}
use Rattle.thread_group.specs.declared.group_state.GroupState.{GroupState}
use Rattle.thread_group.specs.Group.{IsOf, ticks_of, total_of, frames_of, commands_of, journal_of, refusals_of}
use Rattle.thread_group.specs.Group.{totals_of}
use Rattle.thread_group.specs.GroupOfLeg.{IsBound, HasLandedOf}
use Rattle.law_walk.specs.LandedOfLeg.{Numbered, is_accepted_frame, is_accepted_command}
use Rattle.thread_group.specs.Journal.{of_client, of_operator}
use Rattle.thread_alarms.specs.declared.watched_line.served_line.ServedLine.{ServedLine}
use Rattle.thread_session.specs.session_parts.LineRingsLaid.{AreDone, AreServedDone, AreSendEnds, AreReceiveEnds}
use Rattle.thread_session.specs.session_parts.LinesOpened.{IsLineOf, AreOpened}

-- ---- the opening
-- the worker of the sink before anything has moved
pub record IsSinkOf (script : Script) (sink : SinkWorker) : Type 0 where
  pub lines : lines_of sink ≡ script.config.lines
  pub size : size_of sink ≡ script.config.size
  pub options : options_of sink ≡ script.config.options
  pub rows : rows_of sink ≡ script.config.ticks
  pub taken : taken_of sink ≡ 0
  pub failed : has_failed sink ≡ false
  pub stands : SinkWorkerStands sink

-- a group that is bound to the script, the workers of its lines and of its sink, with the ends of their rings; nothing
-- has moved
pub record IsOpen (script : Script) (group : GroupState) (workers : List LineWorker)
    (worker : SinkWorker) : Type 0 where
  pub bound : IsBound (leg_of script) group.tx.items (group.back ∷ []) group
  pub lines : AreOpened script.config script.config.lines group.tx.items workers worker.rx.items
  pub returns : AreEnds worker.back group.back
  pub sink : IsSinkOf script worker

-- ---- the end, as far as the workers themselves say
-- all frames are made, all lines have come to their end, all rows are taken
pub record IsAllDone (group : GroupState) (lines : List ServedLine) (sink : SinkWorker) : Type 0 where
  pub made : total_of group ≤ ticks_of group
  pub carried : AreServedDone lines
  pub taken : taken_of sink ≡ rows_of sink

-- the same, and the two ends of each ring say the same
pub record HasComeToEnd (script : Script) (group : GroupState) (workers : List LineWorker)
    (sink : SinkWorker) : Type 0 where
  pub of_script : IsOf (leg_of script) group
  pub landed : HasLandedOf (leg_of script) group
  pub made : total_of group ≤ ticks_of group
  pub tx_count : length group.tx.items ≡ script.config.lines
  pub workers_count : length workers ≡ script.config.lines
  pub rx_count : length sink.rx.items ≡ script.config.lines
  pub lines : (m : ℕ) (worker : LineWorker) → slice_get workers m ≡ Some worker → IsLineOf script.config m worker
  pub done : AreDone workers
  pub send_ends : AreSendEnds group.tx.items workers
  pub receive_ends : AreReceiveEnds workers sink.rx.items
  pub return_ends : AreEnds sink.back group.back
  pub sends : (m : ℕ) (out : OutEnd Container) (worker : LineWorker) → slice_get group.tx.items m ≡ Some out →
      slice_get workers m ≡ Some worker →
      in_passed worker.consumer ++ in_items worker.consumer ≡ out_passed out
  pub receives : (m : ℕ) (worker : LineWorker) (into : InEnd Cell) → slice_get workers m ≡ Some worker →
      slice_get sink.rx.items m ≡ Some into →
      in_passed into ++ in_items into ≡ out_passed worker.producer
  pub returns : in_passed group.back ++ in_items group.back ≡ out_passed sink.back
  pub stands : SinkWorkerStands sink
  pub sink_lines : lines_of sink ≡ script.config.lines
  pub size : size_of sink ≡ script.config.size
  pub options : options_of sink ≡ script.config.options
  pub taken : taken_of sink ≡ script.config.ticks

-- ---- the end, by the script
-- the numbers of its ticks, its accepted frames and commands and its refused items; rows and delivered frames are
-- counted elsewhere
abbrev pub group_totals : Script → Totals
group_totals script = record (totals_among (leg_of script) script.config.ticks 0 (numbered 0 script.items)) { got = 0 }

-- what was accepted is all that the leg accepts, each once: of each kind in the order of the items, and none behind one
-- that landed later
pub record IsJournalOf (leg : Leg) (entries : List Numbered) : Type 0 where
  pub frames : of_client entries ≡ filter (is_accepted_frame leg) (numbered 0 leg.items)
  pub commands : of_operator entries ≡ filter (is_accepted_command leg) (numbered 0 leg.items)
  pub order : IsNonDecreasingBy (λ (entry : Numbered). entry.item.due) entries

-- the group has made all frames and landed all items; its journal is of those that the script accepts, and those that
-- it refused are the script's
pub record IsGroupEnded (script : Script) (group : GroupState) : Type 0 where
  pub ticks : ticks_of group ≡ script.config.ticks
  pub frames : frames_of group ≡ length (offers_of script.items)
  pub commands : commands_of group ≡ length (orders_of script.items)
  pub journal : IsJournalOf (leg_of script) (journal_of group)
  pub refusals : refusals_of group ≡ refusals_among (leg_of script) (numbered 0 script.items)
  pub totals : totals_of group ≡ group_totals script
