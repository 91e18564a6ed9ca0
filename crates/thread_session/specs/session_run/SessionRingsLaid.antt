-- The ends of all rings of a session, laid beside each other; and the session that a group belongs to.
use Rattle.std.specs.Prelude.{◌≡◌, ℕ, List, [], ◌∷◌, ◌++◌, length, slice_get, Some}
use Rattle.law_model.specs.Common.{Container, Cell, BackCell, leg_of}
use Rattle.law_model.specs.declared.script_types.Script.{Script}
use Rattle.thread_rings.specs.EndsOfRing.{OutEnd, InEnd, out_passed, in_passed, in_items, AreEnds}
use Rattle.thread_rings.specs.declared.line_worker.LineWorker.{LineWorker}
use Rattle.thread_rings.specs.WorkerOfLine.{number_of, delay_of, windows_of, total_of}
use Rattle.thread_sink.specs.declared.sink_worker.SinkWorker.{SinkWorker}
use Rattle.thread_sink.specs.WorkerOfSink.{SinkWorkerStands, cells_of, lines_of, size_of, options_of, taken_of, has_failed}
use Rattle.thread_sink.specs.WorkerOfSink.{ticks_of as rows_of}
use Rattle.thread_group.specs.declared.group_state.GroupState.{GroupState}
use Rattle.thread_group.specs.Group.{ticks_of}
use Rattle.thread_group.specs.GroupOfLeg.{IsBound}
use Rattle.thread_session.specs.session_parts.LineRingsLaid.{AreSendEnds, AreReceiveEnds}

-- the members of a session are this script, and the ends of this group's rings
pub record IsSessionOf (of_script : Script) (tx : List (OutEnd Container)) (back : List (InEnd BackCell))
    (own : Script) (group : GroupState) : Type 0 where
  pub script : of_script ≡ own
  pub sends : tx ≡ group.tx.items
  pub returns : back ≡ group.back ∷ []

-- the same worker of a line, of which only looks were made
pub record HasLookedLine (old new : LineWorker) : Type 0 where
  pub number : number_of new ≡ number_of old
  pub delay : delay_of new ≡ delay_of old
  pub windows : windows_of new ≡ windows_of old
  pub total : total_of new ≡ total_of old
  pub popped : in_passed new.consumer ≡ in_passed old.consumer
  pub pushed : out_passed new.producer ≡ out_passed old.producer

-- a look was made at the ends of each ring: what was pushed is what was popped and what is still there. Nothing else
-- has changed
pub record AreLaid (group : GroupState) (lines : List LineWorker) (sink : SinkWorker) (group' : GroupState)
    (lines' : List LineWorker) (sink' : SinkWorker) : Type 0 where
  pub landed : (script : Script) (tx : List (OutEnd Container)) (back : List (InEnd BackCell)) →
      IsBound (leg_of script) tx back group → IsBound (leg_of script) tx back group'
  pub ticks : ticks_of group' ≡ ticks_of group
  pub tx_count : length group'.tx.items ≡ length group.tx.items
  pub count : length lines' ≡ length lines
  pub rx_count : length sink'.rx.items ≡ length sink.rx.items
  pub workers : (m : ℕ) (old new : LineWorker) → slice_get lines m ≡ Some old → slice_get lines' m ≡ Some new →
      HasLookedLine old new
  pub send_ends : AreSendEnds group'.tx.items lines'
  pub receive_ends : AreReceiveEnds lines' sink'.rx.items
  pub return_ends : AreEnds sink'.back group'.back
  pub sends : (m : ℕ) (out : OutEnd Container) (worker : LineWorker) → slice_get group'.tx.items m ≡ Some out →
      slice_get lines' m ≡ Some worker →
      in_passed worker.consumer ++ in_items worker.consumer ≡ out_passed out
  pub receives : (m : ℕ) (worker : LineWorker) (into : InEnd Cell) → slice_get lines' m ≡ Some worker →
      slice_get sink'.rx.items m ≡ Some into →
      in_passed into ++ in_items into ≡ out_passed worker.producer
  pub returns : in_passed group'.back ++ in_items group'.back ≡ out_passed sink'.back
  pub cells : cells_of sink' ≡ cells_of sink
  pub lines_same : lines_of sink' ≡ lines_of sink
  pub size : size_of sink' ≡ size_of sink
  pub options : options_of sink' ≡ options_of sink
  pub rows : rows_of sink' ≡ rows_of sink
  pub taken : taken_of sink' ≡ taken_of sink
  pub failed : has_failed sink' ≡ has_failed sink
  pub stands : SinkWorkerStands sink → SinkWorkerStands sink'
