-- A session that has ended, by the lists that its rings have passed.
use Rattle.std.specs.Prelude.{◌≡◌, ℕ, ◌<◌, List, ◌++◌, map, length, slice_get, Option, Some}
use Rattle.std.specs.List.{range_with_len}
use Rattle.law_model.specs.Common.{Container, Cell, BackCell, packet_nibbles, leg_of, scenario_of, Told, containers_of}
use Rattle.law_model.specs.declared.script_types.Script.{Script}
use Rattle.member_cells.specs.declared.containers_and_cells.BackCell.TheVariants.{Packet as Nibbles}
use Rattle.law_model.specs.session.Scenario.{packets_in}
use Rattle.law_line.specs.StableRows.{AreDecidedAt}
use Rattle.law_walk.specs.Common.{sent_on, line_cells, said_packet, delivered_of}
use Rattle.thread_rings.specs.EndsOfRing.{OutEnd, InEnd, out_passed, in_passed, in_items, AreEnds}
use Rattle.thread_rings.specs.declared.line_worker.LineWorker.{LineWorker}
use Rattle.thread_sink.specs.declared.sink_worker.SinkWorker.{SinkWorker}
use Rattle.thread_sink.specs.WorkerOfSink.{cells_of, taken_of, got_of}
use Rattle.thread_session.specs.session_parts.LineRingsLaid.{AreDone, AreSendEnds, AreReceiveEnds}
use Rattle.thread_session.specs.session_parts.LinesOpened.{IsLineOf}

-- ---- what the ends of all rings say once they were laid beside each other, where the source was told these return
-- cells
pub record IsGathered (script : Script) (returns : List (Option Told)) (tx : List (OutEnd Container))
    (workers : List LineWorker) (rx : List (InEnd Cell)) : Type 0 where
  pub tx_count : length tx ≡ script.config.lines
  pub workers_count : length workers ≡ script.config.lines
  pub rx_count : length rx ≡ script.config.lines
  pub sent : (m : ℕ) (out : OutEnd Container) → slice_get tx m ≡ Some out →
      out_passed out ≡ containers_of (scenario_of script) returns m script.config.ticks
  pub lines : (m : ℕ) (worker : LineWorker) → slice_get workers m ≡ Some worker → IsLineOf script.config m worker
  pub done : AreDone workers
  pub sends : (m : ℕ) (out : OutEnd Container) (worker : LineWorker) → slice_get tx m ≡ Some out →
      slice_get workers m ≡ Some worker →
      in_passed worker.consumer ++ in_items worker.consumer ≡ out_passed out
  pub receives : (m : ℕ) (worker : LineWorker) (into : InEnd Cell) → slice_get workers m ≡ Some worker →
      slice_get rx m ≡ Some into →
      in_passed into ++ in_items into ≡ out_passed worker.producer

-- ---- the session of a script has ended
-- the return cells that its sink sends
abbrev pub session_backs : Script → List BackCell
session_backs script = map (λ k. Nibbles (packet_nibbles (said_packet (leg_of script) k)))
    (range_with_len 0 (packets_in script.config.ticks))

-- the worker of line m received all containers of the session on that line, and sent all cells of its path
pub record IsLineEnded (script : Script) (m : ℕ) (worker : LineWorker) : Type 0 where
  pub line : IsLineOf script.config m worker
  pub received : in_passed worker.consumer ≡ sent_on (scenario_of script) m
  pub sent : out_passed worker.producer ≡ line_cells (leg_of script) m

-- the two ends of each ring are here; the send rings passed the containers of the session; so did the workers of the
-- lines, in their order; what the sink received decides all
-- rows, and what it didn't take of the cells is still there; it sent the session's return cells, and took all rows and
-- their frames
pub record IsEnded (script : Script) (tx : List (OutEnd Container)) (back : InEnd BackCell)
    (workers : List LineWorker) (sink : SinkWorker) : Type 0 where
  pub count : length workers ≡ script.config.lines
  pub send_ends : AreSendEnds tx workers
  pub receive_ends : AreReceiveEnds workers sink.rx.items
  pub return_ends : AreEnds sink.back back
  pub sends : (m : ℕ) (out : OutEnd Container) → slice_get tx m ≡ Some out →
      out_passed out ≡ sent_on (scenario_of script) m
  pub lines : (m : ℕ) (worker : LineWorker) → slice_get workers m ≡ Some worker → IsLineEnded script m worker
  pub cells : (m : ℕ) (into : InEnd Cell) → slice_get sink.rx.items m ≡ Some into →
      in_passed into ++ in_items into ≡ line_cells (leg_of script) m
  pub decided : (t : ℕ) → t < script.config.ticks → AreDecidedAt (cells_of sink) t
  pub backs : out_passed sink.back ≡ session_backs script
  pub returns : in_passed back ++ in_items back ≡ session_backs script
  pub taken : taken_of sink ≡ script.config.ticks
  pub got : got_of sink ≡ length (delivered_of (leg_of script) script.config.ticks)
