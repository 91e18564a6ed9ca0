-- The lines of a session before anything has moved.
use Rattle.std.specs.Prelude.{◌≡◌, ℕ, ◌+◌, ◌-◌, min, List, [], length, slice_get, slice_index_or, Some}
use Rattle.law_model.specs.Common.{Container, Cell, greatest, greatest_slip}
use Rattle.law_model.specs.declared.script_types.Config.{Config}
use Rattle.thread_rings.specs.EndsOfRing.{OutEnd, InEnd, out_passed, in_passed, in_size, AreEnds}
use Rattle.thread_rings.specs.declared.line_worker.LineWorker.{LineWorker}
use Rattle.thread_rings.specs.WorkerOfLine.{number_of, delay_of, windows_of, total_of}
use Rattle.thread_session.specs.session_parts.LineRingsLaid.{AreSendEnds, AreReceiveEnds}

-- how many slots the receive ring of line m has: it holds what the line is ahead of one with the greatest delay and slip,
-- and some more, but no more than the configuration gives it
abbrev pub slots_of : Config → ℕ → ℕ
slots_of config m = min config.ring
    (greatest config.delays - slice_index_or config.delays m 0 + greatest_slip config.windows + 64)

-- a worker is that of line m
pub record IsLineOf (config : Config) (m : ℕ) (worker : LineWorker) : Type 0 where
  pub number : number_of worker ≡ m
  pub delay : delay_of worker ≡ slice_index_or config.delays m 0
  pub windows : windows_of worker ≡ slice_index_or config.windows m []
  pub total : total_of worker ≡ config.ticks

-- the worker of line m between a send ring and a receive ring, through which nothing has passed
pub record IsLineOpened (config : Config) (m size : ℕ) (out : OutEnd Container) (worker : LineWorker)
    (into : InEnd Cell) : Type 0 where
  pub line : IsLineOf config m worker
  pub unused : out_passed out ≡ []
  pub fresh : in_passed into ≡ []
  pub slots : in_size into ≡ size
  pub silent : out_passed worker.producer ≡ []
  pub send : AreEnds out worker.consumer
  pub receive : AreEnds worker.producer into

-- the workers of the first lines, between a send ring and a receive ring each, through which nothing has passed
pub record AreOpened (config : Config) (n : ℕ) (tx : List (OutEnd Container)) (workers : List LineWorker)
    (rx : List (InEnd Cell)) : Type 0 where
  pub tx_count : length tx ≡ n
  pub workers_count : length workers ≡ n
  pub rx_count : length rx ≡ n
  pub unused : (m : ℕ) (out : OutEnd Container) → slice_get tx m ≡ Some out → out_passed out ≡ []
  pub fresh : (m : ℕ) (into : InEnd Cell) → slice_get rx m ≡ Some into → in_passed into ≡ []
  pub slots : (m : ℕ) (into : InEnd Cell) → slice_get rx m ≡ Some into → in_size into ≡ slots_of config m
  pub silent : (m : ℕ) (worker : LineWorker) → slice_get workers m ≡ Some worker → out_passed worker.producer ≡ []
  pub lines : (m : ℕ) (worker : LineWorker) → slice_get workers m ≡ Some worker → IsLineOf config m worker
  pub sends : AreSendEnds tx workers
  pub receives : AreReceiveEnds workers rx
