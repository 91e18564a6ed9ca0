-- What one direction of a group holds before any event.
use Rattle.std.specs.Prelude.{◌≡◌, ℕ, ◌<◌, List, [], length, replicate, slice_get, slice_index_or, All, Some}
use Rattle.std.specs.Global.{Vec, Box}
use Rattle.law_model.specs.Common.{Container, Cell, Leg, IsSound}
use Rattle.law_model.specs.declared.script_types.Config.{Config}
use Rattle.terminal_group.specs.SourceByCounts.{IsUnusedOn}
use Rattle.member_path.specs.path_delay.CallsOnDelayedLine.{opened}
use Rattle.member_rows.specs.realign_rows.Gather.{Gather, GatherStands as Gathers, line_count}
use Rattle.terminal_sink.specs.sink_core.Core.{Core, SinkStands as HasTaken}
use Rattle.walk_engine.specs.walk_parts.Ringed.{Ringed, ring_of, Has}
use Rattle.walk_engine.specs.walk_core.WayParts.{windows_in}
use Rattle.walk_engine.specs.declared.walk_core.open_way.Opened.{Opened}

-- line m was given its delay and its windows, and nothing was carried
pub record IsOpened (config : Config) (m : ℕ) (line : Ringed) : Type 0 where
  pub has : Has line (opened (slice_index_or config.delays m 0) (slice_index_or config.windows m []) config.ticks)
  pub ring : ring_of line ≡ config.ring
  pub popped : line.popped ≡ 0

-- so it is with the first n lines
pub record AreOpened (config : Config) (n : ℕ) (lines : List Ringed) : Type 0 where
  pub size : length lines ≡ n
  pub each : (m : ℕ) (line : Ringed) → slice_get lines m ≡ Some line → IsOpened config m line

-- each line has its windows
abbrev pub HasWindows : Config → List Ringed → Type 0
HasWindows config lines = (m : ℕ) → m < config.lines →
    slice_index_or (windows_in lines) m [] ≡ slice_index_or config.windows m []

-- the sink has taken nothing
pub record IsNewSink (config : Config) (sink : Core) : Type 0 where
  pub lines : sink.lines ≡ config.lines
  pub size : sink.size ≡ config.size
  pub options : sink.options ≡ config.options
  pub taken : sink.taken ≡ 0
  pub stands : (cells : List (List Cell)) → length cells ≡ config.lines → HasTaken sink cells

-- the send rings have a place for each line
pub record AreRings (count : ℕ) (sent : List (Vec (Box Container))) : Type 0 where
  pub places : length sent ≡ 32
  pub lines : All (λ (frame : Vec (Box Container)). length frame.items ≡ count) sent

-- no cell of any line was gathered
pub record IsNewGather (count : ℕ) (gather : Gather) : Type 0 where
  pub gathers : Gathers gather (replicate count [])
  pub lines : line_count gather ≡ count
  pub rows : gather.rows ≡ 0

-- all of these
pub record IsNew (config : Config) (opened : Opened) : Type 0 where
  pub source : IsUnusedOn config opened.ends.source
  pub sink : IsNewSink config opened.ends.sink
  pub sent : AreRings config.lines opened.paths.sent.items
  pub lines : AreOpened config config.lines opened.paths.lines.items
  pub rows : IsNewGather config.lines opened.rows

-- a leg over a network, whose return packets may be lost in some other way and whose lines be damaged in some other way,
-- whatever lands in it and whatever its packets tell
pub record IsAlike (leg : Leg) (config : Config) : Type 0 where
  pub sound : IsSound leg
  pub network : leg.config ≡ record config { lost = leg.config.lost; windows = leg.config.windows }
