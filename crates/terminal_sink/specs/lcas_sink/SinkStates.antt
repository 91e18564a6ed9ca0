-- What a sink's table knows after rows of packets.
use Rattle.std.specs.Prelude.{◌≡◌, ℕ, ◌-◌, ◌==◌, Bool, List, length, nat_lt, if◌then◌else◌, Option, None}
use Rattle.std.specs.Prelude.{slice_index_or}
use Rattle.law_model.specs.Common.{Row, ack_of, carriers_of, state_next, sink_state}
use Rattle.law_model.specs.declared.lcas_states.SinkState.{SinkState}
use Rattle.law_model.specs.declared.lcas_states.SinkState.TheVariants.{Idle}
use Rattle.law_model.specs.declared.script_types.Options.{Options}
use Rattle.terminal_sink.specs.declared.member_watch.MemberWatch.{MemberWatch}
use Rattle.terminal_sink.specs.member_watch.Watches.{AreWatched}

-- how many lines there are; the options; how many rows were taken; the change bit to acknowledge; the state of each
-- line; the timers of each, with what it said last; and the lines that carry payload by the last row, where that is
-- known
pub record Sink : Type 0 where
  pub lines : ℕ
  pub options : Options
  pub taken : ℕ
  pub ack : Bool
  pub states : List SinkState
  pub watches : List MemberWatch
  pub carriers : Option (List ℕ)

-- the state of a line, which is idle where there is no such line
abbrev pub state_at : List SinkState → ℕ → SinkState
state_at states line = slice_index_or states line Idle

-- the lines that carry payload by the last of some rows
abbrev pub last_carriers : Options → List Row → Option (List ℕ)
last_carriers options rows = if 0 == length rows then None else carriers_of options rows (length rows - 1)

-- these rows were taken
pub record SinkTableStands (sink : Sink) (rows : List Row) : Type 0 where
  pub taken : sink.taken ≡ length rows
  pub ack : sink.ack ≡ ack_of rows
  pub states : (line : ℕ) → state_at sink.states line ≡ sink_state rows line
  pub watches : AreWatched sink.options rows sink.lines sink.watches
  pub carriers : sink.carriers ≡ last_carriers sink.options rows

-- the state of a line after the packets of the first lines of a row
abbrev pub state_upto : ℕ → List SinkState → Row → ℕ → SinkState
state_upto count states row line =
    if nat_lt line count then state_next (state_at states line) (slice_index_or row line None) else state_at states line

abbrev pub state_after : List SinkState → Row → ℕ → SinkState
state_after states row line = state_upto (length row) states row line
