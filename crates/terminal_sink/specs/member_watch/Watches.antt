-- What a sink keeps of a line after rows of packets: its timers, and what it said last.
use Rattle.std.specs.Prelude.{◌≡◌, ◌⊎◌, ℕ, zero, suc, ◌+◌, ◌<◌, ◌≤◌, ◌==◌, ◌&&◌, not, Bool, true, false, if◌then◌else◌}
use Rattle.std.specs.Prelude.{List, length, map, Option, Some, None, slice_index_or}
use Rattle.std.specs.List.{list_any, range_with_len}
use Rattle.check_remainder.specs.Bits.{number}
use Rattle.law_model.specs.Common.{Row, ack_by, ack_of, leader, is_member, is_same, is_up, has_packet, last_word}
use Rattle.law_model.specs.declared.control_packet.Packet.{Packet}
use Rattle.law_model.specs.declared.script_types.Options.{Options}
use Rattle.terminal_sink.specs.declared.member_watch.MemberTimers.{MemberTimers}
use Rattle.terminal_sink.specs.declared.member_watch.MemberWatch.{MemberWatch}

-- ---- timers
-- whether a line is up after a count of packets; before packet 0 it isn't
abbrev pub was_up : Options → (ℕ → Bool) → ℕ → Bool
was_up options read zero = false
was_up options read (suc k) = is_up options read k

-- where a test says which packets of a line were read: how many of those passed were read in turn at last, and how many
-- weren't. Neither is counted further than its timer
pub record TimersStand (options : Options) (read : ℕ → Bool) (passed : ℕ) (timers : MemberTimers) : Type 0 where
  pub read_last : (j : ℕ) → j < passed → passed ≤ j + timers.reads → read j ≡ true
  pub unread : timers.reads ≤ options.restore → (j : ℕ) × (j + timers.reads + 1 ≡ passed) × (read j ≡ false)
  pub missed_last : (j : ℕ) → j < passed → passed ≤ j + timers.misses → read j ≡ false
  pub heard : timers.misses ≤ options.holdoff →
      (timers.misses ≡ passed) ⊎ ((j : ℕ) × (j + timers.misses + 1 ≡ passed) × (read j ≡ true))
  pub within : timers.misses ≤ passed
  pub up : timers.is_up ≡ was_up options read passed

-- ---- what a line said last
abbrev pub word_before : List Row → ℕ → ℕ → Option Packet
word_before rows line zero = None
word_before rows line (suc k) = last_word rows line k

-- the SQ of a member's packet
abbrev pub sq_of : Option Packet → Option ℕ
sq_of None = None
sq_of (Some packet) = if is_member packet.ctrl then Some packet.sq else None

-- the leader of a row has another change bit than the last one before it
abbrev pub is_changed : List Row → Row → Bool
is_changed rows row = not (is_same (ack_by (ack_of rows) (leader row)) (ack_of rows))

pub record WatchStands (options : Options) (rows : List Row) (line : ℕ) (watch : MemberWatch) : Type 0 where
  pub timers : TimersStand options (has_packet rows line) (length rows) watch.timers
  pub said : watch.said ≡ sq_of (word_before rows line (length rows))

-- ---- all lines
abbrev pub watch_at : List MemberWatch → ℕ → MemberWatch
watch_at watches line =
    slice_index_or watches line (record { timers = record { reads = 0; misses = 0; is_up = false }; said = None })

abbrev pub AreWatched : Options → List Row → ℕ → List MemberWatch → Type 0
AreWatched options rows lines watches =
    (line : ℕ) → line < lines → WatchStands options rows line (watch_at watches line)

-- ---- statuses
abbrev pub has_said : Option ℕ → ℕ → Bool
has_said None sq = false
has_said (Some said) sq = said == sq

-- a line is up and said this SQ last
abbrev pub says : MemberWatch → ℕ → Bool
says watch sq = watch.timers.is_up && has_said watch.said sq

abbrev pub is_told : List MemberWatch → ℕ → Bool
is_told watches sq = list_any (λ watch. says watch sq) watches

-- the eight statuses from an SQ on: OK is 0, and that of the least SQ stands in the most significant bit
abbrev pub mst_by : List MemberWatch → ℕ → ℕ
mst_by watches first = number (map (λ sq. not (is_told watches sq)) (range_with_len first 8))
