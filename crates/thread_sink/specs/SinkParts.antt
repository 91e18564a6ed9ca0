-- The parts of a sink over rings, and what a step does to them.
use Rattle.std.specs.Prelude.{◌≡◌, ℕ, ◌%◌, ◌<◌, ◌≤◌, ◌⊎◌, List, ◌++◌, length, Some, None}
use Rattle.law_model.specs.Common.{one_more, Cell, BackCell, first_open, Start}
use Rattle.law_line.specs.StableRows.{IsLonger}
use Rattle.member_rows.specs.realign_rows.Gather.{Gather, line_count, GatherStands as Gathers}
use Rattle.terminal_sink.specs.sink_core.Core.{Core, SinkStands}
use Rattle.terminal_sink.specs.sink_core.TakenAndGiven.{added_frames}
use Rattle.thread_rings.specs.EndsOfRing.{InEnd, OutEnd, out_passed, out_free, out_misses, SameOut}
use Rattle.thread_sink.specs.declared.burst_answers.SinkBurst.{SinkBurst}
use Rattle.thread_sink.specs.declared.burst_answers.SinkBurst.TheVariants.{Moved, Idle, Done}
use Rattle.thread_sink.specs.declared.burst_answers.SinkIdle.TheVariants.{Waiting, BackFull}
use Rattle.thread_sink.specs.ReceivedByRings.{received, popped, backs, AreSameIns, Missed}

-- the rows, the sink of them, the rings of the lines, and the return ring
pub record Parts : Type 0 where
  pub rows : Gather
  pub core : Core
  pub rx : List (InEnd Cell)
  pub back : OutEnd BackCell

abbrev pub parts : Gather → Core → List (InEnd Cell) → OutEnd BackCell → Parts
parts rows core rx back = record { rows = rows; core = core; rx = rx; back = back }

-- the parts stand where the cells that were popped have brought them, and the return packets of the rows taken were
-- sent
pub record Keeps (at : Parts) : Type 0 where
  pub gathers : Gathers at.rows (received at.rx)
  pub stands : SinkStands at.core (received at.rx)
  pub lines : line_count at.rows ≡ at.core.lines
  pub rings : length at.rx ≡ at.core.lines
  pub rows : at.rows.rows ≡ at.core.taken
  pub sent : out_passed at.back ≡ backs at.core.options (received at.rx) at.core.taken

-- the same parts, later
pub record Later (a b : Parts) : Type 0 where
  pub lines : b.core.lines ≡ a.core.lines
  pub size : b.core.size ≡ a.core.size
  pub options : b.core.options ≡ a.core.options
  pub taken : a.core.taken ≤ b.core.taken
  pub popped : popped (received a.rx) ≤ popped (received b.rx)
  pub longer : IsLonger (received a.rx) (received b.rx)
  pub ends : AreSameIns a.rx b.rx
  pub back : SameOut a.back b.back

-- a row was taken, or a cell popped
abbrev pub Progress : Parts → Parts → Type 0
Progress a b = (a.core.taken < b.core.taken) ⊎ (popped (received a.rx) < popped (received b.rx))

-- neither was
abbrev pub Rests : Parts → Parts → Type 0
Rests a b = (b.core ≡ a.core) × (received b.rx ≡ received a.rx)

-- a row makes a return packet, no slot for it was known to be free, and a look at the return ring missed
pub record IsFull (t : ℕ) (old new : OutEnd BackCell) : Type 0 where
  pub late : 22 < t
  pub last : t % 16 ≡ 7
  pub none : out_free old ≡ 0
  pub counted : out_misses new ≡ one_more (out_misses old)

-- what an answer says: a row was taken or a cell popped; or neither was, since the next row isn't decided on a line of
-- which no cell was
-- there; or since it is decided on each line and there was no slot for the return packet that it makes
abbrev pub Does : Parts → Parts → SinkBurst → Type 0
Does a b Moved = Progress a b
Does a b (Idle (Waiting line)) = Rests a b × (first_open (received a.rx) a.core.taken ≡ Some line) ×
    Missed a.rx b.rx line
Does a b (Idle BackFull) = Rests a b × (first_open (received a.rx) a.core.taken ≡ None) ×
    IsFull a.core.taken a.back b.back
Does a b Done = Rests a b

-- the frames of the rows taken were given, after whatever had been given before
abbrev pub Gives : {A : Type 0} → (A → Start → List (List ℕ) → Type 0) → A → A → Parts → Parts → Type 0
Gives stands_for old new a b = (start : Start) (frames : List (List ℕ)) → stands_for old start frames →
    stands_for new start (frames ++ added_frames b.core.options b.core.size (received b.rx) a.core.taken b.core.taken)
