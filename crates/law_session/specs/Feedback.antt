-- G.7042, what the source may conclude from a return packet.
use Rattle.std.specs.Prelude.{◌≡◌, ℕ, ◌+◌, ◌%◌, ◌<◌, ◌≤◌, Bool, true, false, List, map, Option, Some, None}
use Rattle.std.specs.Prelude.{slice_get, slice_index_or}
use Rattle.law_model.specs.Common.{Scenario, is_heard, is_lost, Table, Told, after, table_of, said, status}
use Rattle.law_model.specs.Common.{is_line_up, return_packet, word}
use Rattle.law_model.specs.declared.lcas_states.Member.{Member}

-- the lines of an order, by SQ
abbrev pub lines_of : List Member → List ℕ
lines_of order = map (λ member. member.line) order

-- the table before decision step j
abbrev pub table_before : Scenario → List (Option Told) → ℕ → Table
table_before scenario cells j = (after scenario cells j).table

-- step j takes return packet k, which isn't lost
pub record Takes (scenario : Scenario) (cells : List (Option Told)) (j k : ℕ) (told : Told) : Type 0 where
  pub lag : 0 < scenario.lag
  pub later : j ≡ k + scenario.lag
  pub cell : slice_index_or cells k None ≡ Some told

-- by its one bit a return packet acknowledges the change that is out as step j begins
abbrev pub Acknowledges : Scenario → List (Option Told) → ℕ → Told → Type 0
Acknowledges scenario cells j told = told.rs_ack ≡ (table_before scenario cells j).count % 2

-- return packet k tells of the very count of the table before step j
abbrev pub TellsOf : Scenario → List (Option Told) → ℕ → ℕ → Type 0
TellsOf scenario cells j k = said scenario cells k ≡ (table_before scenario cells j).count

-- the lines have before step j the SQs that they have in packet k
abbrev pub SameLines : Scenario → List (Option Told) → ℕ → ℕ → Type 0
SameLines scenario cells j k = lines_of (table_before scenario cells j).order ≡ lines_of
    (table_of scenario cells k).order

-- packets that are heard from one on up to another have its change bit
abbrev pub HaveOneChg : Scenario → List (Option Told) → ℕ → ℕ → Type 0
HaveOneChg scenario cells from k = (j : ℕ) → from ≤ j → j ≤ k → is_heard scenario j ≡ true →
    (table_of scenario cells j).count % 2 ≡ (table_of scenario cells from).count % 2

-- the line that has an SQ before step j is up at packet k, and by what it said last up to there it had this SQ
pub record SpokeLast (scenario : Scenario) (cells : List (Option Told)) (j k sq : ℕ) : Type 0 where
  pub line : ℕ
  pub up : is_line_up scenario line k ≡ true
  pub last : ℕ
  pub word : word scenario cells line k ≡ Some last
  pub had : slice_get (lines_of (table_of scenario cells last).order) sq ≡ Some line
  pub has : slice_get (lines_of (table_before scenario cells j).order) sq ≡ Some line

-- a status that step j acts on was said in a return packet that wasn't lost, and that this step or one before it has
-- taken. It tells of the very count of the table before step j, and in its table the same lines had the same SQs. One
-- that is OK was said of the very line that has the SQ, by what this line said last
pub record WasSaid (scenario : Scenario) (cells : List (Option Told)) (j sq : ℕ) (ok : Bool) : Type 0 where
  pub packet : ℕ
  pub taken : packet + scenario.lag ≤ j
  pub come : slice_index_or cells packet None ≡ Some (return_packet scenario cells packet)
  pub kept : is_lost scenario packet ≡ false
  pub whole : TellsOf scenario cells j packet
  pub says : status scenario cells packet sq ≡ ok
  pub lines : SameLines scenario cells j packet
  pub spoke : ok ≡ true → SpokeLast scenario cells j packet sq
