-- G.7042, what the source tells of a line: its state, and the control packet that goes forward.
use Rattle.std.specs.Prelude.{ℕ, ◌+◌, ◌%◌, ◌==◌, Bool, false, if◌then◌else◌, List, [], ◌∷◌, length, Option, Some, None}
use Rattle.std.specs.List.{list_any}
use Rattle.member_cells.specs.declared.control_word.Ctrl.{Ctrl}
use Rattle.member_cells.specs.declared.control_word.Ctrl.TheVariants.{Add, Norm, Eos, Idle, Dnu}
use Rattle.law_model.specs.declared.control_packet.Packet.{Packet}
use Rattle.law_model.specs.declared.lcas_states.Standing.{Standing}
use Rattle.law_model.specs.declared.lcas_states.Standing.TheVariants.{Add as adding, Norm as normal, Dnu as unused}
use Rattle.law_model.specs.declared.lcas_states.Member.{Member}
use Rattle.law_model.specs.declared.lcas_states.SourceState.{SourceState}
use Rattle.law_model.specs.declared.lcas_states.SourceState.TheVariants.{Idle as idle, Add as in_add, Norm as in_norm}
use Rattle.law_model.specs.declared.lcas_states.SourceState.TheVariants.{Dnu as in_dnu, Remove as in_remove}
use Rattle.law_model.specs.source.Table.{Table, is_normal, active}
use Rattle.law_model.specs.packets.GroupBit.{group_bit}

-- ---- the state of a line
abbrev pub state_by : Standing → SourceState
state_by adding = in_add
state_by normal = in_norm
state_by unused = in_dnu

-- a line that has no SQ is in REMOVE, where it is the one that leaves, and else idle
abbrev pub state_without : Option ℕ → ℕ → SourceState
state_without None line = idle
state_without (Some leaving) line = if leaving == line then in_remove else idle

unfoldable pub state_in : List Member → Option ℕ → ℕ → SourceState
state_in [] leaving line = state_without leaving line
state_in (member ∷ order) leaving line =
    if member.line == line then state_by member.standing else state_in order leaving line

abbrev pub state_of : Table → ℕ → SourceState
state_of table line = state_in table.order table.leaving line

-- ---- the packet of a line
-- the control word of a line by its standing, and by whether a line of a greater SQ is in NORM: the last one in NORM
-- says EOS
abbrev pub ctrl_by : Standing → Bool → Ctrl
ctrl_by adding more = Add
ctrl_by normal more = if more then Norm else Eos
ctrl_by unused more = Dnu

-- what a packet says of one line alone: its control word and its SQ
pub record LineFields : Type 0 where
  pub ctrl : Ctrl
  pub sq : ℕ

-- those of a line among the lines from an SQ on. A line that has none says IDLE and 255
unfoldable pub place_in : List Member → ℕ → ℕ → LineFields
place_in [] sq line = record { ctrl = Idle; sq = 255 }
place_in (member ∷ order) sq line =
    if member.line == line then record { ctrl = ctrl_by member.standing (list_any is_normal order); sq = sq }
    else place_in order (sq + 1) line

-- packet k of a line, where it tells the other way nothing: MST and RS-Ack are 0. MFI2 is that of the multiframe in
-- which it ends; CHG, ACT and GID are the same for all lines
abbrev pub forward_packet : Table → ℕ → ℕ → Packet
forward_packet table line k = record {
  mst = 0;
  rs_ack = false;
  chg = table.count % 2 == 1;
  sq = (place_in table.order 0 line).sq;
  mfi2 = (k + 1) % 256;
  ctrl = (place_in table.order 0 line).ctrl;
  gid = group_bit k;
  act = length (active table);
}
