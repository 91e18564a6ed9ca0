-- Worked rows, computed: five lines, of which lines 3, 0, 2 and 1 have SQ 0 to 3 in NORM, DNU, NORM and ADD, and line 4
-- is IDLE; and three lines, of which packet 1 is read of the first alone.
use Rattle.std.specs.Prelude.{ℕ, ◌==◌, not, Bool, true, false, List, [], ◌∷◌, map, Option, Some, None, option_map}
use Rattle.law_model.specs.Common.{Ctrl, Eos, member_of, Table, none_kept, forward_packet, untold, Row, active_of}
use Rattle.law_model.specs.Common.{packets_from, carriers_of, default_options}
use Rattle.law_model.specs.declared.control_packet.Packet.{Packet}
use Rattle.member_cells.specs.declared.control_word.Ctrl.TheVariants.{Norm, Idle, Dnu}
use Rattle.law_model.specs.declared.lcas_states.Standing.TheVariants.{Add as adding, Norm as normal, Dnu as unused}

abbrev pub five : Table
five = record {
  order = member_of 3 normal ∷ member_of 0 unused ∷ member_of 2 normal ∷ member_of 1 adding ∷ [];
  leaving = None;
  count = 7;
  acknowledged = true;
  statuses = none_kept;
}

-- the control words and SQ that the lines send
abbrev pub sent : List (Ctrl × ℕ)
sent = map (λ line. ((forward_packet five line 0).ctrl, (forward_packet five line 0).sq)) (0 ∷ 1 ∷ 2 ∷ 3 ∷ 4 ∷ [])

-- the lines that carry payload by the packets that are read
abbrev pub active_read : (ℕ → Bool) → List ℕ
active_read readable = active_of (packets_from 5 untold five 0 readable)

abbrev pub all_but : ℕ → ℕ → Bool
all_but other line = not (line == other)

-- packets of one number, by the ACT and change bit that they say, and their control words and SQ
abbrev pub packet_saying : ℕ → Bool → Ctrl × ℕ → Packet
packet_saying act chg said = record {
  mst = 0;
  rs_ack = false;
  chg = chg;
  sq = said.1;
  mfi2 = 0;
  ctrl = said.0;
  gid = false;
  act = act;
}

abbrev pub row_saying : ℕ → Bool → List (Option (Ctrl × ℕ)) → Row
row_saying act chg said = map (option_map (packet_saying act chg)) said

-- the lines that carry payload by packets 1, of which the first line's alone is read: by whether the sink goes on, by the
-- ACT and change bit that it says, and by what the other lines said last
abbrev pub carriers_after : Bool → ℕ → Bool → List (Ctrl × ℕ) → Option (List ℕ)
carriers_after infers act chg others =
    carriers_of (record default_options { infers = infers })
    (row_saying act false (Some (Norm, 0) ∷ map Some others)
    ∷ row_saying act chg (Some (Norm, 0) ∷ map (λ said. None) others) ∷ []) 1

-- the second line carries payload, and the third is idle, in DNU, or carries payload too
abbrev pub beside_idle : List (Ctrl × ℕ)
beside_idle = (Eos, 1) ∷ (Idle, 255) ∷ []

abbrev pub beside_unused : List (Ctrl × ℕ)
beside_unused = (Eos, 1) ∷ (Dnu, 2) ∷ []

abbrev pub both_carrying : List (Ctrl × ℕ)
both_carrying = (Norm, 1) ∷ (Eos, 2) ∷ []
