-- G.7042, what the control packets of a session tell the other way of a pair: the member status (MST) and the RS-Ack
-- that the terminal which sends them has to say of that way.
use Rattle.std.specs.Prelude.{ℕ, ◌==◌, not, Bool, true, List, [], map, Option, Some, None, slice_index_or}
use Rattle.std.specs.List.{range_with_len}
use Rattle.check_remainder.specs.Bits.{number}
use Rattle.law_model.specs.declared.control_packet.Packet.{Packet}
use Rattle.law_model.specs.session.Scenario.{Scenario}
use Rattle.law_model.specs.source.Table.{Told}
use Rattle.law_model.specs.packets.ToldToSource.{told_by}
use Rattle.law_model.specs.source.Source.{table_of}
use Rattle.law_model.specs.packets.Forward.{forward_packet}

-- nothing to tell: MST and RS-Ack are 0
abbrev pub untold : Told
untold = record { rs_ack = 0; oks = [] }

-- what packet k tells. Beyond the end of what is told there is nothing to tell
abbrev pub telling_at : Scenario → ℕ → Told
telling_at scenario k = slice_index_or scenario.tells k untold

-- eight statuses as they are sent: OK is 0, and the first status stands in the most significant bit. One that isn't
-- told is 0
abbrev pub mst_by : List Bool → ℕ
mst_by oks = number (map (λ place. not (slice_index_or oks place true)) (range_with_len 0 8))

-- a packet that tells this
abbrev pub telling : Told → Packet → Packet
telling told packet = record {
  mst = mst_by told.oks;
  rs_ack = told.rs_ack == 1;
  chg = packet.chg;
  sq = packet.sq;
  mfi2 = packet.mfi2;
  ctrl = packet.ctrl;
  gid = packet.gid;
  act = packet.act;
}

-- what is told where a return packet is passed on, or none
abbrev pub passed_on : Option Packet → Told
passed_on None = untold
passed_on (Some packet) = told_by packet

-- control packet k of a line, as it is sent
abbrev pub sent_packet : Scenario → List (Option Told) → ℕ → ℕ → Packet
sent_packet scenario cells line k = telling (telling_at scenario k) (forward_packet (table_of scenario cells k) line k)
