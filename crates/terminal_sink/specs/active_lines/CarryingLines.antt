-- How many lines carry payload by the packets that are read.
use Rattle.std.specs.Prelude.{ℕ, ◌+◌, Bool, false, if◌then◌else◌, List, [], ◌∷◌, Option, Some, None}
use Rattle.law_model.specs.Common.{is_carrying}
use Rattle.law_model.specs.declared.control_packet.Packet.{Packet}

-- a packet says that its line carries payload
abbrev pub carries : Option Packet → Bool
carries None = false
carries (Some packet) = is_carrying packet.ctrl

-- how many do
abbrev pub carrying : List (Option Packet) → ℕ
carrying [] = 0
carrying (packet ∷ packets) = if carries packet then 1 + carrying packets else carrying packets

-- the number of active members that a packet says
abbrev pub act_of : Option Packet → Option ℕ
act_of None = None
act_of (Some packet) = Some packet.act
