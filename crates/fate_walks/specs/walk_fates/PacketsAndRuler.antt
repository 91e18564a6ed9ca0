-- The packets of a walk and the places of its frames, as private clauses say it.
use Rattle.std.specs.Prelude.{◌≡◌, ℕ, length}
use Rattle.law_model.specs.Common.{Leg, scenario_by, steps_in, stream_before}
use Rattle.law_walk.specs.Common.{session_of}
use Rattle.fate_engine.specs.Common.{Ruler, ruler_of, PacketList, ArePackets}

-- the packets are those whose decision steps some ticks made
pub record Governs (leg : Leg) (ticks : ℕ) (packets : PacketList) : Type 0 where
  pub are : ArePackets (scenario_by leg) (session_of leg) packets
  pub steps : length packets.active ≡ steps_in ticks

-- the ruler is that of the stream before a tick is made
abbrev pub Rules : Leg → ℕ → Ruler → Type 0
Rules leg ticks ruler = ruler ≡ ruler_of (stream_before (scenario_by leg) (session_of leg) ticks)
