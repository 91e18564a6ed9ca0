-- A pair of sessions: two groups, one each way, that tick together. What the sink of a way has to say of it goes in the
-- control packets of the other way, and is lost where no line of that way has a readable packet. So each way is a
-- session by itself: what it needs of the other way are the windows of that way's lines, and what is said there.
use Rattle.std.specs.Prelude.{◌≡◌, ℕ, suc, ◌+◌, ◌*◌, ◌≤◌, ◌==◌, not, Bool, if◌then◌else◌, List, [], ◌∷◌, ◌++◌, map}
use Rattle.std.specs.Prelude.{filter, replicate}
use Rattle.std.specs.List.{range_with_len}
use Rattle.law_model.specs.Common.{Leg, is_heard, scenario_by, scenario_of, Told, return_packet, session_cells, untold}
use Rattle.law_model.specs.Common.{IsValid}
use Rattle.law_model.specs.declared.script_types.Config.{Config}
use Rattle.law_model.specs.declared.script_types.Script.{Script}
use Rattle.law_model.specs.session.Scenario.{packets_in}

-- ---- what two scripts have to meet
-- no return packet of a script is lost by itself, and it says nothing of the order of events. A way has twice its lag,
-- and a lag is at most 512
pub record IsWay (script : Script) : Type 0 where
  pub valid : IsValid script
  pub near : script.config.lag ≤ 256
  pub lost : script.config.lost ≡ []
  pub events : script.events ≡ []

pub record IsPair (there back : Script) : Type 0 where
  pub there_way : IsWay there
  pub back_way : IsWay back
  pub lag : there.config.lag ≡ back.config.lag
  pub ticks : there.config.ticks ≡ back.config.ticks

-- ---- the network of a way
-- return packet k comes in packet k + lag of the other way: it is lost where no line of that way has it
abbrev pub is_unheard : Script → ℕ → Bool
is_unheard other k = not (is_heard (scenario_of other) (k + other.config.lag))

-- a packet in front of runs of later ones. A run has its first packet, and the one behind its last
abbrev pub run_then : ℕ → List (ℕ × ℕ) → List (ℕ × ℕ)
run_then k [] = (k, suc k) ∷ []
run_then k (run ∷ runs) = if run.0 == suc k then (k, run.1) ∷ runs else (k, suc k) ∷ run ∷ runs

-- the longest runs of packets in rising order
unfoldable pub runs_of : List ℕ → List (ℕ × ℕ)
runs_of [] = []
runs_of (k ∷ ks) = run_then k (runs_of ks)

-- those of some first return packets that are lost
abbrev pub unheard : Script → ℕ → List (ℕ × ℕ)
unheard other packets = runs_of (filter (is_unheard other) (range_with_len 0 packets))

-- a return packet needs the lag twice: until it is in a packet of the other way, and until that has come
abbrev pub way_config : Script → Script → Config
way_config script other = record {
  lines = script.config.lines;
  delays = script.config.delays;
  windows = script.config.windows;
  lost = unheard other (packets_in script.config.ticks);
  ring = script.config.ring;
  lag = 2 * script.config.lag;
  ticks = script.config.ticks;
  size = script.config.size;
  options = script.config.options;
}

-- ---- what its packets tell
-- a way with packets that tell this
abbrev pub way_telling : Script → Script → List Told → Leg
way_telling script other tells =
    record { config = way_config script other; items = script.items; tells = tells }

-- what the sink of a leg says of it, packet by packet
abbrev pub said_of : Leg → List Told
said_of leg =
    map (return_packet (scenario_by leg) (session_cells (scenario_by leg)))
    (range_with_len 0 (packets_in leg.config.ticks))

-- the packets of a way tell what is said of the other way, and the first ones, as many as the lag, tell nothing. What
-- is said of the other way doesn't depend on what its own packets tell
abbrev pub way_tells : Script → Script → List Told
way_tells script other = replicate script.config.lag untold ++ said_of (way_telling other script [])

-- ---- a way of a pair: that of a script, beside the other script
abbrev pub way_of : Script → Script → Leg
way_of script other = way_telling script other (way_tells script other)
