-- What is seen of a walk turn by turn, as private clauses say it.
use Rattle.std.specs.Prelude.{◌≡◌, ◌⊎◌, ℕ, map, length}
use Rattle.std.specs.List.{range_with_len}
use Rattle.law_model.specs.Common.{Leg, scenario_by}
use Rattle.law_model.specs.session.Scenario.{packets_in}
use Rattle.law_walk.specs.Common.{session_of, session_rows}
use Rattle.fate_engine.specs.Common.{row_cause, AreRuns}
use Rattle.fate_engine.specs.fate_core.Segments.{SegmentsStand}
use Rattle.fate_walks.specs.walk_fates.PacketsAndRuler.{Governs}
use Rattle.fate_walks.specs.declared.walk_fates.seen_rows.SeenRows.{SeenRows}

-- the packets whose decision steps some ticks made, and the first rows of a leg's session; of each packet that ends
-- with one of these rows, whether the sink knows which lines carry payload under it
pub record Sees (leg : Leg) (ticks rows : ℕ) (seen : SeenRows) : Type 0 where
  pub packets : Governs leg ticks seen.packets
  pub known : length seen.packets.known ≡ packets_in rows
  pub segments : SegmentsStand seen.segments (session_rows leg rows)
  pub runs : AreRuns seen.runs (map (row_cause (scenario_by leg) (session_of leg)) (range_with_len 0 rows))

-- so far and no further, where memory is short on the way to so many ticks and rows: the segments are as they were, and
-- of the packets, of what the sink knows and of the runs each is as it was, or that of these ticks and rows
pub record SeesPart (leg : Leg) (ticks rows : ℕ) (was is : SeenRows) : Type 0 where
  pub segments : is.segments ≡ was.segments
  pub packets : (is.packets ≡ was.packets) ⊎ Governs leg ticks is.packets
  pub known : (is.packets.known ≡ was.packets.known) ⊎ (length is.packets.known ≡ packets_in rows)
  pub runs : (is.runs ≡ was.runs)
      ⊎ AreRuns is.runs (map (row_cause (scenario_by leg) (session_of leg)) (range_with_len 0 rows))
