-- What is known of a walk that was made, and what its items came to, as private clauses say it.
use Rattle.std.specs.Prelude.{◌≡◌, ℕ, ◌+◌, List, length, Option, Some, None}
use Rattle.law_model.specs.Common.{Leg, Counts, IsSound}
use Rattle.law_model.specs.declared.item_refusals.Refusal.{Refusal}
use Rattle.law_walk.specs.Common.{IsWalked, session_rows, session_pieces}
use Rattle.fate_engine.specs.Common.{End, refused, accepted, Ended, fate_at, is_refused, has_got, has_waited, count_of}
use Rattle.fate_engine.specs.Common.{segment_text, counted}
use Rattle.fate_engine.specs.declared.fate_law.RowSegment.{RowSegment}
use Rattle.fate_engine.specs.declared.fate_law.Fate.{Fate}
use Rattle.fate_walks.specs.walk_fates.PacketsAndRuler.{Rules}
use Rattle.fate_walks.specs.walk_fates.Seen.{Sees}
use Rattle.fate_walks.specs.declared.walk_fates.seen_rows.SeenWalk.{SeenWalk}
use Rattle.fate_walks.specs.declared.walk_fates.fates_report.EndedCount.{EndedCount}

-- what is known of a walk that was made
pub record SeesWalk (leg : Leg) (s : Counts) (seen : SeenWalk) : Type 0 where
  pub sound : IsSound leg
  pub walked : IsWalked leg s
  pub rows : Sees leg s.ticks s.rows seen.rows
  pub places : Rules leg s.ticks seen.ruler

-- the line of a segment of some rows
abbrev pub segment_in : Leg → ℕ → RowSegment → List ℕ
segment_in leg rows segment = segment_text (session_pieces leg) (session_rows leg rows) segment

-- the items whose lines were written, counted
pub record Counted (all : List Ended) (count : EndedCount) : Type 0 where
  pub items : length all ≡ count.frames + count.refused
  pub refused : count_of is_refused all ≡ count.refused
  pub got : count_of has_got all ≡ count.totals.got
  pub waits : count_of has_waited all ≡ count.totals.waits
  pub frames : count.frames ≡ count.totals.got + count.totals.lost + count.totals.waits

-- ---- item by item
-- what became of accepted frames after some rows
abbrev pub fates_in : Leg → ℕ → ℕ → Fate
fates_in leg rows = fate_at (session_pieces leg) (session_rows leg rows)

-- the end of a client item, by why it is refused, where so many were accepted before it
abbrev pub end_by : (ℕ → Fate) → Option Refusal → ℕ → End
end_by fate None i = accepted (fate i)
end_by fate (Some why) i = refused why

-- one more item of such an end
abbrev pub counted_end : EndedCount → End → EndedCount
counted_end count (refused why) = record { frames = count.frames; refused = count.refused + 1; totals = count.totals }
counted_end count (accepted fate) =
    record { frames = count.frames + 1; refused = count.refused; totals = counted count.totals fate }
