-- What became of each client item of a leg that has landed.
use Rattle.std.specs.Prelude.{ℕ, suc, Bool, true, false, List, [], ◌∷◌, length, map, filter, Option, Some, None}
use Rattle.std.specs.Prelude.{slice_get}
use Rattle.law_model.specs.Common.{Leg, Piece, StreamRow, Extent, extents, Counts}
use Rattle.law_model.specs.declared.script_types.ItemKind.{ItemKind}
use Rattle.law_model.specs.declared.item_refusals.Refusal.{Refusal}
use Rattle.law_model.specs.declared.script_types.ItemKind.TheVariants.{Frame, Add, Remove}
use Rattle.law_walk.specs.Common.{session_rows, Numbered, landed_items, refusal_at, session_pieces}
use Rattle.fate_engine.specs.declared.fate_law.Fate.{Fate}
use Rattle.fate_engine.specs.declared.fate_law.Fate.TheVariants.{Waits, Cut, Unconfirmed, Hunting, Unsettled, Got}
use Rattle.fate_engine.specs.fate_law.Fates.{fate_of, is_got}

-- a client item: its number, its due tick and its frame; why it is refused, or what became of it
pub data End : Type 0 where
  refused : Refusal → End
  accepted : Fate → End

pub record Ended : Type 0 where
  pub number : ℕ
  pub due : ℕ
  pub frame : List ℕ
  pub end : End

abbrev pub ended_by : Numbered → List ℕ → End → Ended
ended_by item frame end = record { number = item.number; due = item.item.due; frame = frame; end = end }

-- the fate of a frame where it has a piece; one that has none waits
abbrev pub fate_if : (Extent → Fate) → Option Extent → Fate
fate_if fate None = Waits
fate_if fate (Some extent) = fate extent

-- what became of the accepted frame with this number: the frames of the pieces are the accepted ones in their order,
-- and those that have no
-- piece come after them
abbrev pub fate_at : List Piece → List StreamRow → ℕ → Fate
fate_at pieces rows i = fate_if (fate_of pieces rows) (slice_get (extents 0 pieces) i)

-- an item, by why it is refused, in front of those after it, where so many frames were accepted before it
abbrev pub ended_then : (ℕ → Fate) → Numbered → Option Refusal → ItemKind → ℕ → (ℕ → List Ended) → List Ended
ended_then fate item (Some why) (Frame octets) i others = ended_by item octets (refused why) ∷ others i
ended_then fate item None (Frame octets) i others = ended_by item octets (accepted (fate i)) ∷ others (suc i)
ended_then fate item why (Add line) i others = others i
ended_then fate item why (Remove line) i others = others i

-- of items those of the client, by the fates of accepted frames
unfoldable pub ended_on : Leg → (ℕ → Fate) → List Numbered → ℕ → List Ended
ended_on leg fate [] i = []
ended_on leg fate (item ∷ items) i =
    ended_then fate item (refusal_at leg item) item.item.kind i (ended_on leg fate items)

-- after some rows, of items in their order
abbrev pub ended_among : Leg → ℕ → List Numbered → List Ended
ended_among leg rows items = ended_on leg (fate_at (session_pieces leg) (session_rows leg rows)) items 0

-- by the counts of a walk
abbrev pub ended_of : Leg → Counts → List Ended
ended_of leg s = ended_among leg s.rows (landed_items leg s)

-- ---- how many of each end there are
abbrev pub is_refused : End → Bool
is_refused (refused why) = true
is_refused (accepted fate) = false

abbrev pub has_got : End → Bool
has_got (refused why) = false
has_got (accepted fate) = is_got fate

abbrev pub does_wait : Fate → Bool
does_wait Waits = true
does_wait (Cut r q t) = false
does_wait (Unconfirmed r q) = false
does_wait (Hunting r q) = false
does_wait (Unsettled r q) = false
does_wait (Got r q) = false

abbrev pub has_waited : End → Bool
has_waited (refused why) = false
has_waited (accepted fate) = does_wait fate

abbrev pub count_of : (End → Bool) → List Ended → ℕ
count_of test all = length (filter (λ (ended : Ended). test ended.end) all)

-- the frames of those that are got, in item order
abbrev pub got_frames : List Ended → List (List ℕ)
got_frames all = map (λ (ended : Ended). ended.frame) (filter (λ (ended : Ended). has_got ended.end) all)
