-- The mark of a segment: how many of its octets have come while nothing is confirmed, or the place that was confirmed
-- first.
use Rattle.std.specs.Prelude.{◌≡◌, ℕ, ◌+◌, ◌-◌, ◌^◌, ◌<◌, nat_lt, if◌then◌else◌, Bool, true, false, List, ◌++◌, length}
use Rattle.std.specs.Prelude.{Option, Some, None, option_map}
use Rattle.law_model.specs.Common.{Confirmed, hunt, Outcome, outcomes}
use Rattle.gfp_delineate.specs.declared.delineator.Step.{Step}
use Rattle.gfp_delineate.specs.Receiver.{Receiver}
use Rattle.gfp_delineate.specs.Receiver as receiver
use Rattle.terminal_sink.specs.declared.marked_delineator.Mark.{Mark}
use Rattle.terminal_sink.specs.declared.marked_delineator.Mark.TheVariants.{Hunting, Confirms}

-- the place that is confirmed first in octets of a segment
abbrev pub first_place : List ℕ → Option ℕ
first_place octets = option_map (λ (found : Confirmed). found.place) (hunt true 0 octets)

-- a mark is that of octets
abbrev pub IsMark : Mark → List ℕ → Type 0
IsMark (Hunting come) octets = (hunt true 0 octets ≡ None) × (come ≡ length octets)
IsMark (Confirms place) octets = first_place octets ≡ Some place

-- it is, while the octets can be counted
abbrev pub HasMark : Mark → List ℕ → Type 0
HasMark mark octets = length octets < 2 ^ 64 → IsMark mark octets

abbrev pub is_hunting : Mark → Bool
is_hunting (Hunting come) = true
is_hunting (Confirms place) = false

-- with one more octet, after which the state is SYNC or not: SYNC begins with the last of the four octets of the header
-- that confirms
abbrev pub next_mark : Mark → Bool → Mark
next_mark (Hunting come) true = Confirms (come - 3)
next_mark (Hunting come) false = Hunting (if nat_lt come (2 ^ 64 - 1) then come + 1 else come)
next_mark (Confirms place) synced = Confirms place

-- a receiver, and the mark of its segment
pub record Marked : Type 0 where
  pub receiver : Receiver
  pub mark : Mark

-- the frame that the last octet completed
abbrev pub frame_of : Marked → Option (List ℕ)
frame_of marked = receiver.frame_of marked.receiver

-- in SYNC, where a header is due, those of its octets that have come
abbrev pub header_begun : Marked → Option (List ℕ)
header_begun marked = receiver.header_begun marked.receiver

abbrev pub told_outcomes : Marked → Step → List Outcome
told_outcomes marked step = receiver.told_outcomes marked.receiver step

-- these octets of a segment have come, which is the first one of its stream or a later one, and the mark is theirs
abbrev pub StandsIn : Marked → ℕ → Bool → List ℕ → Type 0
StandsIn marked longest first octets = receiver.StandsIn marked.receiver longest first octets ×
    HasMark marked.mark octets

-- whatever octets of a segment came before, these came after them
abbrev pub Advances : Marked → Marked → List ℕ → Type 0
Advances was now more = (longest : ℕ) (first : Bool) (octets : List ℕ) → StandsIn was longest first octets →
    StandsIn now longest first (octets ++ more)

-- whatever octets of a segment came before, these bring these outcomes after them
abbrev pub Brings : Marked → List ℕ → List Outcome → Type 0
Brings was more come = (longest : ℕ) (first : Bool) (octets : List ℕ) → StandsIn was longest first octets →
    outcomes longest first (octets ++ more) ≡ outcomes longest first octets ++ come
