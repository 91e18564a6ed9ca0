-- How many frames wait, told at the end of a pass that changed it, and what whoever says the frames reckons by that: how
-- many more may be said. The text is this project's own.
use Rattle.std.specs.Prelude.{◌≢◌, ℕ, ◌+◌, ◌&&◌, ◌==◌, nat_le, List, [], ◌∷◌, ◌++◌, length, flat_map, codes, decimal}
use Rattle.std.specs.Prelude.{if◌then◌else◌}
use Rattle.law_model.specs.Common.{Leg, Counts, begin}
use Rattle.law_model.specs.declared.script_types.ItemKind.{ItemKind}
use Rattle.law_walk.specs.Common.{is_client, walk_plan}
use Rattle.law_live.specs.LiveSayings.{Saying, lands, cuts, mends, passes}
use Rattle.law_live.specs.LiveCounts.{counts_said}
use Rattle.law_live.specs.LiveAnswers.{Answer, refused_item, step_made, got_at, queue_at, now_at, answers_to}

-- ---- its lines
-- a number, where it isn't the one before
abbrev pub changed_number : ℕ → ℕ → List ℕ
changed_number was now = if now == was then [] else now ∷ []

abbrev pub queue_text : ℕ → List ℕ
queue_text waiting = codes "queue " ++ decimal waiting ++ codes "\n"

abbrev pub queue_texts : List ℕ → List ℕ
queue_texts numbers = flat_map queue_text numbers

-- ---- of all passes that are answered
abbrev pub queue_of : Answer → List ℕ
queue_of (refused_item number why) = []
queue_of (step_made j) = []
queue_of (got_at ticks frame) = []
queue_of (queue_at was now) = changed_number was now
queue_of (now_at ticks) = []

abbrev pub queues_told : List Answer → List ℕ
queues_told told = flat_map queue_of told

-- the last of numbers behind a first one
unfoldable pub last_number : ℕ → List ℕ → ℕ
last_number was [] = was
last_number was (number ∷ numbers) = last_number number numbers

-- each is another one than the one before
unfoldable pub AreOthers : ℕ → List ℕ → Type 0
AreOthers was [] = Unit {0}
AreOthers was (number ∷ numbers) = (number ≢ was) × AreOthers number numbers

-- ---- what whoever says the frames reckons
-- the number that was told last, and how many frames were said since the last pass and not refused
pub record Reckoned : Type 0 where
  pub queue : ℕ
  pub since : ℕ

-- a frame is accepted where nothing is answered to it
abbrev pub accepted_one : ItemKind → List Answer → ℕ
accepted_one kind told = if is_client kind && nat_le (length told) 0 then 1 else 0

-- by one saying more, and what is answered to it
abbrev pub reckoned_to : Saying → List Answer → Reckoned → Reckoned
reckoned_to (lands kind) told was = record was { since = was.since + accepted_one kind told }
reckoned_to (cuts m) told was = was
reckoned_to (mends m) told was = was
reckoned_to (passes k) told was = record { queue = last_number was.queue (queues_told told); since = 0 }

unfoldable pub reckoned_from : Leg → Counts → Reckoned → List Saying → Reckoned
reckoned_from leg s was [] = was
reckoned_from leg s was (saying ∷ said) =
    reckoned_from leg (counts_said (walk_plan leg) s saying) (reckoned_to saying (answers_to leg s saying) was) said

-- at first none waits
abbrev pub reckoned : Leg → List Saying → Reckoned
reckoned leg said = reckoned_from leg (begin (walk_plan leg)) (record { queue = 0; since = 0 }) said
