-- What is answered to what is said: an item that is refused is told at once, and of ticks that pass the decision steps,
-- the frames that come out, each with the ticks made by then, and how many have passed. These texts are this project's
-- own.
use Rattle.std.specs.Prelude.{ℕ, zero, suc, ◌+◌, ◌*◌, ◌≤◌, nat_lt, List, [], ◌∷◌, ◌++◌, length, map, flat_map}
use Rattle.std.specs.Prelude.{codes, decimal, Option, Some, None, if◌then◌else◌}
use Rattle.hex.specs.Hex.{encode_lower}
use Rattle.text_report.specs.ReportLines.{got_texts, refused_text, refused_texts, total_text}
use Rattle.law_model.specs.Common.{Leg, Counts, begin, scenario_by, steps_in, stream_before}
use Rattle.law_model.specs.declared.item_refusals.Refusal.{Refusal}
use Rattle.law_model.specs.declared.script_types.ItemKind.{ItemKind}
use Rattle.law_walk.specs.Common.{Numbered, refusal_at, session_of, totals_of, walk_plan}
use Rattle.law_walk.specs.DeliveredFrames.{delivered_since}
use Rattle.law_live.specs.LiveSayings.{Saying, lands, cuts, mends, passes, item_at}
use Rattle.law_live.specs.LiveCounts.{live_round, rounds_for, counts_said, live_counts}

-- an item, by its number, is refused; a decision step is made; in a tick a frame comes out; so many frames waited before a
-- pass, and so many wait behind it; so many ticks have passed
pub data Answer : Type 0 where
  refused_item : ℕ → Refusal → Answer
  step_made : ℕ → Answer
  got_at : ℕ → List ℕ → Answer
  queue_at : ℕ → ℕ → Answer
  now_at : ℕ → Answer

-- ---- an item
-- the one that is said after these counts: all before it have landed
abbrev pub next_item : Counts → ItemKind → Numbered
next_item s kind = record { number = s.frames + s.commands; item = item_at s.ticks kind }

abbrev pub refused_answer : ℕ → Option Refusal → List Answer
refused_answer number None = []
refused_answer number (Some why) = refused_item number why ∷ []

abbrev pub item_answers : Leg → Counts → ItemKind → List Answer
item_answers leg s kind = refused_answer (s.frames + s.commands) (refusal_at leg (next_item s kind))

-- ---- rounds
-- the decision step that was made from some ticks to others, at most one apart
abbrev pub steps_between : ℕ → ℕ → List Answer
steps_between was now = if nat_lt (steps_in was) (steps_in now) then step_made (steps_in was) ∷ [] else []

-- of a round, by the counts before and after it
abbrev pub round_answers : Leg → Counts → Counts → List Answer
round_answers leg was now =
    steps_between was.ticks now.ticks ++ map (got_at now.ticks) (delivered_since leg was.rows now.rows)

unfoldable pub rounds_answers : ℕ → Leg → Counts → List Answer
rounds_answers zero leg s = []
rounds_answers (suc n) leg s =
    round_answers leg s (live_round (walk_plan leg) s) ++ rounds_answers n leg (live_round (walk_plan leg) s)

-- ---- a pass
-- how many frames wait once so many ticks are made: those that landed before and were accepted, of which no octet is made
abbrev pub waiting_at : Leg → ℕ → ℕ
waiting_at leg ticks = length (stream_before (scenario_by leg) (session_of leg) ticks).waiting

-- by the ticks before and behind it
abbrev pub pass_ends : Leg → ℕ → ℕ → List Answer
pass_ends leg was now = queue_at (waiting_at leg was) (waiting_at leg now) ∷ now_at now ∷ []

abbrev pub pass_answers : Leg → Counts → ℕ → List Answer
pass_answers leg s k =
    rounds_answers (rounds_for k (walk_plan leg) s) leg s
    ++ pass_ends leg s.ticks (counts_said (walk_plan leg) s (passes k)).ticks

-- ---- one saying after another
abbrev pub answers_to : Leg → Counts → Saying → List Answer
answers_to leg s (lands kind) = item_answers leg s kind
answers_to leg s (cuts m) = []
answers_to leg s (mends m) = []
answers_to leg s (passes k) = pass_answers leg s k

unfoldable pub answers_from : Leg → Counts → List Saying → List Answer
answers_from leg s [] = []
answers_from leg s (saying ∷ said) =
    answers_to leg s saying ++ answers_from leg (counts_said (walk_plan leg) s saying) said

abbrev pub answers : Leg → List Saying → List Answer
answers leg said = answers_from leg (begin (walk_plan leg)) said

-- ---- what they tell
abbrev pub got_of : Answer → List (List ℕ)
got_of (refused_item number why) = []
got_of (step_made j) = []
got_of (got_at ticks frame) = frame ∷ []
got_of (queue_at was now) = []
got_of (now_at ticks) = []

abbrev pub refusal_of : Answer → List (ℕ × Refusal)
refusal_of (refused_item number why) = (number, why) ∷ []
refusal_of (step_made j) = []
refusal_of (got_at ticks frame) = []
refusal_of (queue_at was now) = []
refusal_of (now_at ticks) = []

abbrev pub step_of : Answer → List ℕ
step_of (refused_item number why) = []
step_of (step_made j) = j ∷ []
step_of (got_at ticks frame) = []
step_of (queue_at was now) = []
step_of (now_at ticks) = []

abbrev pub time_of : Answer → List ℕ
time_of (refused_item number why) = []
time_of (step_made j) = (16 * j + 9) ∷ []
time_of (got_at ticks frame) = ticks ∷ []
time_of (queue_at was now) = []
time_of (now_at ticks) = ticks ∷ []

-- the frames that came out, the items that were refused, the decision steps, and the ticks that were made by then
abbrev pub frames_got : List Answer → List (List ℕ)
frames_got told = flat_map got_of told

abbrev pub items_refused : List Answer → List (ℕ × Refusal)
items_refused told = flat_map refusal_of told

abbrev pub steps_made : List Answer → List ℕ
steps_made told = flat_map step_of told

abbrev pub times_told : List Answer → List ℕ
times_told told = flat_map time_of told

-- numbers that never fall, from one on and up to another
unfoldable pub Rises : ℕ → ℕ → List ℕ → Type 0
Rises from to [] = from ≤ to
Rises from to (t ∷ times) = (from ≤ t) × Rises t to times

-- ---- their lines
abbrev pub got_at_text : ℕ → List ℕ → List ℕ
got_at_text ticks frame = codes "got " ++ decimal ticks ++ codes " " ++ encode_lower frame ++ codes "\n"

abbrev pub now_text : ℕ → List ℕ
now_text ticks = codes "now " ++ decimal ticks ++ codes "\n"

-- what is told of a decision step, and of a pass, by how many frames wait before and behind it
pub record Telling : Type 0 where
  pub step : ℕ → List ℕ
  pub queue : ℕ → ℕ → List ℕ

abbrev pub answer_text : Telling → Answer → List ℕ
answer_text tells (refused_item number why) = refused_text number why
answer_text tells (step_made j) = tells.step j
answer_text tells (got_at ticks frame) = got_at_text ticks frame
answer_text tells (queue_at was now) = tells.queue was now
answer_text tells (now_at ticks) = now_text ticks

abbrev pub answers_text : Telling → List Answer → List ℕ
answers_text tells told = flat_map (answer_text tells) told

-- ---- at the end
-- the line of totals
abbrev pub last_text : Leg → List Saying → List ℕ
last_text leg said = total_text (totals_of leg (live_counts leg said))

-- a walk tells the frames, then the refused items, and then the totals
abbrev pub report_said : Leg → List Saying → List ℕ
report_said leg said =
    got_texts (frames_got (answers leg said)) ++ refused_texts (items_refused (answers leg said)) ++ last_text leg said
