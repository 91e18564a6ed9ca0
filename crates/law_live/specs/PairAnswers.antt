-- What is answered to what is said of both ways: of one way, what a conversation with it answers, each with its way;
-- and how many ticks have passed, in both. These texts are this project's own.
use Rattle.std.specs.Prelude.{ℕ, zero, suc, List, [], ◌∷◌, ◌++◌, map, flat_map, codes, decimal}
use Rattle.hex.specs.Hex.{encode_lower}
use Rattle.text_report.specs.ReportLines.{refusal_text}
use Rattle.law_model.specs.Common.{Leg}
use Rattle.law_model.specs.declared.item_refusals.Refusal.{Refusal}
use Rattle.law_model.specs.declared.script_types.Script.{Script}
use Rattle.law_model.specs.declared.session_totals.Totals.{Totals}
use Rattle.law_walk.specs.Common.{totals_of}
use Rattle.law_walk.specs.DeliveredFrames.{delivered_since}
use Rattle.law_pair.specs.declared.pair_events.Way.{Way}
use Rattle.law_pair.specs.declared.pair_events.Way.TheVariants.{There, Back}
use Rattle.law_pair.specs.Pair.{way_of}
use Rattle.law_pair.specs.PairCounts.{PairCounts, counts_on, pair_begin}
use Rattle.law_pair.specs.PairWalk.{pair_plan}
use Rattle.law_live.specs.LiveAnswers.{Answer, refused_item, step_made, got_at, queue_at, now_at, item_answers}
use Rattle.law_live.specs.LiveAnswers.{steps_between}
use Rattle.law_live.specs.LiveAnswers.{Telling, now_text, time_of, waiting_at}
use Rattle.law_live.specs.LiveMembers.{MemberTold}
use Rattle.law_live.specs.LiveQueue.{Reckoned, reckoned_to}
use Rattle.law_live.specs.LiveSayings.{Saying}
use Rattle.law_live.specs.PairSayings.{PairSaying, lands_on, cuts_on, mends_on, both_pass, if_on, saying_on}
use Rattle.law_live.specs.PairSayingCounts.{turn_both, turns_for, both_said, pair_counts}

-- a way answers; or so many ticks have passed in both
pub data PairAnswer : Type 0 where
  way_told : Way → Answer → PairAnswer
  both_at : ℕ → PairAnswer

-- the session of a way
abbrev pub leg_on : Script → Script → Way → Leg
leg_on there back There = way_of there back
leg_on there back Back = way_of back there

-- ---- rounds
abbrev pub steps_told : Way → PairCounts → PairCounts → List PairAnswer
steps_told way was now = map (way_told way) (steps_between (counts_on was way).ticks (counts_on now way).ticks)

abbrev pub frames_told : Script → Script → Way → PairCounts → PairCounts → List PairAnswer
frames_told there back way was now =
    map (way_told way) (map (got_at (counts_on now way).ticks)
    (delivered_since (leg_on there back way) (counts_on was way).rows (counts_on now way).rows))

-- of a round, by the counts before and after it: the steps of both ways are made before a frame comes out
abbrev pub turn_answers : Script → Script → PairCounts → PairCounts → List PairAnswer
turn_answers there back was now =
    (steps_told There was now ++ steps_told Back was now)
    ++ (frames_told there back There was now ++ frames_told there back Back was now)

unfoldable pub turns_answers : ℕ → Script → Script → PairCounts → List PairAnswer
turns_answers zero there back s = []
turns_answers (suc n) there back s =
    turn_answers there back s (turn_both (pair_plan there back) s)
    ++ turns_answers n there back (turn_both (pair_plan there back) s)

-- ---- a pass
-- how many frames of a way wait before and behind it
abbrev pub queue_told : Script → Script → Way → PairCounts → PairCounts → PairAnswer
queue_told there back way was now =
    way_told way (queue_at (waiting_at (leg_on there back way) (counts_on was way).ticks)
    (waiting_at (leg_on there back way) (counts_on now way).ticks))

abbrev pub both_end : Script → Script → PairCounts → PairCounts → List PairAnswer
both_end there back was now =
    queue_told there back There was now ∷ queue_told there back Back was now ∷ both_at now.there.ticks ∷ []

-- ---- one saying after another
abbrev pub both_answer : Script → Script → PairCounts → PairSaying → List PairAnswer
both_answer there back s (lands_on way kind) =
    map (way_told way) (item_answers (leg_on there back way) (counts_on s way) kind)
both_answer there back s (cuts_on way m) = []
both_answer there back s (mends_on way m) = []
both_answer there back s (both_pass k) =
    turns_answers (turns_for k (pair_plan there back) s) there back s
    ++ both_end there back s (both_said (pair_plan there back) s (both_pass k))

unfoldable pub pair_answers_from : Script → Script → PairCounts → List PairSaying → List PairAnswer
pair_answers_from there back s [] = []
pair_answers_from there back s (saying ∷ said) =
    both_answer there back s saying ++ pair_answers_from there back (both_said (pair_plan there back) s saying) said

abbrev pub pair_answers : Script → Script → List PairSaying → List PairAnswer
pair_answers there back said = pair_answers_from there back (pair_begin (pair_plan there back)) said

-- ---- what they tell of a way
abbrev pub answer_on : Way → PairAnswer → List Answer
answer_on way (way_told of answer) = if_on way of answer
answer_on way (both_at ticks) = now_at ticks ∷ []

abbrev pub answers_on : Way → List PairAnswer → List Answer
answers_on way told = flat_map (answer_on way) told

-- the ticks that were made by then, of both ways
abbrev pub pair_time_of : PairAnswer → List ℕ
pair_time_of (way_told way answer) = time_of answer
pair_time_of (both_at ticks) = ticks ∷ []

abbrev pub pair_times : List PairAnswer → List ℕ
pair_times told = flat_map pair_time_of told

-- ---- what whoever says the frames of a way reckons
-- by what is said of it, at most once, and what it answers
abbrev pub reckoned_by : List Saying → List Answer → Reckoned → Reckoned
reckoned_by [] told was = was
reckoned_by (saying ∷ said) told was = reckoned_to saying told was

unfoldable pub both_reckoned_from : Way → Script → Script → PairCounts → Reckoned → List PairSaying → Reckoned
both_reckoned_from way there back s was [] = was
both_reckoned_from way there back s was (saying ∷ said) =
    both_reckoned_from way there back (both_said (pair_plan there back) s saying)
    (reckoned_by (saying_on way saying) (answers_on way (both_answer there back s saying)) was) said

abbrev pub both_reckoned : Script → Script → List PairSaying → Way → Reckoned
both_reckoned there back said way =
    both_reckoned_from way there back (pair_begin (pair_plan there back)) (record { queue = 0; since = 0 }) said

-- ---- their lines
abbrev pub way_word : Way → List ℕ
way_word There = codes "there"
way_word Back = codes "back"

abbrev pub refused_way_text : Way → ℕ → Refusal → List ℕ
refused_way_text way item why =
    codes "refused " ++ way_word way ++ codes " " ++ decimal item ++ codes " " ++ refusal_text why ++ codes "\n"

abbrev pub got_way_text : Way → ℕ → List ℕ → List ℕ
got_way_text way ticks frame =
    codes "got " ++ way_word way ++ codes " " ++ decimal ticks ++ codes " " ++ encode_lower frame ++ codes "\n"

abbrev pub member_way_text : Way → MemberTold → List ℕ
member_way_text way told =
    codes "member " ++ way_word way ++ codes " " ++ decimal told.ticks ++ codes " " ++ decimal told.line ++ codes " "
    ++ told.code ++ codes "\n"

abbrev pub queue_way_text : Way → ℕ → List ℕ
queue_way_text way waiting = codes "queue " ++ way_word way ++ codes " " ++ decimal waiting ++ codes "\n"

-- where this is told of each way
abbrev pub way_answer_text : Telling → Way → Answer → List ℕ
way_answer_text tells way (refused_item number why) = refused_way_text way number why
way_answer_text tells way (step_made j) = tells.step j
way_answer_text tells way (got_at ticks frame) = got_way_text way ticks frame
way_answer_text tells way (queue_at was now) = tells.queue was now
way_answer_text tells way (now_at ticks) = now_text ticks

abbrev pub pair_answer_text : (Way → Telling) → PairAnswer → List ℕ
pair_answer_text tells (way_told way answer) = way_answer_text (tells way) way answer
pair_answer_text tells (both_at ticks) = now_text ticks

abbrev pub pair_answers_text : (Way → Telling) → List PairAnswer → List ℕ
pair_answers_text tells told = flat_map (pair_answer_text tells) told

-- ---- at the end
abbrev pub total_way_text : Way → Totals → List ℕ
total_way_text way totals =
    codes "total " ++ way_word way ++ codes " ticks " ++ decimal totals.ticks ++ codes " taken " ++ decimal totals.taken
    ++ codes " frames " ++ decimal totals.frames ++ codes " commands " ++ decimal totals.commands ++ codes " refused "
    ++ decimal totals.refused ++ codes " got " ++ decimal totals.got ++ codes "\n"

-- the totals of a way, and both lines of totals
abbrev pub totals_on : Script → Script → List PairSaying → Way → Totals
totals_on there back said way = totals_of (leg_on there back way) (counts_on (pair_counts there back said) way)

abbrev pub last_pair_text : Script → Script → List PairSaying → List ℕ
last_pair_text there back said =
    total_way_text There (totals_on there back said There) ++ total_way_text Back (totals_on there back said Back)
