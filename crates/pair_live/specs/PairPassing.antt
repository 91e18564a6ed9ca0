-- Rounds that a pair makes while ticks pass, and what is answered of them, as private clauses say it.
use Rattle.std.specs.Prelude.{◌≡◌, ℕ, ◌+◌, List, [], ◌∷◌, ◌++◌, flat_map, map}
use Rattle.law_model.specs.declared.script_types.Config.{Config}
use Rattle.law_model.specs.declared.script_types.Script.{Script}
use Rattle.law_walk.specs.DeliveredFrames.{delivered_since}
use Rattle.law_pair.specs.Common.{PairCounts, PairPlan, carries_on, counts_on, pair_plan, pair_run}
use Rattle.law_pair.specs.declared.pair_events.Way.{Way}
use Rattle.law_pair.specs.declared.pair_events.Way.TheVariants.{There, Back}
use Rattle.law_pair.specs.declared.pair_events.PairEvent.TheVariants.{Take}
use Rattle.law_live.specs.Common.{IsPairSaid, PairSaying, both_pass, both_passed, got_way_text, leg_on}
use Rattle.law_live.specs.Common.{pair_answers_text, pair_counts, script_on, steps_between, turn_answers, turn_both}
use Rattle.law_live.specs.Common.{turns_answers, turns_for, way_told}
use Rattle.walk_live.specs.declared.asked.Asked.{Asked}
use Rattle.pair_live.specs.declared.answered_pair.AnsweredPair.{AnsweredPair}
use Rattle.pair_live.specs.PairAnswered.{IsPairAnswered, numbers_on}
use Rattle.pair_live.specs.PairReplies.{pair_telling}

-- but for its pair it is the same
pub record IsOtherPair (was now : AnsweredPair) : Type 0 where
  pub there : now.there ≡ was.there
  pub back : now.back ≡ was.back
  pub tells : now.tells ≡ was.tells

-- it has as many lines as two scripts
abbrev pub HasLinesOf : AnsweredPair → Script → Script → Type 0
HasLinesOf pair one other = (way : Way) → (numbers_on pair way).lines ≡ (leg_on one other way).config.lines

-- ---- the parts of a round
-- all of it but its tick
abbrev pub finish_both : PairPlan → PairCounts → PairCounts
finish_both plan s =
    pair_run plan s (carries_on There 0 plan.there.paths
    ++ (carries_on Back 0 plan.back.paths ++ Take There ∷ Take Back ∷ []))

-- what is told of the decision step of a way that was made from some ticks to others, at most one apart
abbrev pub steps_text_on : Asked → Script → Script → Way → ℕ → ℕ → List ℕ
steps_text_on asked one other way was now =
    pair_answers_text (pair_telling asked one other) (map (way_told way) (steps_between was now))

abbrev pub both_steps_text : Asked → Script → Script → ℕ → ℕ → List ℕ
both_steps_text asked one other was now =
    steps_text_on asked one other There was now ++ steps_text_on asked one other Back was now

-- the lines of the frames of a way that come out, by the counts before and behind
abbrev pub frames_text_on : Script → Script → Way → PairCounts → PairCounts → List ℕ
frames_text_on one other way was now =
    flat_map (got_way_text way (counts_on now way).ticks)
    (delivered_since (leg_on one other way) (counts_on was way).rows (counts_on now way).rows)

abbrev pub both_frames_text : Script → Script → PairCounts → PairCounts → List ℕ
both_frames_text one other was now =
    frames_text_on one other There was now ++ frames_text_on one other Back was now

abbrev pub turn_text : Asked → Script → Script → PairCounts → List ℕ
turn_text asked one other s =
    pair_answers_text (pair_telling asked one other) (turn_answers one other s (turn_both (pair_plan one other) s))

-- ---- the rounds of a pass
-- so many ticks more may pass, up to a number of ticks
pub record CanPassBoth (pair : AnsweredPair) (asked : Asked) (there back : Config) (said : List PairSaying)
    (k until : ℕ) : Type 0 where
  pub is : IsPairAnswered pair asked there back said
  pub well : IsPairSaid there back (said ++ both_pass k ∷ [])
  pub ends : until ≡ both_passed there said + k

-- what is answered of them, of the scripts of which that is all
abbrev pub turns_text : Asked → Config → Config → List PairSaying → ℕ → List ℕ
turns_text asked there back said k =
    let one = script_on there There (said ++ both_pass k ∷ []) in
    let other = script_on back Back (said ++ both_pass k ∷ []) in
    let s = pair_counts one other said in
    pair_answers_text (pair_telling asked one other) (turns_answers (turns_for k (pair_plan one other) s) one other s)
