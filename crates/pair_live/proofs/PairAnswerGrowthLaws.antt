-- What was answered to both ways stands in each pair of scripts in which the same was said, its lines too: more that is
-- said adds to it.
use Rattle.std.proofs.Common.{◌≡◌, ◌∙◌, ℕ, ◌+◌, ◌*◌, ◌<◌, zero, suc, List, [], ◌∷◌, ◌++◌, ap, ap₂, sym, subst}
use Rattle.std.proofs.Common.{arith, refl, All}
use Rattle.std.specs.List.{flat_map, range_with_len}
use Rattle.std.proofs.lemmas.Grind.{flat_map-append}
use Rattle.std.proofs.lemmas.List.Elements.{All-head, All-tail}
use Rattle.std.proofs.lemmas.List.FromFn.{get_or-range_with_len, length-range_with_len}
use Rattle.law_model.specs.Common.{Leg, steps_in, Table, after, scenario_by, state_of}
use Rattle.law_model.specs.declared.script_types.Config.{Config}
use Rattle.law_model.specs.declared.script_types.Script.{Script}
use Rattle.law_walk.specs.Common.{cell_taken, session_of, table_in}
use Rattle.law_pair.specs.declared.pair_events.Way.{Way}
use Rattle.law_pair.specs.declared.pair_events.Way.TheVariants.{There, Back}
use Rattle.law_pair.specs.Common.{counts_on, pair_begin, pair_plan}
use Rattle.law_live.specs.LiveAnswers.{Answer, Telling, refused_item, step_made, got_at, queue_at, now_at, steps_made}
use Rattle.law_live.specs.Common.{ArePairs, IsPairNetwork, IsPairSaid, PairAnswer, PairSaying, way_told, both_at}
use Rattle.law_live.specs.Common.{answers_on, both_passed, code_at, leg_on, member_code, now_text}
use Rattle.law_live.specs.Common.{pair_answer_text, pair_answers, pair_answers_from, pair_answers_text, pair_counts}
use Rattle.law_live.specs.Common.{member_way_text, script_on, told_among, way_answer_text}
use Rattle.law_live.proofs.BothWaysAnswerLaws.{answers-more, answers-steps}
use Rattle.law_live.proofs.BothWaysCountLaws.{pair-less, way-stands, well-less}
use Rattle.law_live.proofs.BothWaysSharedLaws.{pair-own, passed-both, said-pair, shared}
use Rattle.pair_live.specs.PairReplies.{pair_answered, pair_answered_since, pair_telling, step_way_text}
use Rattle.walk_live.specs.declared.asked.Asked.{Asked}
use Rattle.walk_live.specs.declared.asked.Asked.TheVariants.{Nothing, Steps, Members}

-- ---- lines of answers, where some decision steps of each way have the same
low_later : (n : ℕ) (answer : Answer) (told : List Answer) → All (λ j. j < n) (steps_made (answer ∷ told)) →
    All (λ j. j < n) (steps_made told)
low_later n (refused_item number why) told low = low
low_later n (step_made j) told low = All-tail (λ i. i < n) j (steps_made told) low
low_later n (got_at ticks frame) told low = low
low_later n (queue_at was now) told low = low
low_later n (now_at ticks) told low = low

same_answer : (tells other : Telling) (way : Way) (n : ℕ) (answer : Answer) (told : List Answer) →
    tells.queue ≡ other.queue → ((j : ℕ) → j < n → tells.step j ≡ other.step j) →
    All (λ j. j < n) (steps_made (answer ∷ told)) → way_answer_text tells way answer ≡ way_answer_text other way answer
same_answer tells other way n (refused_item number why) told queue same low = refl
same_answer tells other way n (step_made j) told queue same low =
    same j (All-head (λ i. i < n) j (steps_made told) low)
same_answer tells other way n (got_at ticks frame) told queue same low = refl
same_answer tells other way n (queue_at was now) told queue same low =
    ap (λ (line : ℕ → ℕ → List ℕ). line was now) queue
same_answer tells other way n (now_at ticks) told queue same low = refl

same_texts : (tells other : Way → Telling) (n : ℕ) (told : List PairAnswer) →
    ((way : Way) → (tells way).queue ≡ (other way).queue) →
    ((way : Way) (j : ℕ) → j < n → (tells way).step j ≡ (other way).step j) →
    All (λ j. j < n) (steps_made (answers_on There told)) → All (λ j. j < n) (steps_made (answers_on Back told)) →
    pair_answers_text tells told ≡ pair_answers_text other told
same_texts tells other n [] queue same there back = refl
same_texts tells other n (way_told There answer ∷ told) queue same there back =
    ap₂ (λ (x y : List ℕ). x ++ y)
    (same_answer (tells There) (other There) There n answer (answers_on There told) (queue There) (same There) there)
    (same_texts tells other n told queue same (low_later n answer (answers_on There told) there) back)
same_texts tells other n (way_told Back answer ∷ told) queue same there back =
    ap₂ (λ (x y : List ℕ). x ++ y)
    (same_answer (tells Back) (other Back) Back n answer (answers_on Back told) (queue Back) (same Back) back)
    (same_texts tells other n told queue same there (low_later n answer (answers_on Back told) back))
same_texts tells other n (both_at ticks ∷ told) queue same there back =
    ap (λ (text : List ℕ). now_text ticks ++ text) (same_texts tells other n told queue same there back)

range_low : (n : ℕ) → All (λ j. j < n) (range_with_len 0 n)
range_low n i d inside =
    let low : i < n = omega (arith, inside, length-range_with_len 0 n) in
    omega (arith, low, get_or-range_with_len 0 n i d low)

-- ---- the tables of a source by its decision steps
abbrev table_by : Leg → ℕ → Table
table_by leg n = (after (scenario_by leg) (session_of leg) n).table

first_same : (leg other : Leg) → table_by leg 0 ≡ table_by other 0
unfolding after
first_same leg other = refl

abbrev codes_in : Table → ℕ → List ℕ
codes_in table m = member_code (state_of table m)

-- ---- two pairs of scripts in which the same was said
module _ (there back : Config) (said : List PairSaying) (one other a b : Script)
    (are : ArePairs there back said one other a b)
  where
    abbrev passed : ℕ
    passed = both_passed there said

    ticks : (way : Way) → (counts_on (pair_counts one other said) way).ticks ≡ passed
    ticks There = (way-stands one other are.pair there back said are.well are.agrees There).ticks
    ticks Back =
        (way-stands one other are.pair there back said are.well are.agrees Back).ticks
        ∙ sym (passed-both there back said)

    steps_low : (way : Way) → All (λ j. j < steps_in passed) (steps_made (answers_on way (pair_answers one other said)))
    steps_low way =
        let made : steps_made (answers_on way (pair_answers one other said)) ≡ range_with_len 0 (steps_in passed) =
        answers-steps one other said way ∙ ap (λ n. range_with_len 0 (steps_in n)) (ticks way) in
        subst (All (λ j. j < steps_in passed)) (sym made) (range_low (steps_in passed))

    same_lines : (way : Way) → (leg_on one other way).config.lines ≡ (leg_on a b way).config.lines
    same_lines There =
        ap (λ (c : Config). c.lines) are.agrees.there_agrees.network
        ∙ sym (ap (λ (c : Config). c.lines) are.second_agrees.there_agrees.network)
    same_lines Back =
        ap (λ (c : Config). c.lines) are.agrees.back_agrees.network
        ∙ sym (ap (λ (c : Config). c.lines) are.second_agrees.back_agrees.network)

    -- the table that a step finds
    same_before : (way : Way) (j : ℕ) → j < steps_in passed →
        table_in (leg_on one other way) (16 * j + 8) ≡ table_in (leg_on a b way) (16 * j + 8)
    same_before way zero low = first_same (leg_on one other way) (leg_on a b way)
    same_before way (suc j) low =
        let same = (shared there back said one other a b are).ways way in
        let steps : steps_in (16 * suc j + 8) ≡ steps_in (16 * j + 9) = omega arith in
        ap (table_by (leg_on one other way)) steps ∙ same.tables j (omega (arith, low))
        ∙ sym (ap (table_by (leg_on a b way)) steps)

    -- what is told of a step, if it is told
    same_step : (asked : Asked) (way : Way) (j : ℕ) → j < steps_in passed →
        (pair_telling asked one other way).step j ≡ (pair_telling asked a b way).step j
    same_step Nothing way j low = refl
    same_step Steps way j low =
        let same = (shared there back said one other a b are).ways way in
        let leg : Leg = leg_on one other way in
        let other_leg : Leg = leg_on a b way in
        ap (λ cell. step_way_text way j cell (table_in leg (16 * j + 9)) leg.config.lines) (same.cells j low)
        ∙ ap (λ table. step_way_text way j (cell_taken other_leg j) table leg.config.lines) (same.tables j low)
        ∙ ap (λ n. step_way_text way j (cell_taken other_leg j) (table_in other_leg (16 * j + 9)) n) (same_lines way)
    same_step Members way j low =
        let same = (shared there back said one other a b are).ways way in
        let leg : Leg = leg_on one other way in
        let other_leg : Leg = leg_on a b way in
        ap (λ table. flat_map (member_way_text way) (told_among (16 * j + 9) (codes_in table)
        (code_at leg (16 * j + 9)) leg.config.lines)) (same_before way j low)
        ∙ ap (λ table. flat_map (member_way_text way) (told_among (16 * j + 9) (code_at other_leg (16 * j + 8))
        (codes_in table) leg.config.lines)) (same.tables j low)
        ∙ ap (λ n. flat_map (member_way_text way) (told_among (16 * j + 9) (code_at other_leg (16 * j + 8))
        (code_at other_leg (16 * j + 9)) n)) (same_lines way)

    pub same_answered : (asked : Asked) → pair_answered asked one other said ≡ pair_answered asked a b said
    same_answered asked =
        same_texts (pair_telling asked one other) (pair_telling asked a b) (steps_in passed)
        (pair_answers one other said) (λ way. refl) (same_step asked) (steps_low There) (steps_low Back)
        ∙ ap (pair_answers_text (pair_telling asked a b)) (shared there back said one other a b are).answers

-- ---- more is said
pub answered_before : (asked : Asked) (there back : Config) (said more : List PairSaying) → IsPairNetwork there back →
    IsPairSaid there back (said ++ more) →
    pair_answered asked (script_on there There (said ++ more)) (script_on back Back (said ++ more)) said
    ≡ pair_answered asked (script_on there There said) (script_on back Back said) said
answered_before asked there back said more network well =
    let less = well-less there back said more well in
    let one : Script = script_on there There (said ++ more) in
    let other : Script = script_on back Back (said ++ more) in
    same_answered there back said one other (script_on there There said) (script_on back Back said)
    (record {
      pair = said-pair there back (said ++ more) network well;
      second = said-pair there back said network less;
      well = less;
      agrees = pair-less there back said more one other well (pair-own there back (said ++ more));
      second_agrees = pair-own there back said;
    }) asked

pub answered_more : (asked : Asked) (one other : Script) (said more : List PairSaying) →
    pair_answered asked one other (said ++ more)
    ≡ pair_answered asked one other said ++ pair_answered_since asked one other said more
answered_more asked one other said more =
    let tells : Way → Telling = pair_telling asked one other in
    ap (pair_answers_text tells) (answers-more one other (pair_begin (pair_plan one other)) said more)
    ∙ flat_map-append (pair_answer_text tells) (pair_answers one other said)
    (pair_answers_from one other (pair_counts one other said) more)
