-- The rounds of a pass in both ways: how many are left, their text, and a bound on what a pair makes.
use Rattle.std.proofs.Common.{◌≡◌, ℕ, zero, suc, ◌+◌, ◌-◌, ◌*◌, ◌^◌, ◌<◌, ◌≤◌, List, [], ◌∷◌, ◌++◌, length, Option}
use Rattle.std.proofs.Common.{refl, sym, ◌∙◌, ap, subst, append-nil, append_assoc, arith}
use Rattle.std.proofs.lemmas.Grind.{flat_map-append}
use Rattle.law_model.specs.Common.{AppendsPart, bound, sum_delays}
use Rattle.law_model.specs.declared.script_types.Config.{Config}
use Rattle.law_model.specs.declared.script_types.Script.{Script}
use Rattle.law_pair.specs.Common.{PairCounts, PairPlan, pair_bound, pair_plan}
use Rattle.law_pair.specs.declared.pair_events.Way.{Way}
use Rattle.law_pair.specs.declared.pair_events.Way.TheVariants.{There, Back}
use Rattle.law_pair.proofs.PairMeasureAndDrainLaws.{pair_made}
use Rattle.law_pair.proofs.PairWayAndPacketLaws.{has-pair-plan}
use Rattle.law_pair.proofs.ReachedPairAndStallLaws.{pair-together}
use Rattle.law_live.specs.Common.{HasLater, IsPairSaid, PairSaying, after_turns, both_pass, both_passed, leg_on}
use Rattle.law_live.specs.Common.{live_after, live_of, pair_answer_text, pair_answers_text, pair_counts, passes}
use Rattle.law_live.specs.Common.{said_on, turn_answers, turn_both, turns_answers, turns_until}
use Rattle.law_live.proofs.BothWaysCountLaws.{pair-stands, pair-walked, settle}
use Rattle.law_live.proofs.BothWaysRoundLaws.{BothSettled, settled-turns, turn-less, turns-over, turns-reached}
use Rattle.law_live.proofs.BothWaysTurnLaws.{pass-free, pass-left, pass-turn}
use Rattle.text_got.specs.TextSoFar.{Holds}
use Rattle.walk_live.proofs.PassRoundsLaws.{bound-small}
use Rattle.walk_live.proofs.TimedLineWritingLaws.{holds-more, holds-none, part-longer, part-more}
use Rattle.walk_live.specs.declared.asked.Asked.{Asked}
use Rattle.pair_engine.specs.LivePairs.{AreNoneHeld, GoesOn, PairLives, PairWalking, walking_counts}
use Rattle.pair_live.specs.PairAnswered.{ArePairOf, live_said_on}
use Rattle.pair_live.specs.PairPassing.{turn_text}
use Rattle.pair_live.specs.PairReplies.{pair_telling}
use Rattle.pair_live.proofs.PairStandLaws.{fewer, live-own, pass-own}

-- ---- No pair makes more than a certain number of all.
both-bounds : (a b t d e i j x y : ℕ) → x ≡ (2 * a + 3) * t + d + 2 * a + i → y ≡ (2 * b + 3) * t + e + 2 * b + j →
    x ≤ 2 ^ 40 → y ≤ 2 ^ 40 → (2 * (a + b) + 3) * t + 2 * (a + b) + (d + e) + (i + j) ≤ 2 ^ 41
both-bounds a b t d e i j x y is is' small small' =
    let sum : (2 * (a + b) + 3) * t + 3 * t ≡ (2 * a + 3) * t + (2 * b + 3) * t = grind arith in
    omega (arith, is, is', small, small', sum)

pair-bound-small : (one other : Script) (pair : PairWalking) → PairLives one other pair →
    pair_bound (pair_plan one other) ≤ 2 ^ 41
pair-bound-small one other pair lives =
    let plan : PairPlan = pair_plan one other in
    let ticks : plan.back.ticks ≡ plan.there.ticks = sym lives.fits.ticks in
    both-bounds (length plan.there.paths) (length plan.back.paths) plan.there.ticks (sum_delays plan.there.paths)
    (sum_delays plan.back.paths) (length plan.there.items) (length plan.back.items) (bound plan.there) (bound plan.back)
    refl
    (ap (λ t. (2 * length plan.back.paths + 3) * t + sum_delays plan.back.paths + 2 * length plan.back.paths
    + length plan.back.items) ticks)
    (bound-small (leg_on one other There) lives.there_way.stands.sound)
    (bound-small (leg_on one other Back) lives.back_way.stands.sound)

-- so this falls wherever the bound less what was made does
pair-falls : (one other : Script) (pair : PairWalking) (s next : PairCounts) → PairLives one other pair →
    pair_bound (pair_plan one other) - pair_made next < pair_bound (pair_plan one other) - pair_made s →
    2 ^ 41 - pair_made next < 2 ^ 41 - pair_made s
pair-falls one other pair s next lives less =
    let small = pair-bound-small one other pair lives in omega (arith, less, small)

-- one round more at the end
pub turns-last : (n : ℕ) (plan : PairPlan) (s : PairCounts) →
    after_turns (suc n) plan s ≡ turn_both plan (after_turns n plan s)
unfolding after_turns
turns-last zero plan s = refl
turns-last (suc n) plan s = turns-last n plan (turn_both plan s)

-- ---- the rounds that are left until so many ticks are made, their text, and the counts behind them
abbrev pub turns_left : PairPlan → ℕ → PairCounts → ℕ
turns_left plan until s = turns_until (pair_bound plan) plan until s

abbrev pub rest_text : Asked → Script → Script → ℕ → PairCounts → List ℕ
rest_text asked one other until s =
    pair_answers_text (pair_telling asked one other)
    (turns_answers (turns_left (pair_plan one other) until s) one other s)

abbrev pub pass_end : PairPlan → ℕ → PairCounts → PairCounts
pass_end plan until s = after_turns (turns_left plan until s) plan s

module _ (one other : Script) where
  abbrev plan : PairPlan
  plan = pair_plan one other

  -- one is made
  rest-turn : (asked : Asked) (until : ℕ) (s : PairCounts) →
      turns_left plan until s ≡ suc (turns_left plan until (turn_both plan s)) →
      rest_text asked one other until s ≡ turn_text asked one other s
      ++ rest_text asked one other until (turn_both plan s)
  unfolding turns_answers
  rest-turn asked until s turn =
      let next : PairCounts = turn_both plan s in
      ap (λ n. pair_answers_text (pair_telling asked one other) (turns_answers n one other s)) turn
      ∙ flat_map-append (pair_answer_text (pair_telling asked one other)) (turn_answers one other s next)
      (turns_answers (turns_left plan until next) one other next)

  end-turn : (until : ℕ) (s : PairCounts) → turns_left plan until s ≡ suc (turns_left plan until (turn_both plan s)) →
      pass_end plan until s ≡ pass_end plan until (turn_both plan s)
  unfolding after_turns
  end-turn until s turn = ap (λ n. after_turns n plan s) turn

  -- none is left
  rest-over : (asked : Asked) (until : ℕ) (s : PairCounts) → until ≤ s.there.ticks →
      rest_text asked one other until s ≡ []
  unfolding turns_answers
  rest-over asked until s over =
      ap (λ n. pair_answers_text (pair_telling asked one other) (turns_answers n one other s))
      (turns-over (pair_bound plan) plan until s over)

  end-over : (until : ℕ) (s : PairCounts) → until ≤ s.there.ticks → pass_end plan until s ≡ s
  unfolding after_turns
  end-over until s over = ap (λ n. after_turns n plan s) (turns-over (pair_bound plan) plan until s over)

-- ---- how far a pair is in a pass, in two scripts
pub record BothPassIn (one other : Script) (start : PairCounts) (until : ℕ) (pair : PairWalking) : Type 0 where
  pub lives : PairLives one other pair
  pub turns : ℕ
  pub are : walking_counts pair ≡ after_turns turns (pair_plan one other) start
  pub left : pass_end (pair_plan one other) until (walking_counts pair) ≡ pass_end (pair_plan one other) until start

-- and what is told
pub record BothTellIn {K : Type 0} (written : K → Option (List ℕ)) (faults : K →
    ℕ) (old new : K) (waited waits : List ℕ)
    (asked : Asked) (one other : Script) (start : PairCounts) (until : ℕ) (s : PairCounts) : Type 0 where
  pub told : List ℕ
  pub holds : Holds written faults old new waits (waited ++ told)
  pub left : told ++ rest_text asked one other until s ≡ rest_text asked one other until start

pub both-begin : (one other : Script) (start : PairCounts) (until : ℕ) (pair : PairWalking) → PairLives one other pair →
    walking_counts pair ≡ start → BothPassIn one other start until pair
unfolding after_turns
both-begin one other start until pair lives same = record {
  lives = lives;
  turns = 0;
  are = same;
  left = ap (pass_end (pair_plan one other) until) same;
}

pub tell-begin : {K : Type 0} (written : K → Option (List ℕ)) (faults : K → ℕ) (sink : K) (waits : List ℕ)
    (asked : Asked) (one other : Script) (start : PairCounts) (until : ℕ) (s : PairCounts) → s ≡ start →
    BothTellIn written faults sink sink waits waits asked one other start until s
tell-begin written faults sink waits asked one other start until s same = record {
  told = [];
  holds = holds-none written faults sink waits [] refl;
  left = ap (rest_text asked one other until) same;
}

-- in two scripts that agree with the pass
module _ (there back : Config) (said : List PairSaying) (k : ℕ) (one other : Script)
    (before : IsPairSaid there back said) (well : IsPairSaid there back (said ++ both_pass k ∷ []))
    (are : ArePairOf there back (said ++ both_pass k ∷ []) one other) (until : ℕ)
    (ends : until ≡ both_passed there said + k)
  where
    abbrev pub start : PairCounts
    start = pair_counts one other said

    turn-at : (s : PairCounts) (n : ℕ) → s ≡ after_turns n (plan one other) start → s.there.ticks < until →
        turns_left (plan one other) until s ≡ suc (turns_left (plan one other) until (turn_both (plan one other) s))
    turn-at s n is low =
        subst (λ c. c.there.ticks < until →
        turns_left (plan one other) until c ≡ suc (turns_left (plan one other) until (turn_both (plan one other) c)))
        (sym is)
        (subst (λ u. (after_turns n (plan one other) start).there.ticks < u →
        turns_left (plan one other) u (after_turns n (plan one other) start)
        ≡ suc (turns_left (plan one other) u (turn_both (plan one other) (after_turns n (plan one other) start))))
        (sym ends) (pass-turn one other are.pair there back said k well are.agrees n)) low

    less : ArePairOf there back said one other
    less = fewer there back said (both_pass k ∷ []) one other well are

    -- of a way what was said says nothing more that is due
    later : (way : Way) →
        HasLater (live_after (live_said_on there back way said) (passes k)) (leg_on one other way).items
    later There =
        subst (λ live. HasLater live one.items) (live-own there There said (both_pass k) (passes k) (pass-own There k))
        are.agrees.there_agrees.items
    later Back =
        subst (λ live. HasLater live other.items) (live-own back Back said (both_pass k) (passes k) (pass-own Back k))
        are.agrees.back_agrees.items

    settled : (n : ℕ) → BothSettled (plan one other) (both_passed there said) until (after_turns n (plan one other)
        start)
    settled n =
        let stand = pair-stands one other are.pair there back said before less.agrees in
        settled-turns n (plan one other) (both_passed there said) until start
        (subst (λ until. BothSettled (plan one other) (both_passed there said) until start)
        (ap (λ ticks. ticks + k) stand.there.ticks ∙ sym ends)
        (settle one other are.pair (live_of there (said_on There said)) (live_of back (said_on Back said)) start k stand
        (pair-together (plan one other) start (has-pair-plan one other are.pair) (pair-walked one other said))
        (later There) (later Back)))

    less-at : (s : PairCounts) (n : ℕ) → s ≡ after_turns n (plan one other) start → s.there.ticks < until →
        pair_bound (plan one other) - pair_made (turn_both (plan one other) s)
        < pair_bound (plan one other) - pair_made s
    less-at s n is low =
        let left = pass-left one other are.pair there back said k well are.agrees in
        subst (λ c. c.there.ticks < until →
        pair_bound (plan one other) - pair_made (turn_both (plan one other) c)
        < pair_bound (plan one other) - pair_made c) (sym is)
        (λ early. turn-less (plan one other) (has-pair-plan one other are.pair) (both_passed there said) until
        (after_turns n (plan one other) start)
        (turns-reached n (plan one other) start (pair-walked one other said)) (settled n) early
        (omega (arith, left, ends))) low

    pub free-at : (s : PairCounts) (n : ℕ) → s ≡ after_turns n (plan one other) start → s.there.ticks < until →
        s.back.ticks ≡ s.there.ticks → AreNoneHeld one other s
    free-at s n is low together =
        subst (λ c. c.there.ticks < until → c.back.ticks ≡ c.there.ticks → AreNoneHeld one other c) (sym is)
        (λ early same way. free n early same way) low together
      where
        free : (n : ℕ) → (after_turns n (plan one other) start).there.ticks < until →
            (after_turns n (plan one other) start).back.ticks ≡ (after_turns n (plan one other) start).there.ticks →
            AreNoneHeld one other (after_turns n (plan one other) start)
        free n early same There =
            pass-free one other are.pair there back said k well are.agrees n There (omega (arith, early, ends))
        free n early same Back =
            pass-free one other are.pair there back said k well are.agrees n Back (omega (arith, early, same, ends))

    pub both-on : (was now : PairWalking) → BothPassIn one other start until was →
        (walking_counts was).there.ticks < until →
        GoesOn one other (turn_both (plan one other) (walking_counts was)) now → BothPassIn one other start until now
    both-on was now passing low goes =
        let s : PairCounts = walking_counts was in
        record {
          lives = goes.lives;
          turns = suc passing.turns;
          are = goes.counts ∙ ap (turn_both (plan one other)) passing.are
              ∙ sym (turns-last passing.turns (plan one other) start);
          left = ap (pass_end (plan one other) until) goes.counts
              ∙ sym (end-turn one other until s (turn-at s passing.turns passing.are low)) ∙ passing.left;
        }

    pub both-less : (was now : PairWalking) → BothPassIn one other start until was →
        (walking_counts was).there.ticks < until →
        GoesOn one other (turn_both (plan one other) (walking_counts was)) now →
        2 ^ 41 - pair_made (walking_counts now) < 2 ^ 41 - pair_made (walking_counts was)
    both-less was now passing low goes =
        pair-falls one other was (walking_counts was) (walking_counts now) passing.lives
        (subst (λ c. pair_bound (plan one other) - pair_made c
        < pair_bound (plan one other) - pair_made (walking_counts was)) (sym goes.counts)
        (less-at (walking_counts was) passing.turns passing.are low))

    pub both-over : (pair : PairWalking) → BothPassIn one other start until pair →
        until ≤ (walking_counts pair).there.ticks → walking_counts pair ≡ pass_end (plan one other) until start
    both-over pair passing over = sym (end-over one other until (walking_counts pair) over) ∙ passing.left

    module _ {K : Type 0} (written : K → Option (List ℕ)) (faults : K → ℕ) (asked : Asked) where
      tell-turn : (was : PairWalking) → BothPassIn one other start until was →
          (walking_counts was).there.ticks < until → (told : List ℕ) →
          (told ++ turn_text asked one other (walking_counts was))
          ++ rest_text asked one other until (turn_both (plan one other) (walking_counts was))
          ≡ told ++ rest_text asked one other until (walking_counts was)
      tell-turn was passing low told =
          let s : PairCounts = walking_counts was in
          append_assoc told (turn_text asked one other s) (rest_text asked one other until (turn_both (plan one
          other) s))
          ∙ ap (λ l. told ++ l) (sym (rest-turn one other asked until s (turn-at s passing.turns passing.are low)))

      pub tell-on : (old was new : K) (waited waits next : List ℕ) (pair now : PairWalking) →
          BothPassIn one other start until pair → (walking_counts pair).there.ticks < until →
          GoesOn one other (turn_both (plan one other) (walking_counts pair)) now →
          BothTellIn written faults old was waited waits asked one other start until (walking_counts pair) →
          Holds written faults was new next (waits ++ turn_text asked one other (walking_counts pair)) →
          BothTellIn written faults old new waited next asked one other start until (walking_counts now)
      tell-on old was new waited waits next pair now passing low goes tells more =
          let s : PairCounts = walking_counts pair in
          record {
            told = tells.told ++ turn_text asked one other s;
            holds = holds-more written faults old was new waited waits next tells.told (turn_text asked one other s)
                tells.holds more;
            left = ap (λ c. (tells.told ++ turn_text asked one other s)
                ++ rest_text asked one other until c) goes.counts
                ∙ tell-turn pair passing low tells.told ∙ tells.left;
          }

      pub tell-part : (old was now : K) (waited waits : List ℕ) (pair : PairWalking) →
          BothPassIn one other start until pair → (walking_counts pair).there.ticks < until →
          BothTellIn written faults old was waited waits asked one other start until (walking_counts pair) →
          AppendsPart written faults was now (waits ++ turn_text asked one other (walking_counts pair)) →
          AppendsPart written faults old now (waited ++ rest_text asked one other until start)
      tell-part old was now waited waits pair passing low tells stops =
          let s : PairCounts = walking_counts pair in
          let next : PairCounts = turn_both (plan one other) s in
          subst (λ l. AppendsPart written faults old now (waited ++ l))
          (tell-turn pair passing low tells.told ∙ tells.left)
          (part-longer written faults old now waited (tells.told ++ turn_text asked one other s)
          (rest_text asked one other until next)
          (part-more written faults old was now waited waits tells.told (turn_text asked one other s) tells.holds
          stops))

      pub tell-all : (old now : K) (waited waits : List ℕ) (pair : PairWalking) →
          until ≤ (walking_counts pair).there.ticks →
          BothTellIn written faults old now waited waits asked one other start until (walking_counts pair) →
          Holds written faults old now waits (waited ++ rest_text asked one other until start)
      tell-all old now waited waits pair over tells =
          subst (λ l. Holds written faults old now waits (waited ++ l))
          (sym (append-nil tells.told)
          ∙ ap (λ l. tells.told ++ l) (sym (rest-over one other asked until (walking_counts pair) over)) ∙ tells.left)
          tells.holds
