-- The rounds of a pass: how many are left, the ticks they make, their text, and a bound on what a walk makes.
use Rattle.std.proofs.Common.{◌≡◌, ℕ, ◌+◌, ◌-◌, ◌*◌, ◌^◌, ◌<◌, ◌≤◌, List, [], ◌∷◌, length, arith, zero, suc, refl}
use Rattle.std.proofs.Common.{◌++◌, map, Option, sym, ◌∙◌, ap, ap₂, subst, append-nil, append_assoc}
use Rattle.std.proofs.lemmas.Nat.{mul-le}
use Rattle.std.proofs.lemmas.List.{length-map}
use Rattle.law_model.specs.Common.{Counts, IsSound, Leg, LinePath, bound, due_of, sum_delays, Plan, carries_from, run}
use Rattle.law_model.specs.Common.{step, AppendsPart, most_lines, most_ticks}
use Rattle.law_model.specs.declared.script_types.Item.{Item}
use Rattle.law_progress.specs.Progress.{AllPaths, IsSound as IsSoundPath, made}
use Rattle.law_walk.specs.Common.{walk_plan}
use Rattle.law_walk.proofs.WalkPlanAndPoppedCellLaws.{has-plan, sound-walks}
use Rattle.walk_engine.proofs.LineCarryAndSendRingLaws.{paths-size}
use Rattle.law_model.specs.declared.walk_events.Event.TheVariants.{Tick}
use Rattle.law_live.specs.Common.{after_rounds, live_round, IsWellSaid, Saying, answer_text, answers_text, got_at}
use Rattle.law_live.specs.Common.{Telling, counts_said, live_counts, live_of, now_text, pass_answers, pass_ends, passes}
use Rattle.law_live.specs.Common.{waiting_at}
use Rattle.law_live.specs.Common.{round_answers, rounds_answers, rounds_for, rounds_until, steps_between}
use Rattle.law_live.proofs.LiveRoundAndLandingLaws.{Goes, goes-carries, rounds-over}
use Rattle.std.proofs.lemmas.Grind.{flat_map-append}
use Rattle.law_model.specs.declared.script_types.Config.{Config}
use Rattle.text_got.specs.TextSoFar.{Holds}
use Rattle.law_walk.specs.DeliveredFrames.{delivered_since}
use Rattle.law_live.proofs.AgreeingLegConversationLaws.{pass-free, pass-less, pass-turn}
use Rattle.walk_engine.specs.walk_core.LiveWalking.{Walking, LiveRounds, LiveStands, walking_counts}
use Rattle.walk_engine.specs.walk_core.WalkAfterEvent.{counts_after}
use Rattle.walk_engine.specs.walk_core.EventAnswers.{IsNoneHeld}
use Rattle.walk_engine.proofs.WalkRoundAndTotalsLaws.{tick-kept}
use Rattle.walk_live.specs.Answered.{IsLegOf}
use Rattle.walk_live.specs.PassingRounds.{round_text, steps_text}
use Rattle.walk_live.specs.LiveReplies.{queue_lines, telling}
use Rattle.walk_live.specs.TimedWriting.{timed_texts}
use Rattle.walk_live.proofs.TimedLineWritingLaws.{holds-more, holds-none, part-longer, part-more}
use Rattle.walk_live.specs.declared.asked.Asked.{Asked}

-- ---- No walk of a sound leg makes more than a certain number of all.
few-delays : (total slow fast slip : ℕ) (paths : List LinePath) → AllPaths (IsSoundPath total slow fast slip) paths →
    sum_delays paths ≤ length paths * slow
unfolding AllPaths sum_delays
few-delays total slow fast slip [] all = omega arith
few-delays total slow fast slip (path ∷ paths) all =
    let one = all.0.most in
    let rest = few-delays total slow fast slip paths all.1 in
    let e : length (path ∷ paths) * slow ≡ slow + length paths * slow = grind arith in
    omega (arith, one, rest, e)

pub bound-small : (leg : Leg) → IsSound leg → bound (walk_plan leg) ≤ 2 ^ 40
bound-small leg sound =
    let plan = has-plan leg (sound-walks leg sound) in
    let size = paths-size leg sound in
    let lines = sound.network.lines.1 in
    let ticks = sound.network.ticks.1 in
    let lag = sound.network.lag.1 in
    let fits = plan.is.lag in
    let few = few-delays (walk_plan leg).ticks plan.slow plan.fast plan.slip (walk_plan leg).paths plan.is.paths in
    let delays = mul-le (length (walk_plan leg).paths) plan.slow most_lines 8192 (omega (arith, size, lines))
    (omega (arith, lag, fits)) in
    let all = mul-le (2 * length (walk_plan leg).paths + 3) (walk_plan leg).ticks 259 most_ticks (omega (arith, size, lines))
    ticks in
    let items = sound.few in
    let same = length-map leg.items (λ (item : Item). due_of item.due item.kind) in
    omega (arith, size, lines, few, delays, all, items, same)

-- so this falls wherever the bound less what was made does
pub falls : (leg : Leg) (s next : Counts) → IsSound leg →
    bound (walk_plan leg) - made next < bound (walk_plan leg) - made s →
    2 ^ 40 - made next < 2 ^ 40 - made s
falls leg s next sound less = let small = bound-small leg sound in omega (arith, less, small)

-- ---- What the events of a round do to the ticks: those after its tick make none.
same-ticks : (was now : Counts) → Goes 0 was now → now.ticks ≡ was.ticks
same-ticks was now goes = let least = goes.ticks in let most = goes.most in omega (arith, least, most)

pub carries-ticks : (plan : Plan) (m : ℕ) (paths : List LinePath) (s : Counts) →
    (run plan s (carries_from m paths)).ticks ≡ s.ticks
carries-ticks plan m paths s = same-ticks s (run plan s (carries_from m paths)) (goes-carries plan m paths s)

-- ---- a round
pub round-parts : (plan : Plan) (s : Counts) →
    live_round plan s ≡ run plan (step plan s Tick).counts (carries_from 0 plan.paths)
unfolding run
round-parts plan s = refl

-- one round more at the end
pub rounds-last : (n : ℕ) (plan : Plan) (s : Counts) →
    after_rounds (suc n) plan s ≡ live_round plan (after_rounds n plan s)
unfolding after_rounds
rounds-last zero plan s = refl
rounds-last (suc n) plan s = rounds-last n plan (live_round plan s)

-- ---- The rounds of a pass: what is left of them, and what is told.
-- ---- the rounds that are left until so many ticks are made, their text, and the counts behind them
abbrev pub turns : Leg → ℕ → Counts → ℕ
turns leg until s = rounds_until (bound (walk_plan leg)) (walk_plan leg) until s

abbrev pub rest_text : Asked → Leg → ℕ → Counts → List ℕ
rest_text asked leg until s = answers_text (telling asked leg) (rounds_answers (turns leg until s) leg s)

abbrev pub pass_end : Leg → ℕ → Counts → Counts
pass_end leg until s = after_rounds (turns leg until s) (walk_plan leg) s

-- one is made
rest-round : (asked : Asked) (leg : Leg) (until : ℕ) (s : Counts) →
    turns leg until s ≡ suc (turns leg until (live_round (walk_plan leg) s)) →
    rest_text asked leg until s
    ≡ round_text asked leg s ++ rest_text asked leg until (live_round (walk_plan leg) s)
unfolding rounds_answers
rest-round asked leg until s turn =
    let next : Counts = live_round (walk_plan leg) s in
    ap (λ n. answers_text (telling asked leg) (rounds_answers n leg s)) turn
    ∙ flat_map-append (answer_text (telling asked leg)) (round_answers leg s next)
    (rounds_answers (turns leg until next) leg next)

end-round : (leg : Leg) (until : ℕ) (s : Counts) →
    turns leg until s ≡ suc (turns leg until (live_round (walk_plan leg) s)) →
    pass_end leg until s ≡ pass_end leg until (live_round (walk_plan leg) s)
unfolding after_rounds
end-round leg until s turn = ap (λ n. after_rounds n (walk_plan leg) s) turn

-- none is left
rest-over : (asked : Asked) (leg : Leg) (until : ℕ) (s : Counts) → until ≤ s.ticks → rest_text asked leg until s ≡ []
unfolding rounds_answers
rest-over asked leg until s over =
    ap (λ n. answers_text (telling asked leg) (rounds_answers n leg s))
    (rounds-over (bound (walk_plan leg)) (walk_plan leg) until s over)

end-over : (leg : Leg) (until : ℕ) (s : Counts) → until ≤ s.ticks → pass_end leg until s ≡ s
unfolding after_rounds
end-over leg until s over =
    ap (λ n. after_rounds n (walk_plan leg) s) (rounds-over (bound (walk_plan leg)) (walk_plan leg) until s over)

-- ---- how far a walk is in a pass, in a leg
pub record PassesIn (leg : Leg) (start : Counts) (until : ℕ) (walk : Walking) : Type 0 where
  pub stands : LiveStands leg walk
  pub rounds : ℕ
  pub are : walking_counts walk ≡ after_rounds rounds (walk_plan leg) start
  pub left : pass_end leg until (walking_counts walk) ≡ pass_end leg until start

-- and what is told
pub record TellsIn {K : Type 0} (written : K → Option (List ℕ)) (faults : K → ℕ) (old new : K) (waited waits : List ℕ)
    (asked : Asked) (leg : Leg) (start : Counts) (until : ℕ) (s : Counts) : Type 0 where
  pub told : List ℕ
  pub holds : Holds written faults old new waits (waited ++ told)
  pub left : told ++ rest_text asked leg until s ≡ rest_text asked leg until start

pub passes-begin : (leg : Leg) (start : Counts) (until : ℕ) (walk : Walking) → LiveStands leg walk →
    walking_counts walk ≡ start → PassesIn leg start until walk
unfolding after_rounds
passes-begin leg start until walk stands same = record {
  stands = stands;
  rounds = 0;
  are = same;
  left = ap (pass_end leg until) same;
}

pub tells-begin : {K : Type 0} (written : K → Option (List ℕ)) (faults : K → ℕ) (sink : K) (waits : List ℕ)
    (asked : Asked) (leg : Leg) (start : Counts) (until : ℕ) (s : Counts) → s ≡ start →
    TellsIn written faults sink sink waits waits asked leg start until s
tells-begin written faults sink waits asked leg start until s same = record {
  told = [];
  holds = holds-none written faults sink waits [] refl;
  left = ap (rest_text asked leg until) same;
}

-- in a leg that agrees with the pass
module _ (config : Config) (said : List Saying) (k : ℕ) (leg : Leg) (well : IsWellSaid config (said ++ passes k ∷ []))
    (is : IsLegOf config (said ++ passes k ∷ []) leg) (until : ℕ) (ends : until ≡ (live_of config said).passed + k)
  where
    abbrev pub start : Counts
    start = live_counts leg said

    turn-at : (s : Counts) (n : ℕ) → s ≡ after_rounds n (walk_plan leg) start → s.ticks < until →
        turns leg until s ≡ suc (turns leg until (live_round (walk_plan leg) s))
    turn-at s n are low =
        subst (λ c. c.ticks < until → turns leg until c ≡ suc (turns leg until (live_round (walk_plan leg) c))) (sym are)
        (subst (λ u. (after_rounds n (walk_plan leg) start).ticks < u →
        turns leg u (after_rounds n (walk_plan leg) start)
        ≡ suc (turns leg u (live_round (walk_plan leg) (after_rounds n (walk_plan leg) start)))) (sym ends)
        (pass-turn config leg is.sound said k n well is.agrees)) low

    less-at : (s : Counts) (n : ℕ) → s ≡ after_rounds n (walk_plan leg) start → s.ticks < until →
        bound (walk_plan leg) - made (live_round (walk_plan leg) s) < bound (walk_plan leg) - made s
    less-at s n are low =
        subst (λ c. c.ticks < until →
        bound (walk_plan leg) - made (live_round (walk_plan leg) c) < bound (walk_plan leg) - made c) (sym are)
        (λ early. pass-less config leg is.sound said k n well is.agrees (omega (arith, early, ends))) low

    pub pass-free-at : (s : Counts) (n : ℕ) → s ≡ after_rounds n (walk_plan leg) start → s.ticks < until →
        IsNoneHeld leg s
    pass-free-at s n are low =
        subst (λ c. c.ticks < until → IsNoneHeld leg c) (sym are)
        (λ early. pass-free config leg is.sound said k n well is.agrees (omega (arith, early, ends))) low

    pub passes-on : (was now : Walking) → PassesIn leg start until was → (walking_counts was).ticks < until →
        LiveRounds leg was now → PassesIn leg start until now
    passes-on was now passing low makes =
        let s : Counts = walking_counts was in
        record {
          stands = makes.stands;
          rounds = suc passing.rounds;
          are = makes.counts ∙ ap (live_round (walk_plan leg)) passing.are
              ∙ sym (rounds-last passing.rounds (walk_plan leg) start);
          left = ap (pass_end leg until) makes.counts
              ∙ sym (end-round leg until s (turn-at s passing.rounds passing.are low)) ∙ passing.left;
        }

    pub passes-less : (was now : Walking) → PassesIn leg start until was → (walking_counts was).ticks < until →
        LiveRounds leg was now → 2 ^ 40 - made (walking_counts now) < 2 ^ 40 - made (walking_counts was)
    passes-less was now passing low makes =
        falls leg (walking_counts was) (walking_counts now) is.sound
        (subst (λ c. bound (walk_plan leg) - made c < bound (walk_plan leg) - made (walking_counts was)) (sym makes.counts)
        (less-at (walking_counts was) passing.rounds passing.are low))

    pub passes-over : (walk : Walking) → PassesIn leg start until walk → until ≤ (walking_counts walk).ticks →
        walking_counts walk ≡ pass_end leg until start
    passes-over walk passing over = sym (end-over leg until (walking_counts walk) over) ∙ passing.left

    -- ---- what is told
    module _ {K : Type 0} (written : K → Option (List ℕ)) (faults : K → ℕ) (asked : Asked) where
      pub tells-on : (old was now : K) (waited waits after : List ℕ) (walk next : Walking) →
          PassesIn leg start until walk → (walking_counts walk).ticks < until → LiveRounds leg walk next →
          TellsIn written faults old was waited waits asked leg start until (walking_counts walk) →
          Holds written faults was now after (waits ++ round_text asked leg (walking_counts walk)) →
          TellsIn written faults old now waited after asked leg start until (walking_counts next)
      tells-on old was now waited waits after walk next passing low makes tells more =
          let s : Counts = walking_counts walk in
          record {
            told = tells.told ++ round_text asked leg s;
            holds = holds-more written faults old was now waited waits after tells.told (round_text asked leg s)
                tells.holds more;
            left = ap (λ c. (tells.told ++ round_text asked leg s) ++ rest_text asked leg until c) makes.counts
                ∙ append_assoc tells.told (round_text asked leg s)
                (rest_text asked leg until (live_round (walk_plan leg) s))
                ∙ ap (λ l. tells.told ++ l) (sym (rest-round asked leg until s
                (turn-at s passing.rounds passing.are low)))
                ∙ tells.left;
          }

      pub tells-part : (old was now : K) (waited waits : List ℕ) (walk : Walking) →
          PassesIn leg start until walk → (walking_counts walk).ticks < until →
          TellsIn written faults old was waited waits asked leg start until (walking_counts walk) →
          AppendsPart written faults was now (waits ++ round_text asked leg (walking_counts walk)) →
          AppendsPart written faults old now (waited ++ rest_text asked leg until start)
      tells-part old was now waited waits walk passing low tells stops =
          let s : Counts = walking_counts walk in
          let next : Counts = live_round (walk_plan leg) s in
          subst (λ l. AppendsPart written faults old now (waited ++ l))
          (append_assoc tells.told (round_text asked leg s) (rest_text asked leg until next)
          ∙ ap (λ l. tells.told ++ l) (sym (rest-round asked leg until s (turn-at s passing.rounds passing.are low)))
          ∙ tells.left)
          (part-longer written faults old now waited (tells.told ++ round_text asked leg s)
          (rest_text asked leg until next)
          (part-more written faults old was now waited waits tells.told (round_text asked leg s) tells.holds stops))

      pub tells-all : (old now : K) (waited waits : List ℕ) (walk : Walking) → until ≤ (walking_counts walk).ticks →
          TellsIn written faults old now waited waits asked leg start until (walking_counts walk) →
          Holds written faults old now waits (waited ++ rest_text asked leg until start)
      tells-all old now waited waits walk over tells =
          subst (λ l. Holds written faults old now waits (waited ++ l))
          (sym (append-nil tells.told)
          ∙ ap (λ l. tells.told ++ l) (sym (rest-over asked leg until (walking_counts walk) over)) ∙ tells.left)
          tells.holds

-- ---- the text of a round
frames-text : (tells : Telling) (ticks : ℕ) (frames : List (List ℕ)) →
    answers_text tells (map (got_at ticks) frames) ≡ timed_texts ticks frames
frames-text tells ticks [] = refl
frames-text tells ticks (frame ∷ frames) =
    ap (λ l. answer_text tells (got_at ticks frame) ++ l) (frames-text tells ticks frames)

pub round-parts-text : (asked : Asked) (leg : Leg) (was now : Counts) →
    answers_text (telling asked leg) (round_answers leg was now)
    ≡ steps_text asked leg was.ticks now.ticks ++ timed_texts now.ticks (delivered_since leg was.rows now.rows)
round-parts-text asked leg was now =
    flat_map-append (answer_text (telling asked leg)) (steps_between was.ticks now.ticks)
    (map (got_at now.ticks) (delivered_since leg was.rows now.rows))
    ∙ ap (λ l. steps_text asked leg was.ticks now.ticks ++ l)
    (frames-text (telling asked leg) now.ticks (delivered_since leg was.rows now.rows))

-- by its parts: what was told after the tick, and then the frames
pub round-told : (asked : Asked) (leg : Leg) (was mid now : Counts) (before : ℕ) → before ≡ was.ticks →
    mid ≡ counts_after leg was Tick → now ≡ live_round (walk_plan leg) was →
    steps_text asked leg before mid.ticks ++ timed_texts mid.ticks (delivered_since leg mid.rows now.rows)
    ≡ round_text asked leg was
round-told asked leg was mid now before first made all =
    let plan = walk_plan leg in
    let next : Counts = live_round plan was in
    let ticks : mid.ticks ≡ next.ticks =
    sym (ap (λ (s : Counts). s.ticks) (round-parts plan was)
    ∙ carries-ticks plan 0 plan.paths (step plan was Tick).counts ∙ sym (ap (λ (s : Counts). s.ticks) made)) in
    ap (λ n. steps_text asked leg n mid.ticks ++ timed_texts mid.ticks (delivered_since leg mid.rows now.rows)) first
    ∙ ap (λ n. steps_text asked leg was.ticks n ++ timed_texts n (delivered_since leg mid.rows now.rows)) ticks
    ∙ ap₂ (λ a b. steps_text asked leg was.ticks next.ticks ++ timed_texts next.ticks (delivered_since leg a b))
    (tick-kept leg was mid made) (ap (λ (s : Counts). s.rows) all)
    ∙ sym (round-parts-text asked leg was next)

-- ---- the text of a pass
pub pass-text : (asked : Asked) (leg : Leg) (s : Counts) (k ticks : ℕ) →
    ticks ≡ (counts_said (walk_plan leg) s (passes k)).ticks →
    answers_text (telling asked leg) (rounds_answers (rounds_for k (walk_plan leg) s) leg s)
    ++ (queue_lines asked (waiting_at leg s.ticks) (waiting_at leg ticks) ++ now_text ticks)
    ≡ answers_text (telling asked leg) (pass_answers leg s k)
pass-text asked leg s k ticks is =
    let rounds = answers_text (telling asked leg) (rounds_answers (rounds_for k (walk_plan leg) s) leg s) in
    let now : ℕ = (counts_said (walk_plan leg) s (passes k)).ticks in
    let queue : List ℕ = queue_lines asked (waiting_at leg s.ticks) (waiting_at leg now) in
    ap (λ n. rounds ++ (queue_lines asked (waiting_at leg s.ticks) (waiting_at leg n) ++ now_text n)) is
    ∙ sym (flat_map-append (answer_text (telling asked leg))
    (rounds_answers (rounds_for k (walk_plan leg) s) leg s) (pass_ends leg s.ticks now)
    ∙ ap (λ l. rounds ++ (queue ++ l)) (append-nil (now_text now)))
