-- Two pairs of scripts in which the same was said so far: their rounds make the same counts, and they answer the same.
use Rattle.std.proofs.Common.{◌≡◌, ℕ, zero, suc, ◌+◌, ◌<◌, ◌≤◌, nat_le, inl, inr, List, [], ◌∷◌, ◌++◌, map, take, drop}
use Rattle.std.proofs.Common.{length, replicate, Option, None, if◌then◌else◌, option_map, refl, sym, ◌∙◌, ap, ap₂}
use Rattle.std.proofs.Common.{subst, arith}
use Rattle.std.proofs.lemmas.Bool.{cases_Bool, leb-false}
use Rattle.law_model.specs.Common.{Counts, LinePath, Plan, Popped, stalled}
use Rattle.law_model.specs.Common.{Leg, scenario_by}
use Rattle.law_model.specs.declared.script_types.Item.{Item}
use Rattle.law_model.specs.declared.script_types.ItemKind.{ItemKind}
use Rattle.law_model.specs.declared.script_types.Script.{Script}
use Rattle.law_model.specs.declared.walk_events.StallCause.{StallCause}
use Rattle.law_model.specs.declared.walk_events.StallCause.TheVariants.{Done, Held}
use Rattle.law_progress.specs.Progress.{Fits, IsPlan}
use Rattle.law_progress.proofs.RoundProgressAndDrainLaws.{reached-fits, rows-ticks}
use Rattle.law_walk.specs.Common.{CanWalk, kind_refusal, session_of}
use Rattle.law_walk.proofs.WalkPlanAndPoppedCellLaws.{has-paths, has-plan}
use Rattle.law_pair.specs.declared.pair_events.Way.{Way}
use Rattle.law_pair.specs.declared.pair_events.Way.TheVariants.{There, Back}
use Rattle.law_pair.specs.declared.pair_events.PairEvent.{PairEvent}
use Rattle.law_pair.specs.declared.pair_events.PairEvent.TheVariants.{Item as Lands, Tick, Carry, Take}
use Rattle.law_pair.specs.Common.{IsPair, IsPairReached, PairCounts, PairPlan, PairStep, carries_on, counts_on, done_at}
use Rattle.law_pair.specs.Common.{first_way, full_at, held_at, missing_at, on_way, or_else, pair_begin, pair_bound, pair_plan}
use Rattle.law_pair.specs.Common.{pair_run, pair_step, plan_on, take_one, take_said, tick_by, tick_cause, with_counts}
use Rattle.law_pair.proofs.PairMeasureAndDrainLaws.{pair-begins, pair-steps}
use Rattle.law_pair.proofs.PairWayAndPacketLaws.{has-pair-plan}
use Rattle.law_pair.proofs.ReachedPairAndStallLaws.{pair-together, pair-walks}
use Rattle.law_live.specs.Common.{CanSayAll, HasLater, Live, PairSaying, after_turns, both_answer, both_at, both_end, both_from}
use Rattle.law_live.specs.Common.{both_pass, both_said, cuts_on, frames_told, got_at, item_answers, lands, lands_on, leg_on}
use Rattle.law_live.specs.Common.{live_after, live_from, mends_on, opened, pair_answers, pair_answers_from, pair_counts, passes}
use Rattle.law_live.specs.Common.{refused_answer, said_on, saying_on, steps_told, turn_answers, turn_both, turns_answers}
use Rattle.law_live.specs.Common.{turns_for, turns_until, waiting_at, way_told}
use Rattle.law_live.specs.Common.{queue_at, queue_told}
use Rattle.law_live.proofs.AgreeingLegConversationLaws.{can-back, can-front}
use Rattle.law_live.proofs.BothWaysCountLaws.{BothStand, live-said, pass-made, said-reached, settle, stand-one, way-lands, begun}
use Rattle.law_live.proofs.BothWaysRoundLaws.{AreQuiet, BothSettled, IsQuiet, behind, more-turns, quiet-behind, quiet-goes}
use Rattle.law_live.proofs.BothWaysRoundLaws.{settled-turn, tick-goes, turn-goes, turn-reached, turns-reached}
use Rattle.law_live.proofs.BothWaysSamePastLaws.{Beside, Side, can-walk, first, second, turned, way-same}
use Rattle.law_live.proofs.ConversationCountAndScriptLaws.{Stands, later-all, later-less}
use Rattle.law_live.proofs.LiveRoundAndLandingLaws.{IsSettled, settled-at, settled-free}
use Rattle.law_live.proofs.SamePastRoundAndAnswerLaws.{carry-same, first-items, lines-same, passed-rises, swapped}
use Rattle.law_live.proofs.SamePastTableAndCellLaws.{PathsAlike, delivered-same, paths-alike, refused-same, waiting-same}

-- ---- lines in numbers that are the same so far
carries_on-same : (total n : ℕ) (way : Way) (m : ℕ) (ones others : List LinePath) → PathsAlike total n ones others →
    carries_on way m ones ≡ carries_on way m others
unfolding PathsAlike carries_on
carries_on-same total n way m [] [] alike = refl
carries_on-same total n way m [] (other ∷ others) alike = absurd alike
carries_on-same total n way m (one ∷ ones) [] alike = absurd alike
carries_on-same total n way m (one ∷ ones) (other ∷ others) alike =
    ap (λ events. Carry way m ∷ events) (carries_on-same total n way (suc m) ones others alike.1)

held-none : (plan : Plan) (s : Counts) → IsSettled plan s → held_at plan s ≡ None
held-none plan s settled = ap (option_map Held) (settled-free plan s settled)

module _ (there back : Side) (with : Beside there back) where
  -- ---- the two pairs
  abbrev one : Script
  one = first there

  abbrev other : Script
  other = first back

  abbrev a : Script
  a = second there

  abbrev b : Script
  b = second back

  abbrev now : ℕ
  now = there.live.passed

  pub is-pair : IsPair one other
  is-pair = record { there_way = there.is; back_way = back.is; lag = with.lag; ticks = with.ticks }

  pub is-second : IsPair a b
  is-second = record { there_way = there.is'; back_way = back.is'; lag = with.lag; ticks = with.ticks }

  abbrev plan : PairPlan
  plan = pair_plan one other

  abbrev twin : PairPlan
  twin = pair_plan a b

  can : (way : Way) → CanWalk (leg_on one other way)
  can There = can-walk one other there.is
  can Back = can-walk other one back.is

  can-second : (way : Way) → CanWalk (leg_on a b way)
  can-second There = can-walk a b there.is'
  can-second Back = can-walk b a back.is'

  plan_is : (way : Way) → IsPlan (plan_on plan way)
  plan_is There = has-plan (leg_on one other There) (can There)
  plan_is Back = has-plan (leg_on one other Back) (can Back)

  there-alike : PathsAlike there.config.ticks now plan.there.paths twin.there.paths
  there-alike =
      paths-alike (leg_on one other There) (leg_on a b There) there.config.lag now (way-same there back with) (can There)
      (can-second There)

  back-alike : PathsAlike back.config.ticks back.live.passed plan.back.paths twin.back.paths
  back-alike =
      paths-alike (leg_on one other Back) (leg_on a b Back) back.config.lag back.live.passed
      (way-same back there (turned there back with)) (can Back) (can-second Back)

  fits : (way : Way) (s : PairCounts) → IsPairReached plan s → Fits (plan_on plan way) (counts_on s way)
  fits way s reached =
      reached-fits (plan_on plan way) (counts_on s way) (plan_is way)
      (pair-walks plan s way (has-pair-plan one other is-pair) reached)

  -- ---- events
  take-by : (plan other : Plan) (s : Counts) (n : ℕ) → other.ticks ≡ plan.ticks → PathsAlike plan.ticks n plan.paths other.paths →
      Fits plan s → s.ticks ≤ n → take_one plan s ≡ take_one other s
  take-by plan other s n same alike fits low =
      ap₂ (λ ticks (popped : Popped). if nat_le ticks s.rows then stalled s Done
      else take_said s popped.lines popped.waiting) (sym same)
      (lines-same plan.ticks plan.ring s.ticks s.rows n low s.rows 0 plan.paths other.paths s.lines alike fits.lines)

  quiet-same : (s : PairCounts) (event : PairEvent) → IsQuiet event → IsPairReached plan s → s.there.ticks ≤ now →
      s.back.ticks ≤ now → pair_step plan s event ≡ pair_step twin s event
  unfolding IsQuiet
  quiet-same s (Lands way) quiet reached low low' = absurd quiet
  quiet-same s Tick quiet reached low low' = absurd quiet
  quiet-same s (Carry There m) quiet reached low low' =
      ap (λ made. on_way There made s)
      (carry-same plan.there twin.there.items twin.there.paths now there-alike s.there m (fits There s reached) low)
  quiet-same s (Carry Back m) quiet reached low low' =
      let passed = with.passed in
      ap (λ made. on_way Back made s)
      (carry-same plan.back twin.back.items twin.back.paths back.live.passed back-alike s.back m (fits Back s reached)
      (omega (arith, passed, low')))
  quiet-same s (Take There) quiet reached low low' =
      ap (λ made. on_way There made s)
      (take-by plan.there twin.there s.there now refl there-alike (fits There s reached) low)
  quiet-same s (Take Back) quiet reached low low' =
      let passed = with.passed in
      ap (λ made. on_way Back made s)
      (take-by plan.back twin.back s.back back.live.passed refl back-alike (fits Back s reached)
      (omega (arith, passed, low')))

  run-same : (events : List PairEvent) (s : PairCounts) → AreQuiet events → IsPairReached plan s →
      s.there.ticks ≤ now → s.back.ticks ≤ now → pair_run plan s events ≡ pair_run twin s events
  unfolding AreQuiet pair_run
  run-same [] s quiet reached low low' = refl
  run-same (event ∷ events) s quiet reached low low' =
      let goes = quiet-goes plan s event quiet.0 in
      let up = goes.there.most in
      let up' = goes.back.most in
      run-same events (pair_step plan s event).counts quiet.1 (pair-steps plan s event reached)
      (omega (arith, up, low)) (omega (arith, up', low'))
      ∙ ap (λ (made : PairStep). pair_run twin made.counts events) (quiet-same s event quiet.0 reached low low')

  -- ---- a tick, where what has landed is all that is due
  module _ (from until : ℕ) (most : until ≤ now) where
    tick-same : (s : PairCounts) → BothSettled plan from until s → BothSettled twin from until s → from ≤ s.there.ticks →
        from ≤ s.back.ticks → s.there.ticks < until → s.back.ticks < until → tick_cause plan s ≡ tick_cause twin s
    tick-same s settled settled' low low' left left' =
        let causes : Option StallCause → Option StallCause → Option (Way × StallCause) =
        λ held held'. or_else (first_way (done_at plan.there s.there) (done_at plan.back s.back))
        (or_else (first_way held held')
        (or_else (first_way (full_at plan.there s.there) (full_at plan.back s.back))
        (first_way (missing_at plan.lag s.there) (missing_at plan.lag s.back)))) in
        ap₂ causes
        (held-none plan.there s.there (settled-at plan.there from until s.there settled.there low left)
        ∙ sym (held-none twin.there s.there (settled-at twin.there from until s.there settled'.there low left)))
        (held-none plan.back s.back (settled-at plan.back from until s.back settled.back low' left')
        ∙ sym (held-none twin.back s.back (settled-at twin.back from until s.back settled'.back low' left')))

    turn-same : (s : PairCounts) → IsPairReached plan s → BothSettled plan from until s → BothSettled twin from until s →
        from ≤ s.there.ticks → s.there.ticks < until → turn_both plan s ≡ turn_both twin s
    unfolding pair_run
    turn-same s reached settled settled' low left =
        let same = pair-together plan s (has-pair-plan one other is-pair) reached in
        let goes = tick-goes (tick_cause plan s) s in
        let up = goes.there.most in
        let up' = goes.back.most in
        run-same (behind plan.there.paths plan.back.paths) (pair_step plan s Tick).counts
        (quiet-behind plan.there.paths plan.back.paths) (pair-steps plan s Tick reached)
        (omega (arith, up, left, most)) (omega (arith, up', left, same, most))
        ∙ ap (λ found. pair_run twin (tick_by found s).counts (behind plan.there.paths plan.back.paths))
        (tick-same s settled settled' low (omega (arith, same, low)) left (omega (arith, same, left)))
        ∙ ap₂ (λ there back. pair_run twin (pair_step twin s Tick).counts (there ++ (back ++ Take There ∷ Take Back ∷ [])))
        (carries_on-same there.config.ticks now There 0 plan.there.paths twin.there.paths there-alike)
        (carries_on-same back.config.ticks back.live.passed Back 0 plan.back.paths twin.back.paths back-alike)

  -- ---- what a round answers
  frames-same : (way : Way) (was next : PairCounts) → (counts_on was way).rows ≤ now → (counts_on next way).rows ≤ now →
      frames_told one other way was next ≡ frames_told a b way was next
  frames-same There was next low low' =
      ap₂ (λ before made. map (way_told There) (map (got_at next.there.ticks) (drop (length before) made)))
      (delivered-same (leg_on one other There) (leg_on a b There) there.config.lag now (way-same there back with)
      was.there.rows low)
      (delivered-same (leg_on one other There) (leg_on a b There) there.config.lag now (way-same there back with)
      next.there.rows low')
  frames-same Back was next low low' =
      let passed = with.passed in
      let same = way-same back there (turned there back with) in
      ap₂ (λ before made. map (way_told Back) (map (got_at next.back.ticks) (drop (length before) made)))
      (delivered-same (leg_on one other Back) (leg_on a b Back) back.config.lag back.live.passed same was.back.rows
      (omega (arith, passed, low)))
      (delivered-same (leg_on one other Back) (leg_on a b Back) back.config.lag back.live.passed same next.back.rows
      (omega (arith, passed, low')))

  rows-low : (way : Way) (s : PairCounts) → IsPairReached plan s → (counts_on s way).rows ≤ (counts_on s way).ticks
  rows-low way s reached =
      let is = plan_is way in
      rows-ticks is.slow is.fast is.slip (plan_on plan way) is.is (counts_on s way) (fits way s reached)

  turn-told : (was next : PairCounts) → IsPairReached plan was → IsPairReached plan next → was.there.ticks ≤ now →
      next.there.ticks ≤ now → turn_answers one other was next ≡ turn_answers a b was next
  turn-told was next reached reached' low low' =
      let is = has-pair-plan one other is-pair in
      let same = pair-together plan was is reached in
      let same' = pair-together plan next is reached' in
      let r = rows-low There was reached in
      let r' = rows-low There next reached' in
      let q = rows-low Back was reached in
      let q' = rows-low Back next reached' in
      ap₂ (λ there back. (steps_told There was next ++ steps_told Back was next) ++ (there ++ back))
      (frames-same There was next (omega (arith, r, low)) (omega (arith, r', low')))
      (frames-same Back was next (omega (arith, q, same, low)) (omega (arith, q', same', low')))

  -- ---- behind them
  waits-same : (way : Way) (t : ℕ) → t ≤ now → waiting_at (leg_on one other way) t ≡ waiting_at (leg_on a b way) t
  waits-same There t low =
      waiting-same (leg_on one other There) (leg_on a b There) there.config.lag now (way-same there back with) t low
  waits-same Back t low =
      let passed = with.passed in
      waiting-same (leg_on one other Back) (leg_on a b Back) back.config.lag back.live.passed
      (way-same back there (turned there back with)) t (omega (arith, passed, low))

  queue-same : (way : Way) (was next : PairCounts) → (counts_on was way).ticks ≤ now → (counts_on next way).ticks ≤ now →
      queue_told one other way was next ≡ queue_told a b way was next
  queue-same way was next low low' =
      ap₂ (λ n m. way_told way (queue_at n m)) (waits-same way (counts_on was way).ticks low)
      (waits-same way (counts_on next way).ticks low')

  end-same : (was next : PairCounts) → IsPairReached plan was → IsPairReached plan next → was.there.ticks ≤ now →
      next.there.ticks ≤ now → both_end one other was next ≡ both_end a b was next
  end-same was next reached reached' low low' =
      let is = has-pair-plan one other is-pair in
      let same = pair-together plan was is reached in
      let same' = pair-together plan next is reached' in
      ap₂ (λ there back. there ∷ back ∷ both_at next.there.ticks ∷ []) (queue-same There was next low low')
      (queue-same Back was next (omega (arith, same, low)) (omega (arith, same', low')))

  -- ---- as many rounds as it takes
  pub record SameTurns (m k : ℕ) (s : PairCounts) : Type 0 where
    pub turns : m ≡ k
    pub counts : after_turns m plan s ≡ after_turns m twin s
    pub told : turns_answers m one other s ≡ turns_answers m a b s

  module _ (from until : ℕ) (most : until ≤ now) where
    same-turns : (k : ℕ) (s : PairCounts) → IsPairReached plan s → BothSettled plan from until s →
        BothSettled twin from until s → from ≤ s.there.ticks →
        SameTurns (turns_until k plan until s) (turns_until k twin until s) s
    unfolding turns_until after_turns turns_answers
    same-turns zero s reached settled settled' low = record { turns = refl; counts = refl; told = refl }
    same-turns (suc k) s reached settled settled' low = elim (cases_Bool (nat_le until s.there.ticks)) [
      | inl e ↦ rw e (record { turns = refl; counts = refl; told = refl })
      | inr e ↦
          let left = leb-false until s.there.ticks e in
          let same = turn-same from until most s reached settled settled' low left in
          let next : PairCounts = turn_both plan s in
          let up = (turn-goes plan s).there.ticks in
          let once = (turn-goes plan s).there.most in
          let m : ℕ = turns_until k plan until next in
          let rest = same-turns k next (turn-reached plan s reached) (settled-turn plan from until s settled)
          (subst (λ next. BothSettled twin from until next) (sym same) (settled-turn twin from until s settled'))
          (omega (arith, low, up)) in
          rw e (record {
            turns = ap suc (rest.turns ∙ ap (turns_until k twin until) same);
            counts = rest.counts ∙ ap (after_turns m twin) same;
            told =
                ap₂ ◌++◌ (turn-told s next reached (turn-reached plan s reached) (omega (arith, left, most))
                (omega (arith, once, left, most))) rest.told
                ∙ ap (λ next. turn_answers a b s next ++ turns_answers m a b next) same;
          })
    ]

  -- ---- what comes of a saying
  pub record SameSaying (s : PairCounts) (saying : PairSaying) : Type 0 where
    pub counts : both_said plan s saying ≡ both_said twin s saying
    pub told : both_answer one other s saying ≡ both_answer a b s saying

  pub record SameSaid (s : PairCounts) (said : List PairSaying) : Type 0 where
    pub counts : both_from plan s said ≡ both_from twin s said
    pub told : pair_answers_from one other s said ≡ pair_answers_from a b s said

  item-same : (live : Live) (s : Counts) (kind : ItemKind) (leg parts : Leg) →
      ((earlier : List Item) → kind_refusal (scenario_by leg) (session_of leg) s.ticks earlier kind
      ≡ kind_refusal (scenario_by parts) (session_of parts) s.ticks earlier kind) → Stands live s →
      HasLater (live_after live (lands kind)) leg.items → HasLater (live_after live (lands kind)) parts.items →
      item_answers leg s kind ≡ item_answers parts s kind
  item-same live s kind leg parts refused stands more more' =
      ap (refused_answer (s.frames + s.commands))
      (ap (λ earlier. kind_refusal (scenario_by leg) (session_of leg) s.ticks earlier kind)
      (first-items live s leg.items stands (later-less live (lands kind) leg.items more)
      ∙ sym (first-items live s parts.items stands (later-less live (lands kind) parts.items more')))
      ∙ refused (take (s.frames + s.commands) parts.items))

  lands-same : (way : Way) (live : Live) (s : PairCounts) (kind : ItemKind) → Stands live (counts_on s way) →
      HasLater (live_after live (lands kind)) (leg_on one other way).items →
      HasLater (live_after live (lands kind)) (leg_on a b way).items → (counts_on s way).ticks ≤ now →
      SameSaying s (lands_on way kind)
  lands-same There live s kind stands more more' low = record {
    counts = ap (λ next. with_counts There next s)
        (way-lands (leg_on one other There) live s.there kind stands more
        ∙ sym (way-lands (leg_on a b There) live s.there kind stands more'));
    told = ap (map (way_told There)) (item-same live s.there kind (leg_on one other There) (leg_on a b There)
        (λ earlier. refused-same (leg_on one other There) (leg_on a b There) there.config.lag now
        (way-same there back with) s.there.ticks earlier kind low) stands more more');
  }
  lands-same Back live s kind stands more more' low =
      let passed = with.passed in
      record {
        counts = ap (λ next. with_counts Back next s)
            (way-lands (leg_on one other Back) live s.back kind stands more
            ∙ sym (way-lands (leg_on a b Back) live s.back kind stands more'));
        told = ap (map (way_told Back)) (item-same live s.back kind (leg_on one other Back) (leg_on a b Back)
            (λ earlier. refused-same (leg_on one other Back) (leg_on a b Back) back.config.lag back.live.passed
            (way-same back there (turned there back with)) s.back.ticks earlier kind (omega (arith, passed, low)))
            stands more more');
      }

  pass-same : (lt lb : Live) (s : PairCounts) (k : ℕ) → lt.passed + k ≤ there.config.ticks → BothStand lt lb s →
      IsPairReached plan s → IsPairReached twin s → HasLater (live_after lt (passes k)) there.items →
      HasLater (live_after lb (passes k)) back.items → HasLater (live_after lt (passes k)) there.items' →
      HasLater (live_after lb (passes k)) back.items' → lt.passed + k ≤ now → SameSaying s (both_pass k)
  pass-same lt lb s k left stand reached reached' more more' late late' low =
      let t = stand.there.ticks in
      let until : ℕ = s.there.ticks + k in
      let is = has-pair-plan one other is-pair in
      let is' = has-pair-plan a b is-second in
      let same = pair-together plan s is reached in
      let settled = settle one other is-pair lt lb s k stand same more more' in
      let settled' = settle a b is-second lt lb s k stand same late late' in
      let most : until ≤ now = omega (arith, t, low) in
      let few : until ≤ there.config.ticks = omega (arith, t, left) in
      let low_from : lt.passed ≤ s.there.ticks = omega (arith, t) in
      let turns = same-turns lt.passed until most (pair_bound plan) s reached settled settled' low_from in
      let long = same-turns lt.passed until most (pair_bound plan + pair_bound twin) s reached settled settled' low_from in
      let n : ℕ = turns_for k plan s in
      let rounds : turns_for k plan s ≡ turns_for k twin s =
      sym (more-turns plan is (pair_bound twin) lt.passed until s reached settled few)
      ∙ long.turns
      ∙ ap (λ bound. turns_until bound twin until s) (swapped (pair_bound plan) (pair_bound twin))
      ∙ more-turns twin is' (pair_bound plan) lt.passed until s reached' settled' few in
      let counts : after_turns n plan s ≡ after_turns (turns_for k twin s) twin s =
      turns.counts ∙ ap (λ n. after_turns n twin s) rounds in
      record {
        counts = counts;
        told = ap₂ (λ told (made : PairCounts). told ++ both_end one other s made)
            (turns.told ∙ ap (λ n. turns_answers n a b s) rounds) counts
            ∙ ap (λ l. turns_answers (turns_for k twin s) a b s ++ l)
            (subst (λ next. both_end one other s next ≡ both_end a b s next) counts
            (end-same s (after_turns n plan s) reached (turns-reached n plan s reached) (omega (arith, t, low))
            (let made = pass-made one other is-pair lt lb s k left stand reached more more' in omega (arith, made, t, low))));
      }

  one-same : (saying : PairSaying) (lt lb : Live) (s : PairCounts) →
      CanSayAll there.config.ticks lt (saying_on There saying) → BothStand lt lb s → IsPairReached plan s →
      IsPairReached twin s → HasLater (live_from lt (saying_on There saying)) there.items →
      HasLater (live_from lb (saying_on Back saying)) back.items →
      HasLater (live_from lt (saying_on There saying)) there.items' →
      HasLater (live_from lb (saying_on Back saying)) back.items' →
      (live_from lt (saying_on There saying)).passed ≤ now → SameSaying s saying
  unfolding CanSayAll live_from
  one-same (lands_on There kind) lt lb s can stand reached reached' more more' late late' low =
      let t = stand.there.ticks in
      lands-same There lt s kind stand.there more late (omega (arith, t, low))
  one-same (lands_on Back kind) lt lb s can stand reached reached' more more' late late' low =
      let t = stand.there.ticks in
      let same = pair-together plan s (has-pair-plan one other is-pair) reached in
      lands-same Back lb s kind stand.back more' late' (omega (arith, t, same, low))
  one-same (cuts_on way m) lt lb s can stand reached reached' more more' late late' low =
      record { counts = refl; told = refl }
  one-same (mends_on way m) lt lb s can stand reached reached' more more' late late' low =
      record { counts = refl; told = refl }
  one-same (both_pass k) lt lb s can stand reached reached' more more' late late' low =
      pass-same lt lb s k can.0.left stand reached reached' more more' late late' low

  all-same : (said : List PairSaying) (lt lb : Live) (s : PairCounts) →
      CanSayAll there.config.ticks lt (said_on There said) → BothStand lt lb s → IsPairReached plan s →
      IsPairReached twin s → HasLater (live_from lt (said_on There said)) there.items →
      HasLater (live_from lb (said_on Back said)) back.items →
      HasLater (live_from lt (said_on There said)) there.items' →
      HasLater (live_from lb (said_on Back said)) back.items' →
      (live_from lt (said_on There said)).passed ≤ now → SameSaid s said
  unfolding live_from both_from pair_answers_from
  all-same [] lt lb s can stand reached reached' more more' late late' low = record { counts = refl; told = refl }
  all-same (saying ∷ said) lt lb s can stand reached reached' more more' late late' low =
      let next : Live = live_from lt (saying_on There saying) in
      let next' : Live = live_from lb (saying_on Back saying) in
      let e = live-said There lt saying said in
      let e' = live-said Back lb saying said in
      let m = subst (λ live. HasLater live there.items) e more in
      let m' = subst (λ live. HasLater live back.items) e' more' in
      let l = subst (λ live. HasLater live there.items') e late in
      let l' = subst (λ live. HasLater live back.items') e' late' in
      let passed = subst (λ (live : Live). live.passed ≤ now) e low in
      let up = passed-rises (said_on There said) next in
      let front = can-front there.config.ticks (saying_on There saying) (said_on There said) lt can in
      let m1 = later-all (said_on There said) next there.items m in
      let m2 = later-all (said_on Back said) next' back.items m' in
      let same = one-same saying lt lb s front stand reached reached' m1 m2
      (later-all (said_on There said) next there.items' l) (later-all (said_on Back said) next' back.items' l')
      (omega (arith, up, passed)) in
      let rest = all-same said next next' (both_said plan s saying)
      (can-back there.config.ticks (saying_on There saying) (said_on There said) lt can)
      (stand-one one other is-pair saying lt lb s front stand reached m1 m2) (said-reached one other s saying reached)
      (subst (λ c. IsPairReached twin c) (sym same.counts) (said-reached a b s saying reached')) m m' l l' passed in
      record {
        counts = rest.counts ∙ ap (λ c. both_from twin c said) same.counts;
        told = ap₂ ◌++◌ same.told (rest.told ∙ ap (λ c. pair_answers_from a b c said) same.counts);
      }

  -- ---- from the beginning
  begin-same : pair_begin plan ≡ pair_begin twin
  begin-same =
      ap₂ (λ sizes sizes'. let s : PairCounts = record { there = empty sizes; back = empty sizes' } in s)
      (has-paths (leg_on one other There) (can There) ∙ (way-same there back with).lines
      ∙ sym (has-paths (leg_on a b There) (can-second There)))
      (has-paths (leg_on one other Back) (can Back) ∙ (way-same back there (turned there back with)).lines
      ∙ sym (has-paths (leg_on a b Back) (can-second Back)))
    where
      empty : ℕ → Counts
      empty size = record {
        ticks = 0;
        frames = 0;
        commands = 0;
        lines = replicate size (record { carried = 0; popped = 0 });
        rows = 0;
        backs = 0;
      }

  pub begun-same : (said : List PairSaying) → CanSayAll there.config.ticks (opened there.config) (said_on There said) →
      there.live ≡ live_from (opened there.config) (said_on There said) →
      back.live ≡ live_from (opened back.config) (said_on Back said) →
      SameSaid (pair_begin plan) said
  begun-same said can is is' =
      let passed : (live_from (opened there.config) (said_on There said)).passed ≤ now =
      subst (λ (live : Live). live.passed ≤ now) is (omega arith) in
      all-same said (opened there.config) (opened back.config) (pair_begin plan) can
      (begun one other is-pair there.config back.config) (pair-begins plan)
      (subst (λ c. IsPairReached twin c) (sym begin-same) (pair-begins twin))
      (subst (λ live. HasLater live there.items) is there.agrees.items)
      (subst (λ live. HasLater live back.items) is' back.agrees.items)
      (subst (λ live. HasLater live there.items') is there.agrees'.items)
      (subst (λ live. HasLater live back.items') is' back.agrees'.items) passed

  pub both-same : (said : List PairSaying) → SameSaid (pair_begin plan) said →
      (pair_counts one other said ≡ pair_counts a b said) × (pair_answers one other said ≡ pair_answers a b said)
  both-same said same = (
    same.counts ∙ ap (λ c. both_from twin c said) begin-same,
    same.told ∙ ap (λ c. pair_answers_from a b c said) begin-same,
  )
