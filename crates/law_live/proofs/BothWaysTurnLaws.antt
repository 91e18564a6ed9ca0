-- What a loop over the rounds of a pass needs, and that an item which is said is the next one of its way.
use Rattle.std.proofs.Common.{◌≡◌, ℕ, suc, ◌+◌, ◌<◌, ◌≤◌, List, [], ◌∷◌, ◌++◌, length, slice_get, Some, None, sym, ◌∙◌, ap, subst, arith}
use Rattle.std.proofs.lemmas.List.{length-map}
use Rattle.law_model.specs.Common.{Counts, Leg, due_of, dues_of, held}
use Rattle.law_model.specs.declared.script_types.Item.{Item}
use Rattle.law_model.specs.declared.script_types.Config.{Config}
use Rattle.law_model.specs.declared.script_types.ItemKind.{ItemKind}
use Rattle.law_model.specs.declared.script_types.Script.{Script}
use Rattle.law_pair.specs.declared.pair_events.Way.{Way}
use Rattle.law_pair.specs.declared.pair_events.Way.TheVariants.{There, Back}
use Rattle.law_pair.specs.Common.{IsPair, PairCounts, PairPlan, counts_on, pair_bound, pair_plan, plan_on}
use Rattle.law_pair.proofs.PairWayAndPacketLaws.{has-pair-plan}
use Rattle.law_pair.proofs.ReachedPairAndStallLaws.{pair-together}
use Rattle.law_live.specs.Common.{CanSayAll, HasLater, IsPairSaid, Live, PairAgrees, PairSaying, after_turns, both_pass}
use Rattle.law_live.specs.Common.{both_passed, config_on, item_at, lands, lands_on, leg_on, live_after, live_from, live_of, opened}
use Rattle.law_live.specs.Common.{pair_counts, passes, said_on, turn_both, turns_until}
use Rattle.law_live.proofs.AgreeingLegConversationLaws.{can-back, live-more}
use Rattle.law_live.proofs.BothWaysCountLaws.{pair-less, pair-stands, pair-walked, said-more, settle, way-stands, well-less}
use Rattle.law_live.proofs.BothWaysRoundLaws.{BothSettled, settled-on, settled-turns, turn-turns, turns-go, turns-reached}
use Rattle.law_live.proofs.ConversationCountAndScriptLaws.{Stands, item-next}
use Rattle.law_live.proofs.LiveRoundAndLandingLaws.{settled-at, settled-free}
use Rattle.law_live.proofs.AnsweredFrameAndRefusalLaws.{dues-size}

-- what is said of a way by one saying more
one-more : (config : Config) (way : Way) (said : List PairSaying) (saying : PairSaying) →
    live_of config (said_on way (said ++ saying ∷ []))
    ≡ live_from (live_of config (said_on way said)) (said_on way (saying ∷ []))
one-more config way said saying =
    ap (live_of config) (said-more way said (saying ∷ []))
    ∙ live-more (opened config) (said_on way said) (said_on way (saying ∷ []))

module _ (one other : Script) (pair : IsPair one other) (there back : Config) (said : List PairSaying) where
  abbrev plan : PairPlan
  plan = pair_plan one other

  abbrev counts : PairCounts
  counts = pair_counts one other said

  module _ (k : ℕ) (well : IsPairSaid there back (said ++ both_pass k ∷ []))
      (agrees : PairAgrees there back (said ++ both_pass k ∷ []) one other)
    where
      less : PairAgrees there back said one other
      less = pair-less there back said (both_pass k ∷ []) one other well agrees

      before : IsPairSaid there back said
      before = well-less there back said (both_pass k ∷ []) well

      pub pass-left : both_passed there said + k ≤ one.config.ticks
      unfolding CanSayAll
      pass-left =
          let same = ap (λ (config : Config). config.ticks) agrees.there_agrees.network in
          let can = (can-back there.ticks (said_on There said) (said_on There (both_pass k ∷ [])) (opened there)
          (subst (λ said. CanSayAll there.ticks (opened there) said) (said-more There said (both_pass k ∷ []))
          (well There).each)).0.left in
          omega (arith, can, same)

      later-there : HasLater (live_after (live_of there (said_on There said)) (passes k)) one.items
      unfolding live_from
      later-there =
          subst (λ live. HasLater live one.items) (one-more there There said (both_pass k)) agrees.there_agrees.items

      later-back : HasLater (live_after (live_of back (said_on Back said)) (passes k)) other.items
      unfolding live_from
      later-back =
          subst (λ live. HasLater live other.items) (one-more back Back said (both_pass k)) agrees.back_agrees.items

      abbrev until : ℕ
      until = both_passed there said + k

      gone : (n : ℕ) → BothSettled plan (both_passed there said) until (after_turns n plan counts)
      gone n =
          let stand = pair-stands one other pair there back said before less in
          settled-turns n plan (both_passed there said) until counts
          (subst (λ ticks. BothSettled plan (both_passed there said) (ticks + k) counts) stand.there.ticks
          (settle one other pair (live_of there (said_on There said)) (live_of back (said_on Back said)) counts k stand
          (pair-together plan counts (has-pair-plan one other pair) (pair-walked one other said)) later-there later-back))

      pub pass-turn : (n : ℕ) → (after_turns n plan counts).there.ticks < until →
          turns_until (pair_bound plan) plan until (after_turns n plan counts)
          ≡ suc (turns_until (pair_bound plan) plan until (turn_both plan (after_turns n plan counts)))
      pass-turn n left =
          turn-turns plan (has-pair-plan one other pair) (both_passed there said) until (after_turns n plan counts)
          (turns-reached n plan counts (pair-walked one other said)) (gone n) left pass-left

      low : (n : ℕ) (way : Way) → both_passed there said ≤ (counts_on (after_turns n plan counts) way).ticks
      low n way = by way
        where
          by : (way : Way) → both_passed there said ≤ (counts_on (after_turns n plan counts) way).ticks
          by There =
              let up = (turns-go n plan counts).there.ticks in
              let ticks = (pair-stands one other pair there back said before less).there.ticks in
              omega (arith, up, ticks)
          by Back =
              let up = (turns-go n plan counts).back.ticks in
              let ticks = (pair-stands one other pair there back said before less).there.ticks in
              let same = pair-together plan counts (has-pair-plan one other pair) (pair-walked one other said) in
              omega (arith, up, ticks, same)

      pub pass-free : (n : ℕ) (way : Way) → (counts_on (after_turns n plan counts) way).ticks < until →
          held (counts_on (after_turns n plan counts) way).ticks (counts_on (after_turns n plan counts) way).frames
          (counts_on (after_turns n plan counts) way).commands 0 (plan_on plan way).items ≡ None
      pass-free n way left =
          let s : Counts = counts_on (after_turns n plan counts) way in
          settled-free (plan_on plan way) s
          (settled-at (plan_on plan way) (both_passed there said) until s
          (settled-on way plan (both_passed there said) until (after_turns n plan counts) (gone n)) (low n way) left)

  next-item : (live : Live) (s : Counts) (leg : Leg) (kind : ItemKind) → Stands live s →
      HasLater (live_after live (lands kind)) leg.items →
      slice_get leg.items (s.frames + s.commands) ≡ Some (item_at s.ticks kind)
  next-item live s leg kind stands more =
      let sizes = dues-size (dues_of live.items) in
      let size = length-map live.items (λ (item : Item). due_of item.due item.kind) in
      let frames = stands.frames in
      let commands = stands.commands in
      let number : s.frames + s.commands ≡ length live.items = omega (arith, sizes, size, frames, commands) in
      ap (slice_get leg.items) number
      ∙ item-next leg live kind more
      ∙ ap (λ t. Some (item_at t kind)) (sym stands.ticks)

  pub said-next : (way : Way) (kind : ItemKind) → IsPairSaid there back (said ++ lands_on way kind ∷ []) →
      PairAgrees there back (said ++ lands_on way kind ∷ []) one other →
      slice_get (leg_on one other way).items ((counts_on counts way).frames + (counts_on counts way).commands)
      ≡ Some (item_at (counts_on counts way).ticks kind)
  unfolding live_from
  said-next way kind well agrees =
      let live : Live = live_of (config_on there back way) (said_on way said) in
      let stands = way-stands one other pair there back said (well-less there back said (lands_on way kind ∷ []) well)
      (pair-less there back said (lands_on way kind ∷ []) one other well agrees) way in
      next-item live (counts_on counts way) (leg_on one other way) kind stands (later way agrees)
    where
      later : (way : Way) → PairAgrees there back (said ++ lands_on way kind ∷ []) one other →
          HasLater (live_after (live_of (config_on there back way) (said_on way said)) (lands kind))
          (leg_on one other way).items
      later There agrees =
          subst (λ live. HasLater live one.items) (one-more there There said (lands_on There kind))
          agrees.there_agrees.items
      later Back agrees =
          subst (λ live. HasLater live other.items) (one-more back Back said (lands_on Back kind))
          agrees.back_agrees.items
