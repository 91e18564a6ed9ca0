-- How many frames of a way may be said by what is reckoned of it (both_reckoned).
use Rattle.std.proofs.Common.{◌≡◌, ℕ, ◌+◌, ◌<◌, ◌≤◌, List, [], ◌∷◌, map, fold, length, Option, Some, None}
use Rattle.std.proofs.Common.{option_map, refl, sym, ◌∙◌, ap, ap₂, subst, arith, append-nil}
use Rattle.std.proofs.lemmas.List.{length-map}
use Rattle.law_model.specs.Common.{Counts, DueFrame, Leg, Stream, due_of, dues_of, frame_refusal, offered, scenario_by}
use Rattle.law_model.specs.Common.{stream_before}
use Rattle.law_model.specs.declared.item_refusals.AcceptFault.{AcceptFault}
use Rattle.law_model.specs.declared.item_refusals.AcceptFault.TheVariants.{QueueFull}
use Rattle.law_model.specs.declared.item_refusals.Refusal.TheVariants.{Frame as frame_fault}
use Rattle.law_model.specs.declared.script_types.Config.{Config}
use Rattle.law_model.specs.declared.script_types.Item.{Item}
use Rattle.law_model.specs.declared.script_types.ItemKind.{ItemKind}
use Rattle.law_model.specs.declared.script_types.ItemKind.TheVariants.{Frame}
use Rattle.law_model.specs.declared.script_types.Script.{Script}
use Rattle.law_walk.specs.Common.{session_of, walk_plan}
use Rattle.law_pair.specs.declared.pair_events.Way.{Way}
use Rattle.law_pair.specs.declared.pair_events.Way.TheVariants.{There, Back}
use Rattle.law_pair.specs.Common.{IsPair, IsPairReached, PairCounts, PairPlan, counts_on, pair_begin, pair_plan}
use Rattle.law_pair.proofs.PairMeasureAndDrainLaws.{pair-begins}
use Rattle.law_live.specs.Common.{CanSayAll, HasLater, IsPairSaid, Live, PairAgrees, PairSaying, Reckoned}
use Rattle.law_live.specs.Common.{answers_on, both_answer, both_from, both_pass, both_reckoned, both_reckoned_from, both_said}
use Rattle.law_live.specs.Common.{config_on, cuts_on, item_answers, lands, lands_on, last_number, leg_on, live_after, live_from, live_of}
use Rattle.law_live.specs.Common.{mends_on, opened, pair_answers_from, pair_counts, passes, queues_told, reckoned_by}
use Rattle.law_live.specs.Common.{reckoned_to, refused_answer, refused_item, said_on, saying_on, waiting_at, way_told}
use Rattle.law_live.proofs.AgreeingLegConversationLaws.{can-back, can-front}
use Rattle.law_live.proofs.AnsweredFrameAndRefusalLaws.{dues-size, lands-ticks}
use Rattle.law_live.proofs.BothWaysAnswerLaws.{item-on, lands-keeps, queues-to, stand_on}
use Rattle.law_live.proofs.BothWaysCountLaws.{BothStand, begun, live-said, said-reached, stand-one, way-stands}
use Rattle.law_live.proofs.ConversationCountAndScriptLaws.{Stands, later-all}
use Rattle.law_live.proofs.QueueAndRoomLaws.{Reckons, met, next-refusal, none-wait, past-offers, reckons-land, refusal-full}
use Rattle.law_live.proofs.QueueAndRoomLaws.{refusal-room, sum-few}

module _ (one other : Script) (pair : IsPair one other) where
  abbrev plan : PairPlan
  plan = pair_plan one other

  -- ---- an item
  reckons-item : (leg : Leg) (live : Live) (s next : Counts) (kind : ItemKind) (was is : Reckoned) → Stands live s →
      HasLater live leg.items → next.ticks ≡ s.ticks → Reckons leg live s was →
      is ≡ reckoned_to (lands kind) (item_answers leg s kind) was → Reckons leg (live_after live (lands kind)) next is
  reckons-item leg live s next kind was is stands more same reckons e =
      let land = reckons-land leg live s kind was stands more reckons in
      subst (λ is. Reckons leg (live_after live (lands kind)) next is) (sym e) (record {
        queue = land.queue ∙ ap (waiting_at leg) (lands-ticks (walk_plan leg) s kind ∙ sym same);
        sum = land.sum;
      })

  -- ---- a pass: what was said before it is no longer due
  reckons-passed : (way : Way) (live : Live) (s : PairCounts) (k : ℕ) (was : Reckoned) → 1 ≤ k →
      Stands live (counts_on s way) →
      Stands (live_after live (passes k)) (counts_on (both_said plan s (both_pass k)) way) →
      Reckons (leg_on one other way) live (counts_on s way) was →
      Reckons (leg_on one other way) (live_after live (passes k)) (counts_on (both_said plan s (both_pass k)) way)
      (reckoned_to (passes k) (answers_on way (both_answer one other s (both_pass k))) was)
  reckons-passed way live s k was some stands next reckons =
      let leg : Leg = leg_on one other way in
      let now : ℕ = (counts_on (both_said plan s (both_pass k)) way).ticks in
      let told : List ℕ = queues_told (answers_on way (both_answer one other s (both_pass k))) in
      let queue : last_number was.queue told ≡ waiting_at leg now =
      ap (λ n. last_number n told) reckons.queue ∙ (queues-to one other way s (both_pass k)).last in
      let none : met leg (live_after live (passes k))
      ≡ stream_before (scenario_by leg) (session_of leg) (live.passed + k) =
      ap (λ offers. fold offered (stream_before (scenario_by leg) (session_of leg) (live.passed + k))
      (map (λ (offer : DueFrame). offer.frame) offers))
      (past-offers live.passed (live.passed + k) live.items (omega (arith, some)) stands.due) in
      let waits : length (met leg (live_after live (passes k))).waiting ≡ last_number was.queue told =
      ap (λ (stream : Stream). length stream.waiting) none ∙ ap (waiting_at leg) (sym next.ticks) ∙ sym queue in
      record { queue = queue; sum = omega (arith, waits) }

  -- ---- one saying
  abbrev one_reckoned : Way → PairCounts → PairSaying → Reckoned → Reckoned
  one_reckoned way s saying was =
      reckoned_by (saying_on way saying) (answers_on way (both_answer one other s saying)) was

  reckons-one : (way : Way) (saying : PairSaying) (live : Live) (s : PairCounts) (was : Reckoned) (ticks : ℕ) →
      CanSayAll ticks live (saying_on way saying) → Stands live (counts_on s way) →
      Stands (live_from live (saying_on way saying)) (counts_on (both_said plan s saying) way) →
      HasLater live (leg_on one other way).items → Reckons (leg_on one other way) live (counts_on s way) was →
      Reckons (leg_on one other way) (live_from live (saying_on way saying))
      (counts_on (both_said plan s saying) way) (one_reckoned way s saying was)
  unfolding CanSayAll live_from
  reckons-one There (lands_on There kind) live s was ticks can stands next more reckons =
      reckons-item (leg_on one other There) live s.there (counts_on (both_said plan s (lands_on There kind)) There) kind
      was (one_reckoned There s (lands_on There kind) was) stands more (lands-keeps one other There There s kind).ticks
      reckons (ap (λ told. reckoned_to (lands kind) told was) (item-on one other There There s kind))
  reckons-one Back (lands_on Back kind) live s was ticks can stands next more reckons =
      reckons-item (leg_on one other Back) live s.back (counts_on (both_said plan s (lands_on Back kind)) Back) kind
      was (one_reckoned Back s (lands_on Back kind) was) stands more (lands-keeps one other Back Back s kind).ticks
      reckons (ap (λ told. reckoned_to (lands kind) told was) (item-on one other Back Back s kind))
  reckons-one There (lands_on Back kind) live s was ticks can stands next more reckons = reckons
  reckons-one Back (lands_on There kind) live s was ticks can stands next more reckons = reckons
  reckons-one There (cuts_on There m) live s was ticks can stands next more reckons =
      record { queue = reckons.queue; sum = reckons.sum }
  reckons-one Back (cuts_on Back m) live s was ticks can stands next more reckons =
      record { queue = reckons.queue; sum = reckons.sum }
  reckons-one There (cuts_on Back m) live s was ticks can stands next more reckons = reckons
  reckons-one Back (cuts_on There m) live s was ticks can stands next more reckons = reckons
  reckons-one There (mends_on There m) live s was ticks can stands next more reckons =
      record { queue = reckons.queue; sum = reckons.sum }
  reckons-one Back (mends_on Back m) live s was ticks can stands next more reckons =
      record { queue = reckons.queue; sum = reckons.sum }
  reckons-one There (mends_on Back m) live s was ticks can stands next more reckons = reckons
  reckons-one Back (mends_on There m) live s was ticks can stands next more reckons = reckons
  reckons-one There (both_pass k) live s was ticks can stands next more reckons =
      reckons-passed There live s k was can.0.some stands next reckons
  reckons-one Back (both_pass k) live s was ticks can stands next more reckons =
      reckons-passed Back live s k was can.0.some stands next reckons

  -- ---- one saying after another
  reckons-both : (way : Way) (said : List PairSaying) (there back : Live) (s : PairCounts) (was : Reckoned) →
      CanSayAll one.config.ticks there (said_on There said) →
      CanSayAll other.config.ticks back (said_on Back said) → BothStand there back s → IsPairReached plan s →
      HasLater (live_from there (said_on There said)) one.items →
      HasLater (live_from back (said_on Back said)) other.items →
      Reckons (leg_on one other way) (stand_on one other pair way there back) (counts_on s way) was →
      Reckons (leg_on one other way) (stand_on one other pair way (live_from there (said_on There said))
      (live_from back (said_on Back said))) (counts_on (both_from plan s said) way)
      (both_reckoned_from way one other s was said)
  unfolding both_from both_reckoned_from live_from
  reckons-both way [] there back s was can can' stand reached more more' reckons = reckons
  reckons-both way (saying ∷ said) there back s was can can' stand reached more more' reckons =
      let now : Live = live_from there (saying_on There saying) in
      let now' : Live = live_from back (saying_on Back saying) in
      let a = live-said There there saying said in
      let b = live-said Back back saying said in
      let late = subst (λ live. HasLater live one.items) a more in
      let late' = subst (λ live. HasLater live other.items) b more' in
      let first = can-front one.config.ticks (saying_on There saying) (said_on There said) there can in
      let first' = can-front other.config.ticks (saying_on Back saying) (said_on Back said) back can' in
      let stood = stand-one one other pair saying there back s first stand reached
      (later-all (said_on There said) now one.items late) (later-all (said_on Back said) now' other.items late') in
      let soon = later-all (saying_on There saying) there one.items (later-all (said_on There said) now one.items late) in
      let soon' = later-all (saying_on Back saying) back other.items (later-all (said_on Back said) now' other.items late')
      in
      subst (λ live. Reckons (leg_on one other way) (stand_on one other pair way live
      (live_from back (said_on Back (saying ∷ said)))) (counts_on (both_from plan (both_said plan s saying) said) way)
      (both_reckoned_from way one other (both_said plan s saying) (one_reckoned way s saying was) said)) (sym a)
      (subst (λ live. Reckons (leg_on one other way) (stand_on one other pair way (live_from now (said_on There said))
      live) (counts_on (both_from plan (both_said plan s saying) said) way)
      (both_reckoned_from way one other (both_said plan s saying) (one_reckoned way s saying was) said)) (sym b)
      (reckons-both way said now now' (both_said plan s saying) (one_reckoned way s saying was)
      (can-back one.config.ticks (saying_on There saying) (said_on There said) there can)
      (can-back other.config.ticks (saying_on Back saying) (said_on Back said) back can') stood
      (said-reached one other s saying reached) late late' (by way first first' stood soon soon' reckons)))
    where
      by : (way : Way) → CanSayAll one.config.ticks there (saying_on There saying) →
          CanSayAll other.config.ticks back (saying_on Back saying) →
          BothStand (live_from there (saying_on There saying)) (live_from back (saying_on Back saying))
          (both_said plan s saying) → HasLater there one.items → HasLater back other.items →
          Reckons (leg_on one other way) (stand_on one other pair way there back) (counts_on s way) was →
          Reckons (leg_on one other way) (stand_on one other pair way (live_from there (saying_on There saying))
          (live_from back (saying_on Back saying))) (counts_on (both_said plan s saying) way)
          (one_reckoned way s saying was)
      by There first first' stood soon soon' reckons =
          reckons-one There saying there s was one.config.ticks first stand.there stood.there soon reckons
      by Back first first' stood soon soon' reckons =
          reckons-one Back saying back s was other.config.ticks first' stand.back stood.back soon' reckons

  -- ---- in a pair that agrees
  reckons-none : (way : Way) (there back : Config) →
      Reckons (leg_on one other way) (stand_on one other pair way (opened there) (opened back))
      (counts_on (pair_begin plan) way) (record { queue = 0; since = 0 })
  unfolding stream_before
  reckons-none There there back = record { queue = sym (none-wait (leg_on one other There)); sum = refl }
  reckons-none Back there back = record { queue = sym (none-wait (leg_on one other Back)); sum = refl }

  module _ (there back : Config) (said : List PairSaying) (well : IsPairSaid there back said)
      (agrees : PairAgrees there back said one other) (way : Way)
    where
      abbrev live : Live
      live = live_of (config_on there back way) (said_on way said)

      abbrev now : Counts
      now = counts_on (pair_counts one other said) way

      reckons : Reckons (leg_on one other way) live now (both_reckoned one other said way)
      reckons =
          by way (reckons-both way said (opened there) (opened back) (pair_begin plan) (record { queue = 0; since = 0 })
          (subst (λ ticks. CanSayAll ticks (opened there) (said_on There said))
          (sym (ap (λ (config : Config). config.ticks) agrees.there_agrees.network)) (well There).each)
          (subst (λ ticks. CanSayAll ticks (opened back) (said_on Back said))
          (sym (ap (λ (config : Config). config.ticks) agrees.back_agrees.network)) (well Back).each)
          (begun one other pair there back) (pair-begins plan) agrees.there_agrees.items agrees.back_agrees.items
          (reckons-none way there back))
        where
          by : (way : Way) → Reckons (leg_on one other way) (stand_on one other pair way
              (live_from (opened there) (said_on There said)) (live_from (opened back) (said_on Back said)))
              (counts_on (pair_counts one other said) way) (both_reckoned one other said way) →
              Reckons (leg_on one other way) (live_of (config_on there back way) (said_on way said))
              (counts_on (pair_counts one other said) way) (both_reckoned one other said way)
          by There is = is
          by Back is = is

      pub both-few : (both_reckoned one other said way).queue + (both_reckoned one other said way).since ≤ 256
      both-few = sum-few (leg_on one other way) live now (both_reckoned one other said way) reckons

      later : HasLater live (leg_on one other way).items
      later = by way
        where
          by : (way : Way) →
              HasLater (live_of (config_on there back way) (said_on way said)) (leg_on one other way).items
          by There = agrees.there_agrees.items
          by Back = agrees.back_agrees.items

      -- ---- a frame that is said next, by why it is refused
      next-answer : (octets : List ℕ) (why : Option AcceptFault) →
          frame_refusal octets (met (leg_on one other way) live) ≡ why →
          pair_answers_from one other (pair_counts one other said) (lands_on way (Frame octets) ∷ [])
          ≡ map (way_told way) (refused_answer (length live.items) (option_map frame_fault why))
      unfolding pair_answers_from
      next-answer octets why is =
          let stands = way-stands one other pair there back said well agrees way in
          let sizes = dues-size (dues_of live.items) in
          let size = length-map live.items (λ (item : Item). due_of item.due item.kind) in
          let frames = stands.frames in
          let commands = stands.commands in
          let number : now.frames + now.commands ≡ length live.items = omega (arith, sizes, size, frames, commands) in
          append-nil (map (way_told way) (item_answers (leg_on one other way) now (Frame octets)))
          ∙ ap (map (way_told way)) (ap₂ refused_answer number
          (next-refusal (leg_on one other way) live now octets stands later ∙ ap (option_map frame_fault) is))

      pub said-room : (octets : List ℕ) → 64 ≤ length octets → length octets ≤ 9600 →
          (both_reckoned one other said way).queue + (both_reckoned one other said way).since < 256 →
          pair_answers_from one other (pair_counts one other said) (lands_on way (Frame octets) ∷ []) ≡ []
      said-room octets least most room =
          let sum = reckons.sum in
          next-answer octets None (refusal-room octets (met (leg_on one other way) live) least most (omega (arith, room, sum)))

      pub said-full : (octets : List ℕ) → 64 ≤ length octets → length octets ≤ 9600 →
          (both_reckoned one other said way).queue + (both_reckoned one other said way).since ≡ 256 →
          pair_answers_from one other (pair_counts one other said) (lands_on way (Frame octets) ∷ [])
          ≡ way_told way (refused_item (length live.items) (frame_fault (QueueFull 256))) ∷ []
      said-full octets least most full =
          let sum = reckons.sum in
          next-answer octets (Some (QueueFull 256))
          (refusal-full octets (met (leg_on one other way) live) least most (sum ∙ full))
