-- What the answers of a pair tell of each way is what its rows deliver, its decision steps and its refused items; and the ticks
-- that are told never fall, over both ways together.
use Rattle.std.proofs.Common.{◌≡◌, ℕ, zero, suc, ◌+◌, ◌≤◌, nat_lt, inl, inr, List, [], ◌∷◌, ◌++◌, flat_map, map}
use Rattle.std.proofs.Common.{Option, Some, None, refl, sym, ◌∙◌, ap, ap₂, subst, arith, append_assoc}
use Rattle.std.proofs.lemmas.Bool.{cases_Bool, ltb-true}
use Rattle.std.proofs.lemmas.Grind.{flat_map-append}
use Rattle.std.proofs.lemmas.List.{append-nil}
use Rattle.law_model.specs.Common.{Counts, Due, Leg, command_due, frame_due, rows_of, segments_on, steps_in}
use Rattle.law_model.specs.Common.{delineate_within, hunt_within}
use Rattle.law_model.specs.declared.item_refusals.Refusal.{Refusal}
use Rattle.law_model.specs.declared.script_types.Config.{Config}
use Rattle.law_model.specs.declared.script_types.ItemKind.{ItemKind}
use Rattle.law_model.specs.declared.script_types.Script.{Script}
use Rattle.law_walk.specs.Common.{delivered_of, numbered, refusal_at, refusals_among}
use Rattle.law_walk.specs.DeliveredFrames.{delivered_since}
use Rattle.law_pair.specs.declared.pair_events.Way.{Way}
use Rattle.law_pair.specs.declared.pair_events.Way.TheVariants.{There, Back}
use Rattle.law_pair.specs.Common.{IsPair, IsPairReached, PairCounts, PairPlan, counts_on, first_due, land_first}
use Rattle.law_pair.specs.Common.{landed, left_after, pair_begin, pair_plan, tick_of}
use Rattle.law_pair.proofs.PairWayAndPacketLaws.{has-pair-plan}
use Rattle.law_pair.proofs.ReachedPairAndStallLaws.{pair-together}
use Rattle.law_live.specs.Common.{Answer, CanSayAll, HasLater, Live, PairAnswer, PairSaying, Rises, after_turns}
use Rattle.law_live.specs.Common.{answers_on, both_answer, both_end, both_from, both_pass, both_said, cuts_on, frames_got}
use Rattle.law_live.specs.Common.{frames_told, got_at, item_answers, items_refused, lands_on, leg_on, live_from, mends_on}
use Rattle.law_live.specs.Common.{next_item, now_at, pair_answers_from, pair_times}
use Rattle.law_live.specs.Common.{round_answers, said_on, saying_on, steps_between, steps_made, steps_told, times_told}
use Rattle.law_live.specs.Common.{answer_on, turn_answers, turn_both, turns_answers, turns_for, way_told, pair_time_of, refused_answer}
use Rattle.law_live.specs.Common.{queue_at, refused_item, waiting_at}
use Rattle.law_live.specs.Common.{AreOthers, changed_number, last_number, queue_of, queues_told}
use Rattle.law_live.proofs.QueueAndRoomLaws.{Tells, none-wait, queues-frames, queues-refused, queues-step, tells-more}
use Rattle.law_live.proofs.QueueAndRoomLaws.{tells-none, tells-since}
use Rattle.law_live.specs.LiveAnswers.{got_of, refusal_of, step_of, time_of}
use Rattle.law_live.proofs.AnsweredFrameAndRefusalLaws.{got-round, grown, refused-frames, refused-item, refused-step}
use Rattle.law_live.proofs.AnsweredFrameAndRefusalLaws.{rises-append, rises-from, steps-round, steps_to}
use Rattle.law_live.proofs.AnsweredFrameAndRefusalLaws.{times-frames, times-refused}
use Rattle.law_live.proofs.BothWaysCountLaws.{BothStand, begun, live-said, pair-walked, said-reached, stand-one}
use Rattle.law_pair.proofs.PairMeasureAndDrainLaws.{pair-begins}
use Rattle.law_live.specs.Common.{IsPairSaid, PairAgrees, config_on, live_of, opened, pair_answers, pair_counts}
use Rattle.std.specs.List.{range_with_len}
use Rattle.law_live.proofs.BothWaysRoundLaws.{BothGo, turn-goes, turn-reached}
use Rattle.law_live.proofs.ConversationCountAndScriptLaws.{Stands, later-all}
use Rattle.law_live.proofs.AgreeingLegConversationLaws.{can-back, can-front}
use Rattle.law_live.proofs.LiveRoundAndLandingLaws.{Goes}

-- ---- answers of one way after another
own : (way : Way) (told : List Answer) → answers_on way (map (way_told way) told) ≡ told
own There [] = refl
own There (answer ∷ told) = ap (λ l. answer ∷ l) (own There told)
own Back [] = refl
own Back (answer ∷ told) = ap (λ l. answer ∷ l) (own Back told)

none-back : (told : List Answer) → answers_on There (map (way_told Back) told) ≡ []
none-back [] = refl
none-back (answer ∷ told) = none-back told

none-there : (told : List Answer) → answers_on Back (map (way_told There) told) ≡ []
none-there [] = refl
none-there (answer ∷ told) = none-there told

on-append : (way : Way) (xs ys : List PairAnswer) → answers_on way (xs ++ ys) ≡ answers_on way xs ++ answers_on way ys
on-append way xs ys = flat_map-append (answer_on way) xs ys

module _ (one other : Script) where
  abbrev plan : PairPlan
  plan = pair_plan one other

  -- a round answers of a way what a round of its session does
  pub round-on : (way : Way) (was now : PairCounts) → answers_on way (turn_answers one other was now)
      ≡ round_answers (leg_on one other way) (counts_on was way) (counts_on now way)
  round-on There was now =
      let steps : List Answer = steps_between was.there.ticks now.there.ticks in
      let steps' : List Answer = steps_between was.back.ticks now.back.ticks in
      let frames : List Answer =
      map (got_at now.there.ticks) (delivered_since (leg_on one other There) was.there.rows now.there.rows) in
      let frames' : List Answer =
      map (got_at now.back.ticks) (delivered_since (leg_on one other Back) was.back.rows now.back.rows) in
      on-append There (map (way_told There) steps ++ map (way_told Back) steps')
      (map (way_told There) frames ++ map (way_told Back) frames')
      ∙ ap₂ ◌++◌
      (on-append There (map (way_told There) steps) (map (way_told Back) steps')
      ∙ ap₂ ◌++◌ (own There steps) (none-back steps') ∙ append-nil steps)
      (on-append There (map (way_told There) frames) (map (way_told Back) frames')
      ∙ ap₂ ◌++◌ (own There frames) (none-back frames') ∙ append-nil frames)
  round-on Back was now =
      let steps : List Answer = steps_between was.there.ticks now.there.ticks in
      let steps' : List Answer = steps_between was.back.ticks now.back.ticks in
      let frames : List Answer =
      map (got_at now.there.ticks) (delivered_since (leg_on one other There) was.there.rows now.there.rows) in
      let frames' : List Answer =
      map (got_at now.back.ticks) (delivered_since (leg_on one other Back) was.back.rows now.back.rows) in
      on-append Back (map (way_told There) steps ++ map (way_told Back) steps')
      (map (way_told There) frames ++ map (way_told Back) frames')
      ∙ ap₂ ◌++◌
      (on-append Back (map (way_told There) steps) (map (way_told Back) steps')
      ∙ ap₂ ◌++◌ (none-there steps) (own Back steps'))
      (on-append Back (map (way_told There) frames) (map (way_told Back) frames')
      ∙ ap₂ ◌++◌ (none-there frames) (own Back frames'))

  goes-on : (more : ℕ) (way : Way) (was now : PairCounts) → BothGo more was now →
      Goes more (counts_on was way) (counts_on now way)
  goes-on more There was now goes = goes.there
  goes-on more Back was now goes = goes.back

  -- an item answers of its way what one of its session does
  abbrev pub item_on : Way → Way → PairCounts → ItemKind → List Answer
  item_on There There s kind = item_answers (leg_on one other There) s.there kind
  item_on Back Back s kind = item_answers (leg_on one other Back) s.back kind
  item_on There Back s kind = []
  item_on Back There s kind = []

  pub item-on : (way of : Way) (s : PairCounts) (kind : ItemKind) →
      answers_on way (both_answer one other s (lands_on of kind)) ≡ item_on way of s kind
  item-on There There s kind = own There (item_answers (leg_on one other There) s.there kind)
  item-on Back Back s kind = own Back (item_answers (leg_on one other Back) s.back kind)
  item-on There Back s kind = none-back (item_answers (leg_on one other Back) s.back kind)
  item-on Back There s kind = none-there (item_answers (leg_on one other There) s.there kind)

  -- behind the rounds of a pass
  abbrev end_on : Way → PairCounts → PairCounts → List Answer
  end_on way was now =
      queue_at (waiting_at (leg_on one other way) (counts_on was way).ticks)
      (waiting_at (leg_on one other way) (counts_on now way).ticks) ∷ now_at now.there.ticks ∷ []

  end-on : (way : Way) (was now : PairCounts) → answers_on way (both_end one other was now) ≡ end_on way was now
  end-on There was now = refl
  end-on Back was now = refl

  -- ---- an item makes no tick and takes no row
  pub record Keeps (s next : Counts) : Type 0 where
    pub ticks : next.ticks ≡ s.ticks
    pub rows : next.rows ≡ s.rows

  landed-keeps : (item : Due) (s : Counts) → Keeps s (landed item s)
  landed-keeps (frame_due due) s = record { ticks = refl; rows = refl }
  landed-keeps (command_due due) s = record { ticks = refl; rows = refl }

  land-keeps : (found : Option Due) (s : Counts) → Keeps s (land_first found s).counts
  land-keeps None s = record { ticks = refl; rows = refl }
  land-keeps (Some item) s = elim (cases_Bool (nat_lt s.ticks (tick_of item))) [
    | inl e ↦ rw e (record { ticks = refl; rows = refl })
    | inr e ↦ rw e (landed-keeps item s)
  ]

  pub lands-keeps : (of way : Way) (s : PairCounts) (kind : ItemKind) →
      Keeps (counts_on s way) (counts_on (both_said plan s (lands_on of kind)) way)
  lands-keeps There There s kind = land-keeps (first_due (left_after s.there.frames s.there.commands plan.there.items)) s.there
  lands-keeps Back Back s kind = land-keeps (first_due (left_after s.back.frames s.back.commands plan.back.items)) s.back
  lands-keeps There Back s kind = record { ticks = refl; rows = refl }
  lands-keeps Back There s kind = record { ticks = refl; rows = refl }

  -- ---- what the answers of a way tell of some kind, where a round tells what its counts gain
  module _ {X : Type 0} (way : Way) (tells : Answer → List X) (total : Counts → List X)
      (round : (was now : Counts) → Goes 1 was now →
      total was ++ flat_map tells (round_answers (leg_on one other way) was now) ≡ total now)
    where
      turns-tell : (n : ℕ) (s : PairCounts) → total (counts_on s way)
          ++ flat_map tells (answers_on way (turns_answers n one other s))
          ≡ total (counts_on (after_turns n plan s) way)
      unfolding after_turns turns_answers
      turns-tell zero s = append-nil (total (counts_on s way))
      turns-tell (suc n) s =
          let next : PairCounts = turn_both plan s in
          let made : List Answer = round_answers (leg_on one other way) (counts_on s way) (counts_on next way) in
          let rest : List Answer = answers_on way (turns_answers n one other next) in
          ap (λ told. total (counts_on s way) ++ flat_map tells told)
          (on-append way (turn_answers one other s next) (turns_answers n one other next)
          ∙ ap (λ l. l ++ rest) (round-on way s next))
          ∙ ap (λ l. total (counts_on s way) ++ l) (flat_map-append tells made rest)
          ∙ sym (append_assoc (total (counts_on s way)) (flat_map tells made) (flat_map tells rest))
          ∙ ap (λ l. l ++ flat_map tells rest)
          (round (counts_on s way) (counts_on next way) (goes-on 1 way s next (turn-goes plan s)))
          ∙ turns-tell n next

      passed-tells : (s : PairCounts) (k : ℕ) → ((ticks : ℕ) → tells (now_at ticks) ≡ []) →
          ((was now : ℕ) → tells (queue_at was now) ≡ []) → total (counts_on s way)
          ++ flat_map tells (answers_on way (both_answer one other s (both_pass k)))
          ≡ total (counts_on (both_said plan s (both_pass k)) way)
      passed-tells s k none still =
          let n : ℕ = turns_for k plan s in
          let next : PairCounts = both_said plan s (both_pass k) in
          let told : List Answer = answers_on way (turns_answers n one other s) in
          let was : ℕ = waiting_at (leg_on one other way) (counts_on s way).ticks in
          let wait : ℕ = waiting_at (leg_on one other way) (counts_on next way).ticks in
          ap (λ l. total (counts_on s way) ++ l)
          (ap (flat_map tells) (on-append way (turns_answers n one other s) (both_end one other s next)
          ∙ ap (λ l. told ++ l) (end-on way s next))
          ∙ flat_map-append tells told (end_on way s next)
          ∙ ap (λ l. flat_map tells told ++ l)
          (ap₂ (λ a b. a ++ (b ++ [])) (still was wait) (none next.there.ticks))
          ∙ append-nil (flat_map tells told))
          ∙ turns-tell n s

      -- where an item that lands tells nothing of it
      module _ (none : (ticks : ℕ) → tells (now_at ticks) ≡ []) (still : (was now : ℕ) → tells (queue_at was now) ≡ [])
          (quiet : (number : ℕ) (why : Refusal) → tells (refused_item number why) ≡ [])
          (keeps : (s next : Counts) → Keeps s next → total next ≡ total s)
        where
          refusal-quiet : (number : ℕ) (why : Option Refusal) → flat_map tells (refused_answer number why) ≡ []
          refusal-quiet number None = refl
          refusal-quiet number (Some why) = append-nil (tells (refused_item number why)) ∙ quiet number why

          item-quiet : (of : Way) (s : PairCounts) (kind : ItemKind) →
              flat_map tells (answers_on way (both_answer one other s (lands_on of kind))) ≡ []
          item-quiet of s kind =
              ap (flat_map tells) (item-on way of s kind)
              ∙ by way of
            where
              by : (way of : Way) → flat_map tells (item_on way of s kind) ≡ []
              by There There = refusal-quiet (s.there.frames + s.there.commands) (refusal_at (leg_on one other There) (next_item s.there kind))
              by Back Back = refusal-quiet (s.back.frames + s.back.commands) (refusal_at (leg_on one other Back) (next_item s.back kind))
              by There Back = refl
              by Back There = refl

          to-tells : (s : PairCounts) (saying : PairSaying) → total (counts_on s way)
              ++ flat_map tells (answers_on way (both_answer one other s saying))
              ≡ total (counts_on (both_said plan s saying) way)
          to-tells s (lands_on of kind) =
              ap (λ l. total (counts_on s way) ++ l) (item-quiet of s kind)
              ∙ append-nil (total (counts_on s way))
              ∙ sym (keeps (counts_on s way) (counts_on (both_said plan s (lands_on of kind)) way) (lands-keeps of way s kind))
          to-tells s (cuts_on of m) = append-nil (total (counts_on s way))
          to-tells s (mends_on of m) = append-nil (total (counts_on s way))
          to-tells s (both_pass k) = passed-tells s k none still

          pub both-tell : (said : List PairSaying) (s : PairCounts) → total (counts_on s way)
              ++ flat_map tells (answers_on way (pair_answers_from one other s said))
              ≡ total (counts_on (both_from plan s said) way)
          unfolding pair_answers_from both_from
          both-tell [] s = append-nil (total (counts_on s way))
          both-tell (saying ∷ said) s =
              let next : PairCounts = both_said plan s saying in
              let made : List Answer = answers_on way (both_answer one other s saying) in
              let rest : List Answer = answers_on way (pair_answers_from one other next said) in
              ap (λ told. total (counts_on s way) ++ flat_map tells told)
              (on-append way (both_answer one other s saying) (pair_answers_from one other next said))
              ∙ ap (λ l. total (counts_on s way) ++ l) (flat_map-append tells made rest)
              ∙ sym (append_assoc (total (counts_on s way)) (flat_map tells made) (flat_map tells rest))
              ∙ ap (λ l. l ++ flat_map tells rest) (to-tells s saying)
              ∙ both-tell said next

  -- ---- frames, and decision steps
  pub got-both : (way : Way) (said : List PairSaying) (s : PairCounts) →
      delivered_of (leg_on one other way) (counts_on s way).rows
      ++ frames_got (answers_on way (pair_answers_from one other s said))
      ≡ delivered_of (leg_on one other way) (counts_on (both_from plan s said) way).rows
  got-both way said s =
      both-tell way got_of (λ (c : Counts). delivered_of (leg_on one other way) c.rows)
      (λ was now goes.
      ap (λ l. delivered_of (leg_on one other way) was.rows ++ l) (got-round (leg_on one other way) was now)
      ∙ grown (leg_on one other way) was.rows now.rows goes.rows)
      (λ ticks. refl) (λ was now. refl) (λ number why. refl)
      (λ s next keeps. ap (delivered_of (leg_on one other way)) keeps.rows) said s

  pub steps-both : (way : Way) (said : List PairSaying) (s : PairCounts) →
      steps_to (counts_on s way).ticks ++ steps_made (answers_on way (pair_answers_from one other s said))
      ≡ steps_to (counts_on (both_from plan s said) way).ticks
  steps-both way said s =
      both-tell way step_of (λ (c : Counts). steps_to c.ticks)
      (λ was now goes. steps-round (leg_on one other way) was now goes.ticks goes.most)
      (λ ticks. refl) (λ was now. refl) (λ number why. refl) (λ s next keeps. ap steps_to keeps.ticks) said s

  -- ---- items that are refused
  refused-round : (way : Way) (was now : Counts) →
      items_refused (round_answers (leg_on one other way) was now) ≡ []
  refused-round way was now =
      let frames : List (List ℕ) = delivered_since (leg_on one other way) was.rows now.rows in
      flat_map-append refusal_of (steps_between was.ticks now.ticks) (map (got_at now.ticks) frames)
      ∙ ap₂ ◌++◌ (refused-step (nat_lt (steps_in was.ticks) (steps_in now.ticks)) (steps_in was.ticks))
      (refused-frames now.ticks frames)

  refused-way : (way of : Way) (live : Live) (s : PairCounts) (kind : ItemKind) → Stands live (counts_on s way) →
      refusals_among (leg_on one other way) (numbered 0 live.items)
      ++ items_refused (answers_on way (both_answer one other s (lands_on of kind)))
      ≡ refusals_among (leg_on one other way) (numbered 0 (live_from live (saying_on way (lands_on of kind))).items)
  unfolding live_from
  refused-way There There live s kind stands =
      ap (λ told. refusals_among (leg_on one other There) (numbered 0 live.items) ++ items_refused told)
      (item-on There There s kind) ∙ refused-item (leg_on one other There) live s.there kind stands
  refused-way Back Back live s kind stands =
      ap (λ told. refusals_among (leg_on one other Back) (numbered 0 live.items) ++ items_refused told)
      (item-on Back Back s kind) ∙ refused-item (leg_on one other Back) live s.back kind stands
  refused-way There Back live s kind stands =
      ap (λ told. refusals_among (leg_on one other There) (numbered 0 live.items) ++ items_refused told)
      (item-on There Back s kind) ∙ append-nil (refusals_among (leg_on one other There) (numbered 0 live.items))
  refused-way Back There live s kind stands =
      ap (λ told. refusals_among (leg_on one other Back) (numbered 0 live.items) ++ items_refused told)
      (item-on Back There s kind) ∙ append-nil (refusals_among (leg_on one other Back) (numbered 0 live.items))

  same-cut : (way of : Way) (live : Live) (m : ℕ) → (live_from live (saying_on way (cuts_on of m))).items ≡ live.items
  unfolding live_from
  same-cut There There live m = refl
  same-cut Back Back live m = refl
  same-cut There Back live m = refl
  same-cut Back There live m = refl

  same-mended : (way of : Way) (live : Live) (m : ℕ) → (live_from live (saying_on way (mends_on of m))).items ≡ live.items
  unfolding live_from
  same-mended There There live m = refl
  same-mended Back Back live m = refl
  same-mended There Back live m = refl
  same-mended Back There live m = refl

  refused-one : (way : Way) (live : Live) (s : PairCounts) (saying : PairSaying) → Stands live (counts_on s way) →
      refusals_among (leg_on one other way) (numbered 0 live.items)
      ++ items_refused (answers_on way (both_answer one other s saying))
      ≡ refusals_among (leg_on one other way) (numbered 0 (live_from live (saying_on way saying)).items)
  unfolding live_from
  refused-one way live s (lands_on of kind) stands = refused-way way of live s kind stands
  refused-one way live s (cuts_on of m) stands =
      append-nil (refusals_among (leg_on one other way) (numbered 0 live.items))
      ∙ ap (λ items. refusals_among (leg_on one other way) (numbered 0 items)) (sym (same-cut way of live m))
  refused-one way live s (mends_on of m) stands =
      append-nil (refusals_among (leg_on one other way) (numbered 0 live.items))
      ∙ ap (λ items. refusals_among (leg_on one other way) (numbered 0 items)) (sym (same-mended way of live m))
  refused-one way live s (both_pass k) stands =
      ap (λ l. refusals_among (leg_on one other way) (numbered 0 live.items) ++ l)
      (passed-tells way refusal_of (λ c. []) (λ was now goes. refused-round way was now) s k (λ ticks. refl) (λ was now. refl))
      ∙ append-nil (refusals_among (leg_on one other way) (numbered 0 live.items))

  -- ---- how many frames wait
  queues-round : (way : Way) (was now : Counts) → queues_told (round_answers (leg_on one other way) was now) ≡ []
  queues-round way was now =
      let frames : List (List ℕ) = delivered_since (leg_on one other way) was.rows now.rows in
      flat_map-append queue_of (steps_between was.ticks now.ticks) (map (got_at now.ticks) frames)
      ∙ ap₂ ◌++◌ (queues-step was.ticks now.ticks) (queues-frames now.ticks frames)

  queues-item : (way of : Way) (s : PairCounts) (kind : ItemKind) →
      queues_told (answers_on way (both_answer one other s (lands_on of kind))) ≡ []
  queues-item There There s kind =
      ap queues_told (item-on There There s kind)
      ∙ queues-refused (s.there.frames + s.there.commands) (refusal_at (leg_on one other There) (next_item s.there kind))
  queues-item Back Back s kind =
      ap queues_told (item-on Back Back s kind)
      ∙ queues-refused (s.back.frames + s.back.commands) (refusal_at (leg_on one other Back) (next_item s.back kind))
  queues-item There Back s kind = ap queues_told (item-on There Back s kind)
  queues-item Back There s kind = ap queues_told (item-on Back There s kind)

  queues-pass : (way : Way) (s : PairCounts) (k : ℕ) →
      queues_told (answers_on way (both_answer one other s (both_pass k)))
      ≡ changed_number (waiting_at (leg_on one other way) (counts_on s way).ticks)
      (waiting_at (leg_on one other way) (counts_on (both_said plan s (both_pass k)) way).ticks)
  queues-pass way s k =
      let n : ℕ = turns_for k plan s in
      let next : PairCounts = both_said plan s (both_pass k) in
      let told : List Answer = answers_on way (turns_answers n one other s) in
      ap queues_told (on-append way (turns_answers n one other s) (both_end one other s next)
      ∙ ap (λ l. told ++ l) (end-on way s next))
      ∙ flat_map-append queue_of told (end_on way s next)
      ∙ ap₂ ◌++◌ (turns-tell way queue_of (λ c. []) (λ was now goes. queues-round way was now) n s)
      (append-nil (changed_number (waiting_at (leg_on one other way) (counts_on s way).ticks)
      (waiting_at (leg_on one other way) (counts_on next way).ticks)))

  pub queues-to : (way : Way) (s : PairCounts) (saying : PairSaying) →
      Tells (leg_on one other way) (counts_on s way).ticks (counts_on (both_said plan s saying) way).ticks
      (queues_told (answers_on way (both_answer one other s saying)))
  queues-to way s (lands_on of kind) =
      tells-none (leg_on one other way) (counts_on s way).ticks (counts_on (both_said plan s (lands_on of kind)) way).ticks
      (queues_told (answers_on way (both_answer one other s (lands_on of kind)))) (queues-item way of s kind)
      (sym (lands-keeps of way s kind).ticks)
  queues-to way s (cuts_on of m) =
      tells-none (leg_on one other way) (counts_on s way).ticks (counts_on s way).ticks [] refl refl
  queues-to way s (mends_on of m) =
      tells-none (leg_on one other way) (counts_on s way).ticks (counts_on s way).ticks [] refl refl
  queues-to way s (both_pass k) =
      subst (Tells (leg_on one other way) (counts_on s way).ticks
      (counts_on (both_said plan s (both_pass k)) way).ticks) (sym (queues-pass way s k))
      (tells-since (leg_on one other way) (counts_on s way).ticks (counts_on (both_said plan s (both_pass k)) way).ticks)

  pub queues-both : (way : Way) (said : List PairSaying) (s : PairCounts) →
      Tells (leg_on one other way) (counts_on s way).ticks (counts_on (both_from plan s said) way).ticks
      (queues_told (answers_on way (pair_answers_from one other s said)))
  unfolding pair_answers_from both_from
  queues-both way [] s =
      tells-none (leg_on one other way) (counts_on s way).ticks (counts_on s way).ticks [] refl refl
  queues-both way (saying ∷ said) s =
      let next : PairCounts = both_said plan s saying in
      let made : List Answer = answers_on way (both_answer one other s saying) in
      let rest : List Answer = answers_on way (pair_answers_from one other next said) in
      subst (Tells (leg_on one other way) (counts_on s way).ticks (counts_on (both_from plan next said) way).ticks)
      (sym (ap queues_told (on-append way (both_answer one other s saying) (pair_answers_from one other next said))
      ∙ flat_map-append queue_of made rest))
      (tells-more (leg_on one other way) (counts_on s way).ticks (counts_on next way).ticks
      (counts_on (both_from plan next said) way).ticks (queues_told made) (queues_told rest) (queues-to way s saying)
      (queues-both way said next))

-- one saying after another, where both ways stand
module _ (one other : Script) (pair : IsPair one other) where
  abbrev pub stand_on : Way → Live → Live → Live
  stand_on There there back = there
  stand_on Back there back = back

  pub stands-on : (way : Way) (there back : Live) (s : PairCounts) → BothStand there back s →
      Stands (stand_on way there back) (counts_on s way)
  stands-on There there back s stand = stand.there
  stands-on Back there back s stand = stand.back

  pub refused-both : (way : Way) (said : List PairSaying) (there back : Live) (s : PairCounts) →
      CanSayAll one.config.ticks there (said_on There said) → BothStand there back s →
      IsPairReached (pair_plan one other) s → HasLater (live_from there (said_on There said)) one.items →
      HasLater (live_from back (said_on Back said)) other.items →
      refusals_among (leg_on one other way) (numbered 0 (stand_on way there back).items)
      ++ items_refused (answers_on way (pair_answers_from one other s said))
      ≡ refusals_among (leg_on one other way)
      (numbered 0 (live_from (stand_on way there back) (said_on way said)).items)
  unfolding pair_answers_from live_from
  refused-both way [] there back s can stand reached more more' =
      append-nil (refusals_among (leg_on one other way) (numbered 0 (stand_on way there back).items))
  refused-both way (saying ∷ said) there back s can stand reached more more' =
      let plan : PairPlan = pair_plan one other in
      let next : PairCounts = both_said plan s saying in
      let now : Live = live_from there (saying_on There saying) in
      let now' : Live = live_from back (saying_on Back saying) in
      let late = subst (λ live. HasLater live one.items) (live-said There there saying said) more in
      let late' = subst (λ live. HasLater live other.items) (live-said Back back saying said) more' in
      let before : List (ℕ × Refusal) =
      refusals_among (leg_on one other way) (numbered 0 (stand_on way there back).items) in
      let made : List Answer = answers_on way (both_answer one other s saying) in
      let rest : List Answer = answers_on way (pair_answers_from one other next said) in
      let stood = stand-one one other pair saying there back s
      (can-front one.config.ticks (saying_on There saying) (said_on There said) there can) stand reached
      (later-all (said_on There said) now one.items late) (later-all (said_on Back said) now' other.items late') in
      ap (λ told. before ++ items_refused told)
      (on-append way (both_answer one other s saying) (pair_answers_from one other next said))
      ∙ ap (λ l. before ++ l) (flat_map-append refusal_of made rest)
      ∙ sym (append_assoc before (items_refused made) (items_refused rest))
      ∙ ap (λ l. l ++ items_refused rest)
      (refused-one one other way (stand_on way there back) s saying (stands-on way there back s stand)
      ∙ ap (λ (live : Live). refusals_among (leg_on one other way) (numbered 0 live.items)) (after way))
      ∙ refused-both way said now now' next
      (can-back one.config.ticks (saying_on There saying) (said_on There said) there can) stood
      (said-reached one other s saying reached) late late'
      ∙ ap (λ (live : Live). refusals_among (leg_on one other way) (numbered 0 live.items)) (whole way)
    where
      after : (way : Way) → live_from (stand_on way there back) (saying_on way saying)
          ≡ stand_on way (live_from there (saying_on There saying)) (live_from back (saying_on Back saying))
      after There = refl
      after Back = refl

      whole : (way : Way) → live_from (stand_on way (live_from there (saying_on There saying))
          (live_from back (saying_on Back saying))) (said_on way said)
          ≡ live_from (stand_on way there back) (said_on way (saying ∷ said))
      whole There = sym (live-said There there saying said)
      whole Back = sym (live-said Back back saying said)

-- ---- the ticks
module _ (one other : Script) (pair : IsPair one other) where
  times-own : (way : Way) (told : List Answer) → pair_times (map (way_told way) told) ≡ times_told told
  times-own way [] = refl
  times-own way (answer ∷ told) = ap (λ l. time_of answer ++ l) (times-own way told)

  -- a step is made in the last of these ticks
  late-step : (n was now : ℕ) → now ≡ n → was ≤ now → now ≤ was + 1 → Rises n n (times_told (steps_between was now))
  unfolding Rises
  late-step n was now is up most = elim (cases_Bool (nat_lt (steps_in was) (steps_in now))) [
    | inl e ↦
        let low = ltb-true (steps_in was) (steps_in now) e in
        rw e (omega (arith, low, most, is), omega (arith, low, most, is))
    | inr e ↦ rw e (omega arith)
  ]

  late-frames : (n now : ℕ) (frames : List (List ℕ)) → now ≡ n → Rises n n (times_told (map (got_at now) frames))
  late-frames n now frames is =
      subst (λ n. Rises n n (times_told (map (got_at now) frames))) is (times-frames now frames)

  turn-times : (s : PairCounts) → IsPairReached (pair_plan one other) s →
      Rises s.there.ticks (turn_both (pair_plan one other) s).there.ticks
      (pair_times (turn_answers one other s (turn_both (pair_plan one other) s)))
  turn-times s reached =
      let next : PairCounts = turn_both (pair_plan one other) s in
      let n : ℕ = next.there.ticks in
      let is = has-pair-plan one other pair in
      let same : next.back.ticks ≡ n =
      sym (pair-together (pair_plan one other) next is (turn-reached (pair_plan one other) s reached)) in
      let goes = turn-goes (pair_plan one other) s in
      let up = goes.there.ticks in
      let up' = goes.back.ticks in
      let most = goes.there.most in
      let most' = goes.back.most in
      let steps : List PairAnswer = steps_told There s next in
      let steps' : List PairAnswer = steps_told Back s next in
      let frames : List PairAnswer = frames_told one other There s next in
      let frames' : List PairAnswer = frames_told one other Back s next in
      rises-from s.there.ticks n n (pair_times (turn_answers one other s next)) up
      (subst (Rises n n)
      (sym (flat_map-append pair_time_of (steps ++ steps') (frames ++ frames')
      ∙ ap₂ ◌++◌ (flat_map-append pair_time_of steps steps') (flat_map-append pair_time_of frames frames')))
      (rises-append n n n (pair_times steps ++ pair_times steps') (pair_times frames ++ pair_times frames')
      (rises-append n n n (pair_times steps) (pair_times steps')
      (subst (Rises n n) (sym (times-own There (steps_between s.there.ticks n)))
      (late-step n s.there.ticks n refl up most))
      (subst (Rises n n) (sym (times-own Back (steps_between s.back.ticks next.back.ticks)))
      (late-step n s.back.ticks next.back.ticks same up' most')))
      (rises-append n n n (pair_times frames) (pair_times frames')
      (subst (Rises n n) (sym (times-own There (map (got_at n)
      (delivered_since (leg_on one other There) s.there.rows next.there.rows))))
      (late-frames n n (delivered_since (leg_on one other There) s.there.rows next.there.rows) refl))
      (subst (Rises n n) (sym (times-own Back (map (got_at next.back.ticks)
      (delivered_since (leg_on one other Back) s.back.rows next.back.rows))))
      (late-frames n next.back.ticks (delivered_since (leg_on one other Back) s.back.rows next.back.rows) same)))))

  turns-times : (n : ℕ) (s : PairCounts) → IsPairReached (pair_plan one other) s →
      Rises s.there.ticks (after_turns n (pair_plan one other) s).there.ticks
      (pair_times (turns_answers n one other s))
  unfolding Rises after_turns turns_answers
  turns-times zero s reached = omega arith
  turns-times (suc n) s reached =
      let next : PairCounts = turn_both (pair_plan one other) s in
      let last : ℕ = (after_turns n (pair_plan one other) next).there.ticks in
      subst (Rises s.there.ticks last)
      (sym (flat_map-append pair_time_of (turn_answers one other s next) (turns_answers n one other next)))
      (rises-append s.there.ticks next.there.ticks last (pair_times (turn_answers one other s next))
      (pair_times (turns_answers n one other next)) (turn-times s reached)
      (turns-times n next (turn-reached (pair_plan one other) s reached)))

  item-times : (way : Way) (s : PairCounts) (kind : ItemKind) →
      pair_times (both_answer one other s (lands_on way kind)) ≡ []
  item-times way s kind =
      let c : Counts = counts_on s way in
      times-own way (item_answers (leg_on one other way) c kind)
      ∙ times-refused (c.frames + c.commands) (refusal_at (leg_on one other way) (next_item c kind))

  times-to : (s : PairCounts) (saying : PairSaying) → IsPairReached (pair_plan one other) s →
      Rises s.there.ticks (both_said (pair_plan one other) s saying).there.ticks
      (pair_times (both_answer one other s saying))
  unfolding Rises
  times-to s (lands_on way kind) reached =
      let ticks = (lands-keeps one other way There s kind).ticks in
      subst (Rises s.there.ticks (both_said (pair_plan one other) s (lands_on way kind)).there.ticks)
      (sym (item-times way s kind)) (omega (arith, ticks))
  times-to s (cuts_on way m) reached = omega arith
  times-to s (mends_on way m) reached = omega arith
  times-to s (both_pass k) reached =
      let n : ℕ = turns_for k (pair_plan one other) s in
      let next : PairCounts = both_said (pair_plan one other) s (both_pass k) in
      let now : ℕ = next.there.ticks in
      subst (Rises s.there.ticks now)
      (sym (flat_map-append pair_time_of (turns_answers n one other s) (both_end one other s next)))
      (rises-append s.there.ticks now now (pair_times (turns_answers n one other s)) (now ∷ [])
      (turns-times n s reached) (omega arith, omega arith))

  pub times-both : (said : List PairSaying) (s : PairCounts) → IsPairReached (pair_plan one other) s →
      Rises s.there.ticks (both_from (pair_plan one other) s said).there.ticks
      (pair_times (pair_answers_from one other s said))
  unfolding Rises both_from pair_answers_from
  times-both [] s reached = omega arith
  times-both (saying ∷ said) s reached =
      let next : PairCounts = both_said (pair_plan one other) s saying in
      let last : ℕ = (both_from (pair_plan one other) next said).there.ticks in
      subst (Rises s.there.ticks last)
      (sym (flat_map-append pair_time_of (both_answer one other s saying) (pair_answers_from one other next said)))
      (rises-append s.there.ticks next.there.ticks last (pair_times (both_answer one other s saying))
      (pair_times (pair_answers_from one other next said)) (times-to s saying reached)
      (times-both said next (said-reached one other s saying reached)))

-- ---- more that is said
pub counts-more : (pair : PairPlan) (s : PairCounts) (said more : List PairSaying) →
    both_from pair s (said ++ more) ≡ both_from pair (both_from pair s said) more
unfolding both_from
counts-more pair s [] more = refl
counts-more pair s (saying ∷ said) more = counts-more pair (both_said pair s saying) said more

pub answers-more : (one other : Script) (s : PairCounts) (said more : List PairSaying) →
    pair_answers_from one other s (said ++ more)
    ≡ pair_answers_from one other s said
    ++ pair_answers_from one other (both_from (pair_plan one other) s said) more
unfolding both_from pair_answers_from
answers-more one other s [] more = refl
answers-more one other s (saying ∷ said) more =
    let next : PairCounts = both_said (pair_plan one other) s saying in
    ap (λ l. both_answer one other s saying ++ l) (answers-more one other next said more)
    ∙ sym (append_assoc (both_answer one other s saying) (pair_answers_from one other next said)
    (pair_answers_from one other (both_from (pair_plan one other) next said) more))

-- ---- from the beginning
none-delivered : (leg : Leg) → delivered_of leg 0 ≡ []
unfolding rows_of segments_on delineate_within hunt_within
none-delivered leg = refl

module _ (one other : Script) (said : List PairSaying) where
  abbrev begun-counts : PairCounts
  begun-counts = pair_begin (pair_plan one other)

  pub answers-got : (way : Way) → frames_got (answers_on way (pair_answers one other said))
      ≡ delivered_of (leg_on one other way) (counts_on (pair_counts one other said) way).rows
  answers-got way = begin way (got-both one other way said begun-counts)
    where
      begin : (way : Way) → delivered_of (leg_on one other way) (counts_on begun-counts way).rows
          ++ frames_got (answers_on way (pair_answers one other said))
          ≡ delivered_of (leg_on one other way) (counts_on (pair_counts one other said) way).rows →
          frames_got (answers_on way (pair_answers one other said))
          ≡ delivered_of (leg_on one other way) (counts_on (pair_counts one other said) way).rows
      begin There whole =
          sym (ap (λ l. l ++ frames_got (answers_on There (pair_answers one other said)))
          (none-delivered (leg_on one other There))) ∙ whole
      begin Back whole =
          sym (ap (λ l. l ++ frames_got (answers_on Back (pair_answers one other said)))
          (none-delivered (leg_on one other Back))) ∙ whole

  pub answers-steps : (way : Way) → steps_made (answers_on way (pair_answers one other said))
      ≡ range_with_len 0 (steps_in (counts_on (pair_counts one other said) way).ticks)
  answers-steps There = steps-both one other There said begun-counts
  answers-steps Back = steps-both one other Back said begun-counts

  begun-tells : (way : Way) → Tells (leg_on one other way) 0 (counts_on (pair_counts one other said) way).ticks
      (queues_told (answers_on way (pair_answers one other said)))
  begun-tells There = queues-both one other There said begun-counts
  begun-tells Back = queues-both one other Back said begun-counts

  pub answers-queues : (way : Way) → AreOthers 0 (queues_told (answers_on way (pair_answers one other said)))
  answers-queues way =
      subst (λ n. AreOthers n (queues_told (answers_on way (pair_answers one other said))))
      (none-wait (leg_on one other way)) (begun-tells way).others

  pub answers-queue : (way : Way) → last_number 0 (queues_told (answers_on way (pair_answers one other said)))
      ≡ waiting_at (leg_on one other way) (counts_on (pair_counts one other said) way).ticks
  answers-queue way =
      ap (λ n. last_number n (queues_told (answers_on way (pair_answers one other said))))
      (sym (none-wait (leg_on one other way))) ∙ (begun-tells way).last

  module _ (pair : IsPair one other) where
    pub answers-times : (more : List PairSaying) →
        Rises (pair_counts one other said).there.ticks (pair_counts one other (said ++ more)).there.ticks
        (pair_times (pair_answers_from one other (pair_counts one other said) more))
    answers-times more =
        subst (λ (s : PairCounts). Rises (pair_counts one other said).there.ticks s.there.ticks
        (pair_times (pair_answers_from one other (pair_counts one other said) more)))
        (sym (counts-more (pair_plan one other) begun-counts said more))
        (times-both one other pair more (pair_counts one other said) (pair-walked one other said))

    pub answers-refused : (there back : Config) → IsPairSaid there back said → PairAgrees there back said one other →
        (way : Way) → items_refused (answers_on way (pair_answers one other said))
        ≡ refusals_among (leg_on one other way)
        (numbered 0 (live_of (config_on there back way) (said_on way said)).items)
    unfolding numbered
    answers-refused there back well agrees way =
        let ticks : there.ticks ≡ one.config.ticks =
        sym (ap (λ (config : Config). config.ticks) agrees.there_agrees.network) in
        by way (refused-both one other pair way said (opened there) (opened back) begun-counts
        (subst (λ ticks. CanSayAll ticks (opened there) (said_on There said)) ticks (well There).each)
        (begun one other pair there back) (pair-begins (pair_plan one other)) agrees.there_agrees.items
        agrees.back_agrees.items)
      where
        by : (way : Way) → refusals_among (leg_on one other way)
            (numbered 0 (stand_on one other pair way (opened there) (opened back)).items)
            ++ items_refused (answers_on way (pair_answers one other said))
            ≡ refusals_among (leg_on one other way)
            (numbered 0 (live_from (stand_on one other pair way (opened there) (opened back)) (said_on way said)).items) →
            items_refused (answers_on way (pair_answers one other said))
            ≡ refusals_among (leg_on one other way)
            (numbered 0 (live_of (config_on there back way) (said_on way said)).items)
        by There whole = whole
        by Back whole = whole
