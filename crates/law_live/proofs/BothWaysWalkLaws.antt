-- Each way of a conversation goes as a walk of its session, and a walk of both scripts begins as they did.
use Rattle.std.proofs.Common.{◌≡◌, ℕ, List, ◌++◌, refl, sym, ◌∙◌, ap, ap₂}
use Rattle.text_report.specs.ReportLines.{got_texts, refused_texts, total_text}
use Rattle.law_model.specs.Common.{Leg}
use Rattle.law_model.specs.declared.item_refusals.Refusal.{Refusal}
use Rattle.law_model.specs.declared.script_types.Config.{Config}
use Rattle.law_model.specs.declared.script_types.Script.{Script}
use Rattle.law_progress.proofs.RoundProgressAndDrainLaws.{reached-fits}
use Rattle.law_walk.specs.Common.{CanWalk, IsWalked, delivered_of, final_report, numbered, refusals_among, totals_among, walk_plan}
use Rattle.law_walk.specs.DeliveredFrames.{delivered_since}
use Rattle.law_walk.proofs.WalkPlanAndPoppedCellLaws.{has-plan}
use Rattle.law_pair.specs.declared.pair_events.Way.{Way}
use Rattle.law_pair.specs.declared.pair_events.Way.TheVariants.{There, Back}
use Rattle.law_pair.specs.Common.{IsPair, counts_on}
use Rattle.law_pair.proofs.PairWayAndPacketLaws.{back-walked, there-walked}
use Rattle.law_live.specs.Common.{IsPairNetwork, IsPairSaid, PairSaying, answers_on, config_on, frames_got, items_refused}
use Rattle.law_live.specs.Common.{leg_on, live_of, pair_answers, pair_counts, said_on, script_on}
use Rattle.law_live.proofs.AnsweredFrameAndRefusalLaws.{grown}
use Rattle.law_live.proofs.BothWaysAnswerLaws.{answers-got, answers-refused}
use Rattle.law_live.proofs.BothWaysCountLaws.{pair-walked}
use Rattle.law_live.proofs.BothWaysSamePastLaws.{can-walk}
use Rattle.law_live.proofs.BothWaysSharedLaws.{pair-own, said-pair}

module _ (one other : Script) (pair : IsPair one other) (said : List PairSaying) where
  pub both-walks : (way : Way) → IsWalked (leg_on one other way) (counts_on (pair_counts one other said) way)
  both-walks There = there-walked one other (pair_counts one other said) pair (pair-walked one other said)
  both-walks Back = back-walked one other (pair_counts one other said) pair (pair-walked one other said)

  can : (way : Way) → CanWalk (leg_on one other way)
  can There = can-walk one other pair.there_way
  can Back = can-walk other one pair.back_way

  pub both-first : (way : Way) → delivered_of (leg_on one other way) (leg_on one other way).config.ticks
      ≡ frames_got (answers_on way (pair_answers one other said))
      ++ delivered_since (leg_on one other way) (counts_on (pair_counts one other said) way).rows
      (leg_on one other way).config.ticks
  both-first way =
      let leg : Leg = leg_on one other way in
      let rows : ℕ = (counts_on (pair_counts one other said) way).rows in
      sym (grown leg rows leg.config.ticks
      (reached-fits (walk_plan leg) (counts_on (pair_counts one other said) way) (has-plan leg (can way))
      (both-walks way)).rows)
      ∙ ap (λ l. l ++ delivered_since leg rows leg.config.ticks) (sym (answers-got one other said way))

module _ (there back : Config) (said : List PairSaying) (network : IsPairNetwork there back)
    (well : IsPairSaid there back said)
  where
    abbrev one : Script
    one = script_on there There said

    abbrev other : Script
    other = script_on back Back said

    pair : IsPair one other
    pair = said-pair there back said network well

    same-items : (way : Way) → (live_of (config_on there back way) (said_on way said)).items ≡ (leg_on one other way).items
    same-items There = refl
    same-items Back = refl

    pub both-report : (way : Way) → final_report (leg_on one other way)
        ≡ got_texts (frames_got (answers_on way (pair_answers one other said))
        ++ delivered_since (leg_on one other way) (counts_on (pair_counts one other said) way).rows
        (leg_on one other way).config.ticks)
        ++ refused_texts (items_refused (answers_on way (pair_answers one other said)))
        ++ total_text (totals_among (leg_on one other way) (leg_on one other way).config.ticks
        (leg_on one other way).config.ticks (numbered 0 (leg_on one other way).items))
    both-report way =
        let leg : Leg = leg_on one other way in
        let totals : List ℕ = total_text (totals_among leg leg.config.ticks leg.config.ticks (numbered 0 leg.items)) in
        ap₂ (λ frames (refused : List (ℕ × Refusal)). got_texts frames ++ refused_texts refused ++ totals)
        (both-first one other pair said way)
        (sym (answers-refused one other said pair there back well (pair-own there back said) way
        ∙ ap (λ items. refusals_among leg (numbered 0 items)) (same-items way)))
