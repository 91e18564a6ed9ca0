-- The headline of each way of a conversation, by what was said over two configurations.
use Rattle.std.proofs.Common.{◌≡◌, ◌∙◌, ℕ, ◌++◌, List, ap, ap₂, sym, subst, arith, refl}
use Rattle.text_report.specs.ReportLines.{got_texts, refused_texts, total_text}
use Rattle.law_model.specs.Common.{Counts, IsSound, Leg}
use Rattle.law_model.specs.declared.item_refusals.Refusal.{Refusal}
use Rattle.law_model.specs.declared.script_types.Config.{Config}
use Rattle.law_model.specs.declared.script_types.Script.{Script}
use Rattle.law_walk.specs.Common.{landed_items, numbered, refusals_among, report_of, totals_of}
use Rattle.law_walk.proofs.WalkPlanAndPoppedCellLaws.{sound-walks}
use Rattle.law_walk.proofs.AcceptedFrameAndDrainedWalkLaws.{counts-within}
use Rattle.law_pair.specs.declared.pair_events.Way.{Way}
use Rattle.law_pair.specs.declared.pair_events.Way.TheVariants.{There, Back}
use Rattle.law_pair.specs.Common.{IsPair, counts_on}
use Rattle.law_pair.proofs.PairWayAndPacketLaws.{way-sound}
use Rattle.law_headline.specs.Headline.{IsHeadline}
use Rattle.law_headline.proofs.ReportedFramesLaws.{is_headline}
use Rattle.law_live.specs.Common.{IsPairNetwork, IsPairSaid, PairSaying, config_on}
use Rattle.law_live.specs.Common.{leg_on, live_of, pair_counts, said_on, script_on}
use Rattle.law_live.proofs.AnsweredFrameAndRefusalLaws.{all-landed}
use Rattle.law_live.proofs.BothWaysAnswerLaws.{answers-got, answers-refused}
use Rattle.law_live.proofs.BothWaysCountLaws.{way-stands}
use Rattle.law_live.proofs.BothWaysSharedLaws.{pair-own, said-pair}
use Rattle.law_live.proofs.BothWaysWalkLaws.{both-report, both-walks}
use Rattle.text_pairs.specs.declared.script_pair.ScriptPair.{ScriptPair}
use Rattle.pair_live.specs.PairHeadline.{IsWayHeadline, IsWayWalk, way_told_text}

module _ (there back : Config) (said : List PairSaying) (network : IsPairNetwork there back)
    (well : IsPairSaid there back said)
  where
    abbrev own : ScriptPair
    own = record { there = script_on there There said; back = script_on back Back said }

    abbrev one : Script
    one = script_on there There said

    abbrev other : Script
    other = script_on back Back said

    pub lines_pair : IsPair one other
    lines_pair = said-pair there back said network well

    way_items : (way : Way) → (live_of (config_on there back way) (said_on way said)).items
        ≡ (leg_on one other way).items
    way_items There = refl
    way_items Back = refl

    sound : (way : Way) → IsSound (leg_on one other way)
    sound There = way-sound one other lines_pair.there_way
    sound Back = way-sound other one lines_pair.back_way

    -- each item has landed
    landed_by : (way : Way) → landed_items (leg_on one other way) (counts_on (pair_counts one other said) way)
        ≡ numbered 0 (leg_on one other way).items
    landed_by There =
        let s : Counts = counts_on (pair_counts one other said) There in
        let stands = way-stands one other lines_pair there back said well (pair-own there back said) There in
        let frames = stands.frames in
        let orders = stands.commands in
        all-landed one.items s.frames s.commands 0 (omega (arith, frames)) (omega (arith, orders))
    landed_by Back =
        let s : Counts = counts_on (pair_counts one other said) Back in
        let stands = way-stands one other lines_pair there back said well (pair-own there back said) Back in
        let frames = stands.frames in
        let orders = stands.commands in
        all-landed other.items s.frames s.commands 0 (omega (arith, frames)) (omega (arith, orders))

    -- the report of its counts is what was answered
    report_told : (way : Way) → report_of (leg_on one other way) (counts_on (pair_counts one other said) way)
        ≡ way_told_text own said way
    report_told way =
        let leg : Leg = leg_on one other way in
        let s : Counts = counts_on (pair_counts one other said) way in
        ap₂ (λ frames (refused : List (ℕ × Refusal)). got_texts frames ++ refused_texts refused
        ++ total_text (totals_of leg s)) (sym (answers-got one other said way))
        (ap (refusals_among leg) (landed_by way)
        ∙ sym (answers-refused one other said lines_pair there back well (pair-own there back said) way
        ∙ ap (λ items. refusals_among leg (numbered 0 items)) (way_items way)))

    pub way_headline : (way : Way) → IsWayHeadline own said way
    way_headline way =
        let leg : Leg = leg_on one other way in
        let s : Counts = counts_on (pair_counts one other said) way in
        let within = counts-within leg s (sound-walks leg (sound way)) (both-walks one other lines_pair said way) in
        subst (IsHeadline leg s.ticks s.rows (landed_items leg s)) (report_told way)
        (is_headline leg s.ticks s.rows (landed_items leg s) (sound way) (omega (arith, within.0, within.1)))

    pub way_walk : (way : Way) → IsWayWalk own said way
    way_walk There = both-report there back said network well There
    way_walk Back = both-report there back said network well Back
