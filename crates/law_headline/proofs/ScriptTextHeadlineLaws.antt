-- The headline of a script's text, with what walks and runs write of it, for the commands to cite.
use Rattle.std.proofs.Common.{◌≡◌, ℕ, ◌≤◌, List, [], length, ap, ◌∙◌, subst, arith, inr, Ok}
use Rattle.law_model.specs.Common.{begin, walked, IsValid, leg_of}
use Rattle.law_model.specs.declared.script_types.Script.{Script}
use Rattle.text_scripts.specs.script_read.Script.{script_of}
use Rattle.text_scripts.proofs.ScriptLineAndFirstFaultLaws.{valid_text}
use Rattle.law_progress.proofs.RoundProgressAndDrainLaws.{walked-reached}
use Rattle.law_walk.specs.Common.{walk_plan, landed_items, numbered, ConfirmsTrue, report_of, final_report}
use Rattle.law_walk.proofs.WalkPlanAndPoppedCellLaws.{sound-walks, begins-walked}
use Rattle.law_walk.proofs.AcceptedFrameAndDrainedWalkLaws.{drain-ends, counts-within, drained-report}
use Rattle.law_headline.specs.WalkTexts.{counts_in, walk_text}
use Rattle.law_headline.specs.Headline.{IsWalkHeadline, IsWalkReport, IsRunHeadline, IsRunReport}
use Rattle.law_headline.proofs.ReportedFramesLaws.{is_headline}

-- a walk takes no row beyond the ticks
few-rows : (script : Script) → IsValid script → (counts_in script).rows ≤ script.config.ticks
few-rows script valid =
    let within = counts-within (leg_of script) (counts_in script) (sound-walks (leg_of script) valid.sound)
    (walked-reached (walk_plan (leg_of script)) script.events) in
    omega (arith, within.0, within.1)

pub walk_headline : (text : List ℕ) (script : Script) → length text ≤ 67108864 → script_of text ≡ Ok script →
    IsWalkHeadline text (walk_text script)
walk_headline text script short said =
    let valid = valid_text text script short said in
    let s = counts_in script in (
      script,
      said,
      is_headline (leg_of script) s.ticks s.rows (landed_items (leg_of script) s) valid.sound
          (few-rows script valid),
    )

-- if what is confirmed first after each break is the place of a piece, nothing is presumed
pub walk_report : (text : List ℕ) (script : Script) → length text ≤ 67108864 → script_of text ≡ Ok script →
    ConfirmsTrue (leg_of script) (counts_in script).rows → IsWalkReport text (walk_text script)
walk_report text script short said starts =
    let valid = valid_text text script short said in
    let s = counts_in script in (
      script,
      said,
      (is_headline (leg_of script) s.ticks s.rows (landed_items (leg_of script) s) valid.sound
          (few-rows script valid)).tells (inr starts),
    )

pub run_headline : (text : List ℕ) (script : Script) → length text ≤ 67108864 → script_of text ≡ Ok script →
    IsRunHeadline text (final_report (leg_of script))
run_headline text script short said =
    let valid = valid_text text script short said in
    let all = script.config.ticks in
    (script, said, is_headline (leg_of script) all all (numbered 0 script.items) valid.sound (omega arith))

-- ---- without event lines
pub run_report : (text : List ℕ) (script : Script) → length text ≤ 67108864 → script_of text ≡ Ok script →
    script.events ≡ [] → ConfirmsTrue (leg_of script) (counts_in script).rows →
    IsRunReport text (final_report (leg_of script))
run_report text script short said none starts =
    let valid = valid_text text script short said in
    let leg = leg_of script in
    let all = script.config.ticks in
    let rows : (counts_in script).rows ≡ all =
    ap (λ events. (walked (walk_plan leg) events).rows) none
    ∙ drain-ends leg (begin (walk_plan leg)) (sound-walks leg valid.sound) (begins-walked leg) in (
      script,
      said,
      (is_headline leg all all (numbered 0 script.items) valid.sound (omega arith)).tells
          (inr (subst (ConfirmsTrue leg) rows starts)),
    )

pub walk-same : (text : List ℕ) (script : Script) → length text ≤ 67108864 → script_of text ≡ Ok script →
    script.events ≡ [] →
    walk_text script ≡ final_report (leg_of script)
walk-same text script short said none =
    ap (λ events. report_of (leg_of script) (walked (walk_plan (leg_of script)) events)) none
    ∙ drained-report (leg_of script) (begin (walk_plan (leg_of script))) (valid_text text script short said).sound
    (begins-walked (leg_of script))
