-- What a session that has ended writes, and what is handed back.
use Rattle.std.proofs.Common.{◌≡◌, ◌≤◌, ℕ, List, [], ◌++◌, length, Option, IfSome, Result, Ok, Err, refl}
use Rattle.std.proofs.Common.{sym, subst, append_assoc}
use Rattle.law_model.specs.Common.{Appends, AppendsPart, leg_of, Start}
use Rattle.law_model.specs.declared.script_types.Script.{Script}
use Rattle.law_model.specs.declared.item_refusals.Refusal.{Refusal}
use Rattle.law_model.specs.declared.session_totals.Totals.{Totals}
use Rattle.octet_io.proofs.AppendedTextAndPrefixLaws.{Appends-then, AppendsPart-then, AppendsPart-longer}
use Rattle.text_scripts.specs.script_read.Script.{script_of}
use Rattle.text_report.specs.ReportLines.{got_texts, refused_texts, total_text}
use Rattle.law_walk.specs.Common.{delivered_of, refusals_among, totals_among, numbered, final_report}
use Rattle.text_got.specs.declared.got_text.GotLines.{GotLines}
use Rattle.text_got.specs.TextSoFar.{HasText}
use Rattle.text_scripts.specs.declared.script_read.script_fault.ScriptFault.{ScriptFault}
use Rattle.law_headline.specs.Headline.{IsRunHeadline}
use Rattle.law_headline.proofs.ScriptTextHeadlineLaws.{run_headline}
use Rattle.command_parts.specs.Common.{Answer, reads, Lent, Takes, WritesAll, Ends, answer_of, script_answer}
use Rattle.command_parts.proofs.TaskEndAndStatusLaws.{is-done, known-text}
use Rattle.command_run.specs.HandedSession.{end_text}

-- what follows the got lines, of the session's own numbers
pub end-written : {K : Type 0} (written : K → Option (List ℕ)) (faults : K → ℕ) (first last : GotLines K)
    (start : Start) (refusals : List (ℕ × Refusal)) (totals : Totals) (script : Script)
    → refusals ≡ refusals_among (leg_of script) (numbered 0 script.items)
    → totals ≡ totals_among (leg_of script) script.config.ticks script.config.ticks (numbered 0 script.items)
    → HasText written faults first start []
    → ((start : Start) (before : List ℕ) → HasText written faults first start before
    → HasText written faults last start (before ++ refused_texts refusals ++ total_text totals))
    → HasText written faults last start (end_text script)
end-written written faults first last start refusals totals script refused counted fresh rest =
    let Q : Totals → Type 0 = λ totals. HasText written faults last start
    (refused_texts (refusals_among (leg_of script) (numbered 0 script.items)) ++ total_text totals) in
    subst Q counted (subst (λ (refusals : List (ℕ × Refusal)). HasText written faults last start
    (refused_texts refusals ++ total_text totals)) refused (rest start [] fresh))

-- the got lines and what follows them are the whole report
whole-report : (script : Script) →
    got_texts (delivered_of (leg_of script) script.config.ticks) ++ end_text script ≡ final_report (leg_of script)
whole-report script =
    sym (append_assoc (got_texts (delivered_of (leg_of script) script.config.ticks))
    (refused_texts (refusals_among (leg_of script) (numbered 0 script.items)))
    (total_text (totals_among (leg_of script) script.config.ticks script.config.ticks (numbered 0 script.items))))

module _ {K : Type 0} (written : K → Option (List ℕ)) (faults : K → ℕ) (script : Script) where
  abbrev got : List ℕ
  got = got_texts (delivered_of (leg_of script) script.config.ticks)

  -- the got lines, and then the rest
  pub run-all : (old middle new : K) →
      Appends written faults old middle (got_texts (delivered_of (leg_of script) script.config.ticks)) →
      Appends written faults middle new (end_text script)
      → Appends written faults old new (final_report (leg_of script))
  run-all old middle new before then =
      let P : List ℕ → Type 0 = λ text. Appends written faults old new text in
      subst P (whole-report script) (Appends-then written faults old middle new got (end_text script) before then)

  run-part : (old new : K) → AppendsPart written faults old new (got ++ end_text script) →
      AppendsPart written faults old new (final_report (leg_of script))
  run-part old new stops = subst (AppendsPart written faults old new) (whole-report script) stops

  -- a fault comes in the rest
  pub run-got : (old middle new : K) →
      Appends written faults old middle (got_texts (delivered_of (leg_of script) script.config.ticks)) →
      AppendsPart written faults middle new (end_text script)
      → AppendsPart written faults old new (final_report (leg_of script))
  run-got old middle new before stops =
      run-part old new (AppendsPart-then written faults old middle new got (end_text script) before stops)

  -- a fault comes in the got lines
  pub run-cut : (old new : K) →
      AppendsPart written faults old new (got_texts (delivered_of (leg_of script) script.config.ticks))
      → AppendsPart written faults old new (final_report (leg_of script))
  run-cut old new stops = run-part old new (AppendsPart-longer written faults old new got (end_text script) stops)

-- ---- the headline
module _ {S K E : Type 0} (source : Lent S) (out : Lent K) (notes : Lent E) (status : ℕ) where
  abbrev IsHead : List ℕ → Type 0
  IsHead text = (written : List ℕ) × Takes out written × IsRunHeadline text written

  -- whatever else is written, the report is
  abbrev HasReport : (Script → Answer) → Type 0
  HasReport answer = (script : Script) → WritesAll out notes (answer script) → Takes out (final_report (leg_of script))

  told-by : (answer : Script → Answer) → HasReport answer → (text : List ℕ) (of : Result Script ScriptFault) →
      script_of text ≡ of → length text ≤ 67108864
      → WritesAll out notes (answer_of answer of) → IsHead text
  told-by answer has text (Ok script) is few all =
      (final_report (leg_of script), has script all, run_headline text script few is)
  told-by answer has text (Err fault) is few all = absurd all

  pub tells-headline : (answer : Script → Answer) → HasReport answer →
      Ends source out notes (reads (script_answer answer)) status → status ≡ 0
      → IfSome (source.octets source.old) IsHead
  tells-headline answer has ends at =
      let it = is-done source out notes (reads (script_answer answer)) status ends (λ never. never) at in
      let text = it.meets.0 in
      known-text source IsHead text it.meets.1
      (told-by answer has text (script_of text) refl it.meets.1.fits
      (subst (WritesAll out notes) (sym it.meets.2) it.written))
