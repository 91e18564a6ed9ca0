-- What is known of the walk that a room hands back, and of what is written of a text.
use Rattle.std.proofs.Common.{◌≡◌, ◌≤◌, ℕ, Bool, List, length, Some, Result, Ok, Err, refl, sym}
use Rattle.std.proofs.Common.{◌∙◌, ap, arith, OnOk, true, false, []}
use Rattle.std.proofs.Common.{◌++◌, append_assoc, decimal, ◌-◌, ◌+◌, reverse, slice_index_or}
use Rattle.std.proofs.Common.{flat_map}
use Rattle.law_model.specs.Common.{Counts, Leg, leg_of, scenario_by}
use Rattle.law_model.specs.declared.script_types.Script.{Script}
use Rattle.text_scripts.specs.declared.script_read.script_fault.ScriptFault.{ScriptFault}
use Rattle.text_scripts.specs.script_read.Script.{script_of}
use Rattle.law_headline.specs.WalkTexts.{counts_in, walk_text}
use Rattle.law_headline.specs.Headline.{IsRunReport}
use Rattle.law_headline.proofs.ScriptTextHeadlineLaws.{walk_report, run_report}
use Rattle.walk_engine.specs.Common.{Walked}
use Rattle.command_parts.specs.Common.{Answer, Lent, HasScript, answer_of}
use Rattle.command_rooms.specs.HandedWalk.{HandsScript}
use Rattle.std.specs.Prelude.{codes}
use Rattle.command_parts.specs.Task.{writes}
use Rattle.command_rooms.specs.commands.Fates.{fates_answer, EndsTrue, WalksTrue}
use Rattle.command_rooms.specs.commands.Noise.{got_through, noise_answer}
use Rattle.command_rooms.specs.commands.Au4.{carried, au4_answer}
use Rattle.command_rooms.specs.commands.Channels.{shared, TellsPlan}
use Rattle.member_au4.specs.declared.au4_link.au4_draft.Link.{Link}
use Rattle.member_au4.specs.au4_link.Link.{link_of}
use Rattle.member_au4.specs.au4_link.Carried.{carried_text}
use Rattle.member_au4.proofs.LinkDraftAndActionLaws.{link-written}
use Rattle.gfp_noise.specs.declared.noise_link.noise_draft.Noise.{Noise as NoiseOfText}
use Rattle.gfp_noise.specs.noise_link.Noise.{noise_of}
use Rattle.gfp_noise.specs.noise_link.NoiseReportText.{AreSingle, untouched_text}
use Rattle.gfp_noise.proofs.NoiseDraftLaws.{single_written}
use Rattle.gfp_channels.specs.declared.channel_link.channel_draft.ChannelPlan.{ChannelPlan}
use Rattle.gfp_channels.specs.channel_link.Plan.{plan_of}
use Rattle.gfp_channels.specs.channel_link.ChannelReportText.{plan_text}
use Rattle.gfp_channels.proofs.ChannelPlanDraftLaws.{plan_report}
use Rattle.std.proofs.lemmas.List.{reverse-append}
use Rattle.law_progress.proofs.RoundProgressAndDrainLaws.{walked-reached}
use Rattle.law_walk.specs.Common.{walk_plan, session_of, session_rows, session_pieces, ConfirmsTrue, final_report}
use Rattle.text_scripts.proofs.ScriptLineAndFirstFaultLaws.{valid_text}
use Rattle.fate_engine.specs.Common.{are_true_marks, spoiled_of, later_segments, Ended, ended_of, is_refused, has_got}
use Rattle.fate_engine.specs.Common.{has_waited, count_of, spoiled_text, segment_text, ended_text, fates_end}
use Rattle.fate_engine.specs.Common.{fates_text}
use Rattle.fate_engine.proofs.GotFateAndLandedFrameLaws.{starts-decided}

-- the walk of a script
pub walk-is : (walk : Walked) (script : Script) (s : Counts) → walk.script ≡ script → walk.counts ≡ s →
    walk ≡ record { script = script; counts = s }
walk-is walk script s same counts =
    let f : Script → Walked = λ script. record { script = script; counts = walk.counts } in
    let g : Counts → Walked = λ s. record { script = script; counts = s } in
    ap f same ∙ ap g counts

pub hands-script : {S : Type 0} (source : Lent S) (script : Script) (walk : Walked) → HasScript source script →
    walk.script ≡ script → walk.counts ≡ counts_in script
    → HandsScript source (Some walk)
hands-script source script walk has mine counts =
    (script, has, ap Some (walk-is walk script (counts_in script) mine counts))

-- both facts of what is written, where it is
pub both-ok : {T X : Type 0} (A B : Type 0) (end_ : Result T X) → OnOk end_ A → OnOk end_ B → OnOk end_ (A × B)
both-ok A B (Ok t) a b = (a, b)
both-ok A B (Err x) a b = tt

-- ---- What is written of a text that says a link, frames and flips, or a plan.
pub au4-written : (text : List ℕ) (link : Link) → link_of text ≡ Ok link → au4_answer text ≡ writes (carried_text link)
au4-written text link said = ap carried said ∙ ap writes (link-written text link said)

pub noise-written : (text : List ℕ) (noise : NoiseOfText) → noise_of text ≡ Ok noise → AreSingle noise →
    noise_answer text ≡ writes (untouched_text noise)
noise-written text noise said single = ap got_through said ∙ ap writes (single_written text noise said single)

pub plan-written : (text : List ℕ) (plan : ChannelPlan) → plan_of text ≡ Ok plan → TellsPlan text plan
plan-written text plan said =
    record { report = plan_text plan; answers = ap shared said; is = plan_report text plan said }

-- ---- What `walk` writes of a text of which `fates` says that each start was true.
-- ---- how a text ends
-- the octet that is the third from the end
abbrev third : List ℕ → ℕ
third text = slice_index_or (reverse text) 2 0

third-false : (front : List ℕ) → third (front ++ codes "false\n") ≡ 115
third-false front = ap (λ (l : List ℕ). slice_index_or l 2 0) (reverse-append front (codes "false\n"))

third-true : (front : List ℕ) → third (front ++ codes "starts true\n") ≡ 117
third-true front = ap (λ (l : List ℕ). slice_index_or l 2 0) (reverse-append front (codes "starts true\n"))

apart : (n : ℕ) → n ≡ 115 → n ≡ 117 → ⊥
apart n is other = omega (arith, is, other)

-- what stands in the last line before the word of truth
abbrev before_truth : ℕ → ℕ → List Ended → List ℕ
before_truth ticks rows all =
    codes "fates ticks " ++ decimal ticks ++ codes " taken " ++ decimal rows
    ++ codes " frames " ++ decimal (length all - count_of is_refused all)
    ++ codes " got " ++ decimal (count_of has_got all)
    ++ codes " lost " ++ decimal (length all -
    (count_of is_refused all + count_of has_got all + count_of has_waited all))
    ++ codes " waits " ++ decimal (count_of has_waited all)
    ++ codes " refused " ++ decimal (count_of is_refused all)
    ++ codes " starts "

ends-false : (lines : List ℕ) (ticks rows : ℕ) (all : List Ended) →
    third (lines ++ fates_end ticks rows all false) ≡ 115
ends-false lines ticks rows all =
    let before : List ℕ = before_truth ticks rows all in
    ap (λ (l : List ℕ). third (lines ++ l)) (append_assoc before (codes "false") (codes "\n"))
    ∙ ap third (sym (append_assoc lines before (codes "false\n")))
    ∙ third-false (lines ++ before)

truth : (lines : List ℕ) (ticks rows : ℕ) (all : List Ended) (starts : Bool) →
    EndsTrue (lines ++ fates_end ticks rows all starts) → starts ≡ true
truth lines ticks rows all true ends = refl
truth lines ticks rows all false ends =
    absurd (apart _ (ends-false lines ticks rows all) (ap third ends.1 ∙ third-true ends.0))

-- ---- the walk
marks-true : (leg : Leg) (s : Counts) → EndsTrue (fates_text leg s) →
    are_true_marks (session_pieces leg) (session_rows leg s.rows) ≡ true
marks-true leg s ends =
    truth
    (flat_map spoiled_text (spoiled_of (scenario_by leg) (session_of leg) s.rows)
    ++ flat_map (segment_text (session_pieces leg) (session_rows leg s.rows))
    (later_segments (session_rows leg s.rows))
    ++ flat_map ended_text (ended_of leg s))
    s.ticks s.rows (ended_of leg s) (are_true_marks (session_pieces leg) (session_rows leg s.rows)) ends

abbrev walks : Script → Answer
walks script = writes (walk_text script)

abbrev tells : Script → Answer
tells script = writes (fates_text (leg_of script) (counts_in script))

-- ---- the text
module _ (text fates : List ℕ) (script : Script) (short : length text ≤ 67108864) (said : script_of text ≡ Ok script)
    (same : fates_text (leg_of script) (counts_in script) ≡ fates) (ends : EndsTrue fates) where
  confirms : ConfirmsTrue (leg_of script) (counts_in script).rows
  confirms =
      let leg = leg_of script in
      let s = counts_in script in
      (starts-decided leg s (valid_text text script short said).sound
      (walked-reached (walk_plan leg) script.events)).0 (marks-true leg s (ends.0, same ∙ ends.1))

  walks-told : WalksTrue text
  walks-told = record {
    report = walk_text script;
    answers = ap (answer_of walks) said;
    is = walk_report text script short said confirms;
  }

told-true : (text fates : List ℕ) (of : Result Script ScriptFault) → script_of text ≡ of → length text ≤ 67108864 →
    answer_of tells of ≡ writes fates → EndsTrue fates → WalksTrue text
told-true text fates (Ok script) said short answers ends =
    let same : fates_text (leg_of script) (counts_in script) ≡ fates = cc in
    walks-told text fates script short said same ends
told-true text fates (Err fault) said short answers ends = absurd cc

pub walks-true : (text fates : List ℕ) → length text ≤ 67108864 → fates_answer text ≡ writes fates →
    EndsTrue fates → WalksTrue text
walks-true text fates short answers ends = told-true text fates (script_of text) refl short answers ends

pub runs-true : (text fates : List ℕ) (script : Script) → length text ≤ 67108864 → script_of text ≡ Ok script →
    script.events ≡ [] → fates_answer text ≡ writes fates → EndsTrue fates →
    IsRunReport text (final_report (leg_of script))
runs-true text fates script short said calm answers ends =
    let told : writes (fates_text (leg_of script) (counts_in script)) ≡ writes fates =
    sym (ap (answer_of tells) said) ∙ answers in
    let same : fates_text (leg_of script) (counts_in script) ≡ fates = cc in
    run_report text script short said calm (confirms text fates script short said same ends)
