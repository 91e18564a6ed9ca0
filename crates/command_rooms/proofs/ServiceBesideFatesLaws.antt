-- What `service` writes of a text agrees with what `fates` and `walk` write of it.
use Rattle.std.proofs.Common.{◌≡◌, ◌≤◌, ℕ, List, ◌++◌, length, Result, Ok, Err, refl, sym, ◌∙◌, ap, flat_map}
use Rattle.law_model.specs.Common.{Counts, Leg, greatest, leg_of, scenario_by, longest_input}
use Rattle.law_model.specs.declared.script_types.Script.{Script}
use Rattle.law_progress.proofs.RoundProgressAndDrainLaws.{walked-reached}
use Rattle.law_walk.specs.Common.{walk_plan, session_of, session_rows, session_pieces, delivered_of, landed_items}
use Rattle.law_walk.specs.Common.{refusals_among, totals_of}
use Rattle.law_headline.specs.WalkTexts.{counts_in, walk_text}
use Rattle.fate_engine.specs.Common.{row_cause, spoiled_of, later_segments, ended_of, spoiled_text, segment_text}
use Rattle.fate_engine.specs.Common.{ended_text, fates_text}
use Rattle.fate_service.specs.Delays.{delays_of}
use Rattle.fate_service.specs.FrameColumns.{carried_of}
use Rattle.fate_service.specs.ServiceText.{members_text, delays_text, told_of, ends_of, service_text}
use Rattle.fate_service.specs.service_law.LinesAsNumbers.{members_in, outages_in, outage_line_text, stretches_in}
use Rattle.fate_service.specs.service_law.LinesAsNumbers.{stretch_line_text, all_of}
use Rattle.fate_service.proofs.LandedFrameTallyLaws.{fates-told, walk-got}
use Rattle.fate_service.proofs.StretchSumAndQueuePeakLaws.{text-lines}
use Rattle.text_scripts.specs.declared.script_read.script_fault.ScriptFault.{ScriptFault}
use Rattle.text_scripts.specs.script_read.Script.{script_of}
use Rattle.text_scripts.proofs.ScriptLineAndFirstFaultLaws.{valid_text}
use Rattle.command_parts.specs.Common.{Answer, answer_of}
use Rattle.command_parts.specs.Task.{writes}
use Rattle.command_rooms.specs.commands.Service.{Agrees, service_answer}

abbrev walks : Script → Answer
walks script = writes (walk_text script)

abbrev tells : Script → Answer
tells script = writes (fates_text (leg_of script) (counts_in script))

abbrev serves : ℕ → Script → Answer
serves interval script = writes (service_text (leg_of script) (counts_in script) interval)

module _ (interval : ℕ) (text service : List ℕ) (script : Script) (short : length text ≤ longest_input)
    (said : script_of text ≡ Ok script) (same : service_text (leg_of script) (counts_in script) interval ≡ service)
  where
    abbrev leg : Leg
    leg = leg_of script

    abbrev s : Counts
    s = counts_in script

    agrees : Agrees text service
    agrees =
        let sound = (valid_text text script short said).sound in
        let walked = walked-reached (walk_plan leg) script.events in
        let lines : List ℕ = flat_map spoiled_text (spoiled_of (scenario_by leg) (session_of leg) s.rows)
        ++ flat_map (segment_text (session_pieces leg) (session_rows leg s.rows))
        (later_segments (session_rows leg s.rows))
        ++ flat_map ended_text (ended_of leg s) in
        record {
          end = told_of leg s;
          all = all_of leg s;
          ends = ends_of leg s;
          before = flat_map (members_text leg.config.size) (members_in leg s)
              ++ flat_map (outage_line_text (row_cause (scenario_by leg) (session_of leg))) (outages_in leg s)
              ++ flat_map stretch_line_text (stretches_in leg s interval)
              ++ delays_text (delays_of (carried_of (ended_of leg s))) (greatest leg.config.delays);
          last = sym same ∙ text-lines leg s interval;
          lines = lines;
          fates = ap (answer_of tells) said ∙ ap (λ (l : List ℕ). writes (lines ++ l)) (fates-told leg s sound walked);
          walk = λ starts. record {
            frames = delivered_of leg s.rows;
            refusals = refusals_among leg (landed_items leg s);
            totals = totals_of leg s;
            report = ap (answer_of walks) said;
            as_many = walk-got leg s sound walked starts;
          };
        }

of-script : (interval : ℕ) (text service : List ℕ) (of : Result Script ScriptFault) → script_of text ≡ of →
    length text ≤ longest_input → answer_of (serves interval) of ≡ writes service → Agrees text service
of-script interval text service (Ok script) said short answers =
    let same : service_text (leg_of script) (counts_in script) interval ≡ service = cc in
    agrees interval text service script short said same
of-script interval text service (Err fault) said short answers = absurd cc

pub service-agrees : (interval : ℕ) (text service : List ℕ) → length text ≤ longest_input →
    service_answer interval text ≡ writes service → Agrees text service
service-agrees interval text service short answers =
    of-script interval text service (script_of text) refl short answers
