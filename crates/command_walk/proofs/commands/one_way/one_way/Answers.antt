-- The input is read, and says two scripts of which one way is a script or isn't.
use Rattle.std.proofs.Common.{◌≡◌, ◌↔◌, ◌<◌, ◌≤◌, nat_lt, Bool, true, false, if◌then◌else◌, length, Ok, Err, Result}
use Rattle.std.proofs.Common.{refl, sym, ap, ◌∙◌, inl, inr, subst, List, ℕ}
use Rattle.std.proofs.lemmas.Bool.{both_ways, cases_lt, le-ltb, lt-ltb}
use Rattle.law_model.specs.Common.{longest_input}
use Rattle.law_model.specs.declared.script_types.Script.{Script}
use Rattle.law_pair.specs.declared.pair_events.Way.{Way}
use Rattle.text_scripts.specs.script_text.ScriptText.{script_text}
use Rattle.command_parts.specs.Common.{Answer, Lent, StopsFor, StopsReading, answer_told, exceeds, writes}
use Rattle.command_parts.specs.declared.stop_and_status.Stop.{Stop}
use Rattle.command_parts.specs.declared.stop_and_status.Stop.TheVariants.{TooLong}
use Rattle.command_parts.proofs.SourceTextAndStopLaws.{stops_read, stops_told}
use Rattle.command_parts.proofs.TaskEndAndStatusLaws.{text-written}
use Rattle.text_pairs.specs.declared.script_pair.PairFault.{PairFault}
use Rattle.text_pairs.specs.declared.script_pair.ScriptPair.{ScriptPair}
use Rattle.text_pairs.specs.Inputs.{HasPair, pair_answer_of, pair_told}
use Rattle.pair_walk.specs.OneWay.{way_script_of}
use Rattle.text_pairs.proofs.PairScriptReaderLaws.{stops_pair}
use Rattle.command_walk.specs.commands.OneWay.{one_way_answer, script_reply, way_reply}
use Rattle.command_walk.proofs.commands.one_way.one_way.Goals as goal

-- ---- what is answered of two scripts that were read
answers : {S : Type 0} (source : Lent S) (way : Way) (pair : ScriptPair) (has : HasPair source pair) →
    one_way_answer way has.text ≡ way_reply way pair
answers source way pair has = ap (pair_answer_of (way_reply way)) has.says

reply : (way : Way) (pair : ScriptPair) (script : Script) → way_script_of way pair ≡ Ok script →
    way_reply way pair ≡ script_reply script
reply way pair script is = ap (λ (of : Result Script PairFault). answer_told script_reply (pair_told of)) is

-- ---- nothing was read, or no pair
pub returns-in-Err : goal.returns-in-Err
returns-in-Err g c =
    record { ran = tt; stopped = c.in-Err.ensures.stopped (way_reply c.args.way); nothing = refl }

-- ---- no script
pub way_script-requires : goal.way_script-requires
way_script-requires g c = c.in-Ok.ensures.fits

pub returns-in-Err-way_script : goal.returns-in-Err-way_script
returns-in-Err-way_script g c =
    let has = c.in-Ok.ensures.pair in
    let said = way_script_of c.args.way c.in-Ok.pair in
    let stop = c.stop_of_pair.result in
    record {
      ran = tt;
      stopped = stops_read _ (one_way_answer c.args.way) has.text stop has.read
          (subst (λ (answer : Answer). StopsFor answer stop) (sym (answers _ c.args.way c.in-Ok.pair has))
          (stops_told script_reply (pair_told said) stop
          (stops_pair said c.in-Err-way_script.fault stop c.in-Err-way_script.ensures.fault
          c.stop_of_pair.ensures.refused c.stop_of_pair.ensures.short)));
      nothing = refl;
    }

-- ---- the text is too long
few-octets : (script : Script) (long : Bool) →
    ((long ≡ true) ↔ (longest_input < length (script_text script))) → long ≡ false →
    length (script_text script) ≤ longest_input
few-octets script long decides short =
    elim (cases_lt longest_input (length (script_text script))) [
      | inl above ↦ absurd (both_ways long short (decides.1 above))
      | inr few ↦ few
    ]

within : (script : Script) (long : Bool) → nat_lt longest_input (length (script_text script)) ≡ long →
    script_reply script ≡ (if long then exceeds else writes (script_text script))
within script long is = ap (λ b. if b then exceeds else writes (script_text script)) is

pub returns-then-is_too_long : goal.returns-then-is_too_long
returns-then-is_too_long g c =
    let has = c.in-Ok.ensures.pair in
    let script = c.in-Ok-way_script.script in
    let long = lt-ltb longest_input (length (script_text script)) (c.is_too_long.ensures.0 c.if-is_too_long.true) in
    record {
      ran = tt;
      stopped = stops_read _ (one_way_answer c.args.way) has.text TooLong has.read
          (answers _ c.args.way c.in-Ok.pair has
          ∙ reply c.args.way c.in-Ok.pair script c.in-Ok-way_script.ensures.script ∙ within script true long);
      nothing = refl;
    }

-- ---- its text
pub returns-in-Err-new : goal.returns-in-Err-new
returns-in-Err-new g c = record { ran = tt; stopped = c.in-Ok.ensures.pair.read.quiet; nothing = refl }

pub returns : goal.returns
returns g c =
    let has = c.in-Ok.ensures.pair in
    let script = c.in-Ok-way_script.script in
    let few : length (script_text script) ≤ longest_input =
    few-octets script c.is_too_long.result c.is_too_long.ensures c.if-is_too_long.false in
    text-written _ _ _ _ (one_way_answer c.args.way) has.text (script_text script) has.read
    (answers _ c.args.way c.in-Ok.pair has
    ∙ reply c.args.way c.in-Ok.pair script c.in-Ok-way_script.ensures.script
    ∙ within script false (le-ltb longest_input (length (script_text script)) few))
    c.write_script-written.ensures.ok c.write_script-written.ensures.err refl
