-- A walk that answers the lines of a live text: what one line more says, and why its reader stops.
use Rattle.std.proofs.Common.{◌≡◌, ◌≢◌, ◌∙◌, ℕ, Bool, true, false, List, [], ap, ap₂, sym, subst, refl, Option, None, Some}
use Rattle.std.proofs.Common.{option_map, if◌then◌else◌, drop, ◌+◌, ◌≤◌, ◌∷◌, ◌++◌, length, inl, inr, ◌⊎◌, arith}
use Rattle.std.proofs.Common.{append-nil, length-append, Result, Ok, Err, IfOk, OnOk, OnErr, is_some}
use Rattle.std.proofs.lemmas.Result.{on_err_weaker, on_ok_weaker}
use Rattle.std.specs.Option.{option_or}
use Rattle.text_lines.specs.WordsOfLine.{word_at, is_skipped, words}
use Rattle.law_model.specs.Common.{AppendsPart, Leg, longest_input}
use Rattle.law_model.specs.declared.script_types.Config.{Config}
use Rattle.law_model.specs.declared.session_totals.Totals.{Totals}
use Rattle.law_walk.specs.Common.{totals_of}
use Rattle.law_live.specs.LiveSayings.{live_from}
use Rattle.law_live.specs.Common.{Live, IsWellSaid, Saying, cuts, leg_by, leg_said, live_counts, live_of, mends, opened}
use Rattle.octet_io.specs.declared.source_and_sink.Failed.{Failed}
use Rattle.text_got.specs.TextSoFar.{Holds}
use Rattle.text_scripts.specs.declared.script_read.script_draft.Draft.{Draft}
use Rattle.text_scripts.specs.declared.script_read.script_fault.ScriptFault.{ScriptFault}
use Rattle.text_scripts.specs.declared.script_read.script_fault.ScriptFault.TheVariants as script
use Rattle.text_live.specs.declared.live_keyword.EarlierPart.{EarlierPart}
use Rattle.text_live.specs.declared.live_keyword.LiveKeyword.{LiveKeyword}
use Rattle.text_live.specs.declared.live_fault.LiveFault.{LiveFault}
use Rattle.text_live.specs.declared.live_fault.LiveFault.TheVariants as fault
use Rattle.text_live.specs.declared.live_line.LiveLine.{LiveLine}
use Rattle.text_live.specs.declared.live_line.LiveLine.TheVariants as spoken
use Rattle.text_live.specs.declared.live_reader.LiveReader.{LiveReader}
use Rattle.text_live.specs.LiveLines.{Said, LineWrong, Told, of_script, of_limits, of_live, nothing, setting, happens}
use Rattle.text_live.specs.LiveLines.{opening_fault, rest_fault, earlier_fault, fault_by, line_fault, first_by, now_live}
use Rattle.text_live.specs.LiveLines.{earlier_part, line_after, live_keyword, live_or, nothing_said, said_with, told}
use Rattle.text_live.specs.LiveReaderStands.{IsAt, IsLiveReader, IsToldAt, ReadsLine, Stops, fault_at, frame_of}
use Rattle.text_live.specs.LiveReaderStands.{no_memory, told_line, waiting_config}
use Rattle.text_live.specs.Sayings.{AgreesWith, AreFine, leg_in, line_saying, said_in, saying_of, sayings}
use Rattle.text_live.proofs.LiveScriptSayingsLaws.{lines_agree, more_fine, nothing_fine, said_next, sayings_next, settled}
use Rattle.command_parts.specs.declared.stop_and_status.Stop.{Stop}
use Rattle.command_parts.specs.declared.stop_and_status.Stop.TheVariants as stop
use Rattle.command_parts.specs.Common.{IsRefusedAs}
use Rattle.walk_engine.specs.Common.{LiveStands, walking_counts}
use Rattle.walk_live.specs.declared.answered_walk.AnsweredWalk.{AnsweredWalk}
use Rattle.walk_live.specs.declared.asked.Asked.{Asked}
use Rattle.walk_live.specs.Notes.{live_fault_text, live_why}
use Rattle.walk_live.specs.LiveTexts.{FaultNote}
use Rattle.walk_live.specs.LiveReplies.{answer_to, answered_since, live_text, note_at}
use Rattle.walk_live.specs.Answered.{Answers, AnswersPart, IsAnswered, IsLegOf}
use Rattle.walk_live.specs.Answering.{AnswersLine, IsLive, IsQuiet, StopsReader}
use Rattle.walk_live.specs.WalkByLines.{HasAnsweredLines, HasReadLines, IsSaidBehind, WaitsForWalk, config_in}
use Rattle.walk_live.proofs.AnsweredWalkAndSayingLaws.{leg-own, none_answered}
use Rattle.walk_live.proofs.ConversationAnswerLaws.{leg_lines}
use Rattle.walk_live.proofs.LiveTalkerLaws.{begun_some, none_some, nothing_added, refused_as, short_as}

-- ---- why a reader stops
-- only before the first live line slips, spread and lag are looked at
earlier_limits : (live : Option Live) (d : Draft) (p : EarlierPart) (ws : List (List ℕ)) (wrong : ScriptFault) →
    earlier_fault live d p ws ≡ Some (of_limits wrong) → live ≡ None
earlier_limits (Some live) d p ws wrong is = absurd cc
earlier_limits None d p ws wrong is = refl

pub own_limits : {T V : Type 0} (wrong : V) (found : Option T) (wrap : T → V) → ((own : T) → wrap own ≢ wrong) →
    option_map wrap found ≡ Some wrong → ⊥
own_limits wrong None wrap other is = cc
own_limits wrong (Some own) wrap other is = other own cc

live_limits : (live : Option Live) (d : Draft) (found : Option LineWrong) (wrong : ScriptFault) →
    (found ≡ Some (of_limits wrong) → ⊥) → option_or (opening_fault live d) found ≡ Some (of_limits wrong) → live ≡ None
live_limits (Some live) d found wrong other is = absurd (other is)
live_limits None d found wrong other is = refl

limits_by : (s : Said) (ws : List (List ℕ)) (skipped : Bool) (part : Option EarlierPart) (word : Option LiveKeyword)
    (wrong : ScriptFault) →
    (if skipped then None else fault_by s ws (first_by part word)) ≡ Some (of_limits wrong) → s.live ≡ None
limits_by s ws true part word wrong is = absurd cc
limits_by s ws false (Some p) word wrong is = earlier_limits s.live s.settings p ws wrong is
limits_by s ws false None (Some k) wrong is =
    let found = rest_fault s.settings.config (now_live s) k (drop 1 ws) in
    live_limits s.live s.settings (option_map of_live found) wrong
    (own_limits (of_limits wrong) found of_live (λ own e. cc)) is
limits_by s ws false None None wrong is = absurd cc

limits_none : (s : Said) (ws : List (List ℕ)) (wrong : ScriptFault) → line_fault s ws ≡ Some (of_limits wrong) →
    s.live ≡ None
limits_none s ws =
    limits_by s ws (is_skipped ws) (earlier_part (word_at 0 ws)) (live_keyword (word_at 0 ws))

opening_none : (live : Option Live) (d : Draft) (wrong : LineWrong) → opening_fault live d ≡ Some wrong → live ≡ None
opening_none (Some live) d wrong is = absurd cc
opening_none None d wrong is = refl

-- what a fault makes of it
pub record StopsOf (of : LiveFault) (own : Stop) : Type 0 where
  pub refused : of ≢ no_memory → IsRefusedAs (live_why of) (live_fault_text of) own
  pub short : of ≡ no_memory → own ≡ stop.Memory

stops_of : (begun : Bool) (of : LiveFault) (own : Stop) → StopsOf of own → (of ≡ no_memory → begun ≡ false) →
    StopsReader begun (Some (live_why of, live_fault_text of)) own
stops_of begun (fault.Script script.Memory) own is before =
    short_as begun (Some (live_why no_memory, live_fault_text no_memory)) own (is.short refl) (before refl)
stops_of begun of own is before = refused_as begun (live_why of) (live_fault_text of) own (is.refused (λ e. cc))

-- slips, spread and lag alone are told as memory may be
only_limits : (n : ℕ) (wrong : LineWrong) → fault_at n wrong ≡ no_memory → wrong ≡ of_limits script.Memory
only_limits n (of_script wrong) is = absurd cc
only_limits n (of_limits wrong) is = cc
only_limits n (of_live wrong) is = absurd cc

told_stops : (s : Said) (n : ℕ) (found : Option LineWrong) (of : LiveFault) (own : Stop) → IsToldAt n found of →
    StopsOf of own → ((wrong : ScriptFault) → found ≡ Some (of_limits wrong) → s.live ≡ None) →
    StopsReader (is_some s.live) (note_at n found) own
told_stops s n found of own told is none =
    subst (λ (note : FaultNote). StopsReader (is_some s.live) note own)
    (ap (λ (f : LiveFault). Some (live_why f, live_fault_text f)) told.is ∙ sym (ap (note_at n) told.fails))
    (stops_of (is_some s.live) of own is
    (λ short. ap (λ (live : Option Live). is_some live) (none script.Memory
    (told.fails ∙ ap Some (only_limits n told.wrong (sym told.is ∙ short))))))

pub line_stops : (ls : List (List ℕ)) (line : List ℕ) (of : LiveFault) (own : Stop) →
    Stops (length ls + 1) (said_in ls) (words line) of → StopsOf of own →
    StopsReader (live_text.begun ls) (live_text.fault ls line) own
line_stops ls line of own stops is =
    let s : Said = said_in ls in
    elim stops [
      | inl short ↦ short_as (is_some s.live) (live_text.fault ls line) own (is.short short.0)
          (ap (λ (live : Option Live). is_some live) short.1)
      | inr told ↦ told_stops s (length ls + 1) (line_fault s (words line)) of own told is (limits_none s (words line))
    ]

pub end_stops : (ls : List (List ℕ)) (of : LiveFault) (own : Stop) →
    IsToldAt (length ls + 1) (opening_fault (said_in ls).live (said_in ls).settings) of → StopsOf of own →
    StopsReader (live_text.begun ls) (live_text.missing ls) own
end_stops ls of own told is =
    let s : Said = said_in ls in
    told_stops s (length ls + 1) (opening_fault s.live s.settings) of own told is
    (λ wrong found. opening_none s.live s.settings (of_limits wrong) found)

-- ---- one line more
pub begins_so : {E : Type 0} (made : Result LiveReader E) → IfOk made IsLiveReader →
    IfOk made (λ reader. IsAt reader 1 nothing_said) → IfOk made (λ reader. HasReadLines reader [])
begins_so (Err short) is at = tt
begins_so (Ok reader) is at = record { fine = nothing_fine; made = is; at = at }

few_lines : (reader : LiveReader) (ls : List (List ℕ)) → HasReadLines reader ls → length ls ≤ longest_input
few_lines reader ls has = omega (arith, has.at.number, has.made.count)

one_later : (ls : List (List ℕ)) (line : List ℕ) → length ls + 1 + 1 ≡ length (ls ++ line ∷ []) + 1
one_later ls line = omega (arith, length-append ls (line ∷ []))

pub reads_more : (reader now : LiveReader) (ls : List (List ℕ)) (line : List ℕ) (says : LiveLine) →
    HasReadLines reader ls → IsLiveReader now → ReadsLine now (length ls + 1) (said_in ls) (words line) says →
    HasReadLines now (ls ++ line ∷ [])
reads_more reader now ls line says has made read = record {
  fine = more_fine ls line has.fine read.fine;
  made = made;
  at = subst (λ (n : ℕ). IsAt now n (said_in (ls ++ line ∷ []))) (one_later ls line)
      (subst (IsAt now (length ls + 1 + 1)) (sym (said_next ls line)) read.at);
}

-- by which nothing happens
quiet_told : (n : ℕ) (s : Said) (ws : List (List ℕ)) (t : Told) → saying_of t ≡ [] → (said_with n s ws t).live ≡ s.live
quiet_told n s ws nothing none = refl
quiet_told n s ws setting none = refl
quiet_told n s ws (happens saying) none = absurd cc

same_leg : (s now : Said) → now.settings ≡ s.settings → now.live ≡ s.live →
    leg_by now.settings.config (now_live now) ≡ leg_by s.settings.config (now_live s)
same_leg s now = λ settings live. ap₂ (λ (d : Draft) (l : Option Live). leg_by d.config (live_or l d.config)) settings live

pub quiet_line : (ls : List (List ℕ)) (line : List ℕ) → line_fault (said_in ls) (words line) ≡ None →
    line_saying line ≡ [] → IsQuiet live_text HasAnsweredLines ls line
quiet_line ls line fine none =
    let s : Said = said_in ls in
    let next : List (List ℕ) = ls ++ line ∷ [] in
    let live : (said_in next).live ≡ s.live = ap (λ (now : Said). now.live) (said_next ls line)
    ∙ quiet_told (length ls + 1) s (words line) (told (words line)) none in
    let all : sayings next ≡ sayings ls =
    sayings_next ls line ∙ ap (λ (more : List Saying). sayings ls ++ more) none ∙ append-nil (sayings ls) in
    record {
      begun = ap (λ (l : Option Live). is_some l) live;
      answer = λ asked. ap (answered_since asked (leg_in next) (sayings ls)) none ∙ none_answered asked (leg_in next) (sayings ls);
      still = λ walk asked begun has.
          let some = begun_some s.live begun in
          let settings : (said_in next).settings ≡ s.settings = ap (λ (now : Said). now.settings) (said_next ls line)
          ∙ (settled (length ls + 1) s line some.some some.is fine).settings in
          let config = ap (λ (d : Draft). d.config) settings in
          record {
            is = subst (λ (c : Config). IsAnswered walk asked c (sayings next)) (sym config)
                (subst (IsAnswered walk asked (config_in ls)) (sym all) has.is);
            leg = same_leg s (said_in next) settings live ∙ has.leg
                ∙ sym (ap₂ (λ (c : Config) (said : List Saying). leg_said c said) config all);
          };
    }

-- by which something happens
pub record Happens (frame : List ℕ) (says : LiveLine) : Type 0 where
  pub saying : Saying
  pub is : told_line frame says ≡ happens saying

pub happens_in : (frame : List ℕ) (says : LiveLine) → (says ≡ spoken.Blank → ⊥) → (says ≡ spoken.Setting → ⊥) →
    Happens frame says
happens_in frame spoken.Blank blank set = absurd (blank refl)
happens_in frame spoken.Setting blank set = absurd (set refl)
happens_in frame says blank set = record { saying = _; is = refl }

pub quiet_in : (frame : List ℕ) (says : LiveLine) → (says ≡ spoken.Blank) ⊎ (says ≡ spoken.Setting) →
    saying_of (told_line frame says) ≡ []
quiet_in frame says (inl blank) = ap (λ (l : LiveLine). saying_of (told_line frame l)) blank
quiet_in frame says (inr set) = ap (λ (l : LiveLine). saying_of (told_line frame l)) set

-- before the first live line
nothing_leg : (s : Said) (said : List Saying) → s.live ≡ None → said ≡ [] →
    leg_by s.settings.config (now_live s) ≡ leg_said s.settings.config said
unfolding live_from
nothing_leg s said is none =
    let c : Config = s.settings.config in
    ap (λ (l : Option Live). leg_by c (live_or l c)) is ∙ sym (ap (leg_said c) none)

pub waits_for : (reader now : LiveReader) (ls : List (List ℕ)) → HasReadLines reader ls → IsLiveReader now →
    live_text.begun ls ≡ false → ((said_in ls).live ≡ None → waiting_config now ≡ Some (config_in ls)) → WaitsForWalk now ls
waits_for reader now ls has made begun hands =
    let is = none_some (said_in ls).live begun in
    let none : sayings ls ≡ [] =
    subst (AgreesWith (said_in ls) (sayings ls)) is (lines_agree ls has.fine (few_lines reader ls has)) in
    record { made = made; none = none; leg = nothing_leg (said_in ls) (sayings ls) is none; config = hands is }

pub live_line : (reader now : LiveReader) (ls : List (List ℕ)) (line : List ℕ) (says : LiveLine) →
    HasReadLines reader ls → IsLiveReader now → ReadsLine now (length ls + 1) (said_in ls) (words line) says →
    Happens (frame_of now) says → IsLive live_text WaitsForWalk IsSaidBehind now says ls line
live_line reader now ls line says has made read own =
    let s : Said = said_in ls in
    let next : List (List ℕ) = ls ++ line ∷ [] in
    let here : told (words line) ≡ happens own.saying = sym read.told ∙ own.is in
    let after : said_in next ≡ said_with (length ls + 1) s (words line) (happens own.saying) =
    said_next ls line ∙ ap (said_with (length ls + 1) s (words line)) here in
    let live = ap (λ (later : Said). later.live) after in
    let later = reads_more reader now ls line says has made read in
    let over = leg_lines next _ later.fine (few_lines now next later) live in
    record {
      begun = ap (λ (l : Option Live). is_some l) live;
      waits = λ begun. waits_for reader now ls has made begun
          (read.opens _ (ap (λ (t : Told). (said_with (length ls + 1) s (words line) t).live) here));
      says_so = record {
        saying = own.saying;
        told = own.is;
        here = ap saying_of here;
        config = ap (λ (later : Said). later.settings.config) after;
        well = over.well;
        leg = over.leg;
      };
    }

-- ---- what a walk answers
pub total_is : (walk : AnsweredWalk) (asked : Asked) (ls : List (List ℕ)) (totals : Totals) →
    HasAnsweredLines walk asked ls →
    ((leg : Leg) → LiveStands leg walk.walk → totals ≡ totals_of leg (walking_counts walk.walk)) →
    totals ≡ totals_of (leg_in ls) (live_counts (leg_in ls) (sayings ls))
total_is walk asked ls totals has is =
    let leg : Leg = leg_in ls in
    let own = subst (IsLegOf (config_in ls) (sayings ls)) (sym has.leg)
    (leg-own (config_in ls) (sayings ls) has.is.network has.is.well) in
    is leg (has.is.walks.stands leg own) ∙ ap (totals_of leg) (has.is.walks.counts leg own)

module _ (reader : LiveReader) (says : LiveLine) (ls : List (List ℕ)) (line : List ℕ) (is : IsSaidBehind reader says ls line)
  where
    all : sayings (ls ++ line ∷ []) ≡ sayings ls ++ is.saying ∷ []
    all = sayings_next ls line ∙ ap (λ (more : List Saying). sayings ls ++ more) is.here

    pub can_say : IsWellSaid (config_in (ls ++ line ∷ [])) (sayings ls ++ is.saying ∷ [])
    can_say = subst (IsWellSaid (config_in (ls ++ line ∷ []))) all is.well

    pub was_said : (walk : AnsweredWalk) (asked : Asked) → HasAnsweredLines walk asked ls →
        IsAnswered walk asked (config_in (ls ++ line ∷ [])) (sayings ls)
    was_said walk asked has = subst (λ (c : Config). IsAnswered walk asked c (sayings ls)) (sym is.config) has.is

    answer_is : (asked : Asked) →
        answer_to asked (config_in (ls ++ line ∷ [])) (sayings ls) is.saying ≡ live_text.answer asked ls line
    answer_is asked =
        ap (λ (leg : Leg). answered_since asked leg (sayings ls) (is.saying ∷ []))
        (sym (is.leg ∙ ap (leg_said (config_in (ls ++ line ∷ []))) all))
        ∙ ap (answered_since asked (leg_in (ls ++ line ∷ [])) (sayings ls)) (sym is.here)

    pub same_saying : (saying : Saying) → told_line (frame_of reader) says ≡ happens saying → saying ≡ is.saying
    same_saying saying same = let both = sym same ∙ is.told in cc

    pub never_quiet : (says ≡ spoken.Blank) ⊎ (says ≡ spoken.Setting) → ⊥
    never_quiet quiet =
        let none = sym (ap saying_of is.told) ∙ quiet_in (frame_of reader) says quiet in
        cc

    pub can_say_as : (walk : AnsweredWalk) (asked : Asked) → HasAnsweredLines walk asked ls → (saying : Saying) →
        told_line (frame_of reader) says ≡ happens saying →
        (asked : Asked) × (config : Config) × (said : List Saying) × IsAnswered walk asked config said
        × IsWellSaid config (said ++ saying ∷ [])
    can_say_as walk asked has saying same = (
      asked,
      config_in (ls ++ line ∷ []),
      sayings ls,
      was_said walk asked has,
      subst (λ (s : Saying). IsWellSaid (config_in (ls ++ line ∷ [])) (sayings ls ++ s ∷ [])) (sym (same_saying saying same))
          can_say,
    )

    module _ {K : Type 0} (written : K → Option (List ℕ)) (faults : K → ℕ) where
      pub line_answered : (old new : K) (waited waits : List ℕ) (was now : AnsweredWalk) (asked : Asked)
          (result : Result (Unit {0}) Failed) (saying : Saying) → saying ≡ is.saying → HasAnsweredLines was asked ls →
          ((asked : Asked) (config : Config) (said : List Saying) → IsAnswered was asked config said →
          IsWellSaid config (said ++ saying ∷ []) →
          OnOk result (Answers written faults old new waited waits now asked config said saying)) →
          OnOk result
          (AnswersLine live_text HasAnsweredLines written faults old new waited waits now asked ls line)
      line_answered old new waited waits was now asked result saying same has answers =
          let c : Config = config_in (ls ++ line ∷ []) in
          on_ok_weaker result (λ own. record {
            is = record {
              is = subst (IsAnswered now asked c) (ap (λ (s : Saying). sayings ls ++ s ∷ []) same ∙ sym all) own.is;
              leg = is.leg;
            };
            holds = subst (λ (t : List ℕ). Holds written faults old new waits (waited ++ t))
                (ap (answer_to asked c (sayings ls)) same ∙ answer_is asked) own.holds;
          })
          (answers asked c (sayings ls) (was_said was asked has)
          (subst (λ (s : Saying). IsWellSaid c (sayings ls ++ s ∷ [])) (sym same) can_say))

      pub line_part : (old new : K) (waited : List ℕ) (was : AnsweredWalk) (asked : Asked)
          (result : Result (Unit {0}) Failed) (saying : Saying) → saying ≡ is.saying → HasAnsweredLines was asked ls →
          ((asked : Asked) (config : Config) (said : List Saying) → IsAnswered was asked config said →
          IsWellSaid config (said ++ saying ∷ []) →
          OnErr result (AnswersPart written faults old new waited asked config said saying)) →
          OnErr result (AppendsPart written faults old new (waited ++ live_text.answer asked ls line))
      line_part old new waited was asked result saying same has part =
          let c : Config = config_in (ls ++ line ∷ []) in
          on_err_weaker result (subst (λ (t : List ℕ). AppendsPart written faults old new (waited ++ t))
          (ap (answer_to asked c (sayings ls)) same ∙ answer_is asked))
          (part asked c (sayings ls) (was_said was asked has)
          (subst (λ (s : Saying). IsWellSaid c (sayings ls ++ s ∷ [])) (sym same) can_say))

-- to a line by which nothing is answered
pub quiet_saying : {K : Type 0} (written : K → Option (List ℕ)) (faults : K → ℕ) (sink : K) (waiting : List ℕ)
    (now : AnsweredWalk) (asked : Asked) (config : Config) (said : List Saying) (saying : Saying) →
    IsAnswered now asked config (said ++ saying ∷ []) → answer_to asked config said saying ≡ [] →
    Answers written faults sink sink waiting waiting now asked config said saying
quiet_saying written faults sink waiting now asked config said saying is none =
    record { is = is; holds = nothing_added written faults sink waiting (answer_to asked config said saying) none }
