-- A pair that answers the lines of a live text of both ways: what one line more says, and why its reader stops.
use Rattle.std.proofs.Common.{◌≡◌, ◌≢◌, ◌∙◌, ℕ, Bool, true, false, List, [], ap, ap₂, sym, subst, refl, Option, None, Some}
use Rattle.std.proofs.Common.{option_map, if◌then◌else◌, drop, ◌+◌, ◌≤◌, ◌∷◌, ◌++◌, length, inl, inr, ◌⊎◌, arith}
use Rattle.std.proofs.Common.{append-nil, length-append, Result, Ok, Err, IfOk, OnOk, OnErr, is_some}
use Rattle.std.specs.Prelude.{is_none, unwrap_or}
use Rattle.std.specs.Option.{option_or}
use Rattle.std.proofs.lemmas.Bool.{and_parts}
use Rattle.std.proofs.lemmas.Result.{on_err_weaker, on_ok_weaker}
use Rattle.text_lines.specs.WordsOfLine.{word_at, is_skipped, words}
use Rattle.law_model.specs.Common.{AppendsPart, longest_input}
use Rattle.law_model.specs.declared.script_types.Config.{Config}
use Rattle.law_model.specs.declared.script_types.Script.{Script}
use Rattle.law_model.specs.declared.session_totals.Totals.{Totals}
use Rattle.text_scripts.specs.declared.script_read.script_draft.Draft.{Draft}
use Rattle.text_scripts.specs.declared.script_read.script_fault.ScriptFault.TheVariants as script
use Rattle.text_scripts.specs.script_read.Script.{missing_line}
use Rattle.text_scripts.specs.script_read.Statements.{at_first}
use Rattle.law_walk.specs.Common.{totals_of}
use Rattle.law_pair.specs.Common.{counts_on}
use Rattle.law_pair.specs.declared.pair_events.Way.{Way}
use Rattle.law_pair.specs.declared.pair_events.Way.TheVariants.{There, Back}
use Rattle.law_live.specs.Common.{IsPairSaid, PairSaying, cuts_on, mends_on, pair_answers_from, script_on}
use Rattle.law_live.specs.Common.{leg_on, total_way_text}
use Rattle.law_live.proofs.BothWaysSharedLaws.{pair-own, said-pair}
use Rattle.octet_io.specs.declared.source_and_sink.Failed.{Failed}
use Rattle.text_got.specs.TextSoFar.{Holds}
use Rattle.text_live.specs.declared.live_keyword.EarlierPart.{EarlierPart}
use Rattle.text_live.specs.declared.live_keyword.FirstWord.{FirstWord}
use Rattle.text_live.specs.declared.live_keyword.FirstWord.TheVariants as first
use Rattle.text_live.specs.LiveLines.{first_of}
use Rattle.command_parts.specs.declared.stop_and_status.Stop.{Stop}
use Rattle.command_parts.specs.declared.stop_and_status.Stop.TheVariants as stop
use Rattle.command_parts.specs.Common.{IsRefusedAs}
use Rattle.text_pairs.specs.declared.script_pair.PairFault.{PairFault}
use Rattle.text_pairs.specs.declared.script_pair.PairFault.TheVariants as pair_fault
use Rattle.text_pairs.specs.PairTextLines.{is_division}
use Rattle.walk_live.specs.declared.asked.Asked.{Asked}
use Rattle.walk_live.specs.LiveTexts.{FaultNote}
use Rattle.walk_live.specs.Answering.{AnswersLine, IsLive, IsQuiet, StopsReader}
use Rattle.walk_live.proofs.LiveTalkerLaws.{begun_some, none_some, nothing_added, refused_as, short_as}
use Rattle.walk_live.proofs.WalkByLinesLaws.{own_limits}
use Rattle.pair_engine.specs.LivePairs.{PairLives, walking_counts}
use Rattle.pair_live.specs.declared.answered_pair.AnsweredPair.{AnsweredPair}
use Rattle.pair_live.specs.declared.live_pair_fault.LivePairFault.{LivePairFault}
use Rattle.pair_live.specs.declared.live_pair_fault.LivePairFault.TheVariants as text_wrong
use Rattle.pair_live.specs.declared.live_pair_line.LivePairLine.{LivePairLine}
use Rattle.pair_live.specs.declared.live_pair_line.LivePairLine.TheVariants as spoken
use Rattle.pair_live.specs.declared.live_pair_reader.LivePairReader.{LivePairReader}
use Rattle.pair_live.specs.PairAnswered.{ArePairOf, IsPairAnswered, PairAnswers, PairAnswersPart}
use Rattle.pair_live.specs.PairByLines.{HasAnsweredLines, HasReadLines, IsAnsweredBy, IsSaidBehind, IsSaidBy}
use Rattle.pair_live.specs.PairByLines.{WaitsForPair}
use Rattle.pair_live.specs.PairDialogue.{note_at, pair_text}
use Rattle.pair_live.specs.PairLines.{BothLive, PairSaid, PairTold, PairWrong, back_config, happens, nothing, of_limits}
use Rattle.pair_live.specs.PairLines.{nothing_said, of_live, of_script, opening_by, pair_divides, pair_earlier_fault}
use Rattle.pair_live.specs.PairLines.{pair_fault_by, pair_line_after, pair_line_fault, pair_opening_fault, pair_rest_fault}
use Rattle.pair_live.specs.PairLines.{pair_said_with, pair_told, pair_with, setting, there_config, undivided}
use Rattle.pair_live.specs.PairLines.{undividing_fault}
use Rattle.pair_live.specs.PairNotes.{live_pair_fault_text, live_pair_why}
use Rattle.pair_live.specs.PairReaderStands.{IsLivePairReader, IsPairAt, IsPairToldAt, ReadsPairLine, StopsPair}
use Rattle.pair_live.specs.PairReaderStands.{no_pair_memory, pair_fault_at, pair_frame, told_pair_line, waiting_configs}
use Rattle.pair_live.specs.PairReplies.{pair_answer_of, pair_answer_to, pair_answered_since}
use Rattle.pair_live.specs.PairSayingsOfLines.{AgreesWith, AreFine, line_pair_saying, pair_said_in, pair_saying_of}
use Rattle.pair_live.specs.PairSayingsOfLines.{pair_sayings, scripts_of_live}
use Rattle.pair_live.proofs.PairLineSayingsLaws.{division_told, lines_agree, lines_divided, more_fine, nothing_fine}
use Rattle.pair_live.proofs.PairLineSayingsLaws.{said_next, sayings_next, settled}

-- ---- why a reader stops
-- only before the first live line the two scripts are looked at
earlier_limits : (live : Option BothLive) (d : Draft) (p : EarlierPart) (ws : List (List ℕ)) (wrong : PairFault) →
    pair_earlier_fault live d p ws ≡ Some (of_limits wrong) → live ≡ None
earlier_limits (Some both) d p ws wrong is = absurd cc
earlier_limits None d p ws wrong is = refl

live_limits : (live : Option BothLive) (s : PairSaid) (found : Option PairWrong) (wrong : PairFault) →
    (found ≡ Some (of_limits wrong) → ⊥) → option_or (opening_by live s) found ≡ Some (of_limits wrong) → live ≡ None
live_limits (Some both) s found wrong other is = absurd (other is)
live_limits None s found wrong other is = refl

limits_by : (s : PairSaid) (ws : List (List ℕ)) (skipped : Bool) (f : FirstWord) (wrong : PairFault) →
    (if skipped then None else pair_fault_by s ws f) ≡ Some (of_limits wrong) → s.live ≡ None
limits_by s ws true f wrong is = absurd cc
limits_by s ws false (first.Earlier p) wrong is = earlier_limits s.live s.settings p ws wrong is
limits_by s ws false (first.Live k) wrong is =
    let found = pair_rest_fault s k (drop 1 ws) in
    live_limits s.live s (option_map of_live found) wrong (own_limits (of_limits wrong) found of_live (λ own e. cc)) is
limits_by s ws false first.Other wrong is = absurd cc

limits_divides : (s : PairSaid) (ws : List (List ℕ)) (divides : Bool) (wrong : PairFault) →
    (if divides then option_map of_script (missing_line s.settings) else undividing_fault s ws)
    ≡ Some (of_limits wrong) → s.live ≡ None
limits_divides s ws true wrong is =
    absurd (own_limits (of_limits wrong) (missing_line s.settings) of_script (λ own e. cc) is)
limits_divides s ws false wrong is = limits_by s ws (is_skipped ws) (first_of (word_at 0 ws)) wrong is

limits_none : (s : PairSaid) (ws : List (List ℕ)) (wrong : PairFault) →
    pair_line_fault s ws ≡ Some (of_limits wrong) → s.live ≡ None
limits_none s ws = limits_divides s ws (pair_divides s ws)

opening_none : (live : Option BothLive) (s : PairSaid) (wrong : PairWrong) → opening_by live s ≡ Some wrong → live ≡ None
opening_none (Some both) s wrong is = absurd cc
opening_none None s wrong is = refl

-- what a fault makes of it
pub record StopsOf (of : LivePairFault) (own : Stop) : Type 0 where
  pub refused : of ≢ no_pair_memory → IsRefusedAs (live_pair_why of) (live_pair_fault_text of) own
  pub short : of ≡ no_pair_memory → own ≡ stop.Memory

stops_of : (begun : Bool) (of : LivePairFault) (own : Stop) → StopsOf of own → (of ≡ no_pair_memory → begun ≡ false) →
    StopsReader begun (Some (live_pair_why of, live_pair_fault_text of)) own
stops_of begun (text_wrong.Pair (pair_fault.Script script.Memory)) own is before =
    short_as begun (Some (live_pair_why no_pair_memory, live_pair_fault_text no_pair_memory)) own (is.short refl)
    (before refl)
stops_of begun of own is before =
    refused_as begun (live_pair_why of) (live_pair_fault_text of) own (is.refused (λ e. cc))

-- what the two scripts lack together is told alone as memory may be
only_limits : (n : ℕ) (wrong : PairWrong) → pair_fault_at n wrong ≡ no_pair_memory →
    wrong ≡ of_limits (pair_fault.Script script.Memory)
only_limits n (of_script wrong) is = absurd cc
only_limits n (of_limits wrong) is = cc
only_limits n undivided is = absurd cc
only_limits n (of_live wrong) is = absurd cc

told_stops : (s : PairSaid) (n : ℕ) (found : Option PairWrong) (of : LivePairFault) (own : Stop) →
    IsPairToldAt n found of → StopsOf of own →
    ((wrong : PairFault) → found ≡ Some (of_limits wrong) → s.live ≡ None) →
    StopsReader (is_some s.live) (note_at n found) own
told_stops s n found of own told is none =
    subst (λ (note : FaultNote). StopsReader (is_some s.live) note own)
    (ap (λ (f : LivePairFault). Some (live_pair_why f, live_pair_fault_text f)) told.is
    ∙ sym (ap (note_at n) told.fails))
    (stops_of (is_some s.live) of own is
    (λ short. ap (λ (live : Option BothLive). is_some live) (none (pair_fault.Script script.Memory)
    (told.fails ∙ ap Some (only_limits n told.wrong (sym told.is ∙ short))))))

pub line_stops : (ls : List (List ℕ)) (line : List ℕ) (of : LivePairFault) (own : Stop) →
    StopsPair (length ls + 1) (pair_said_in ls) (words line) of → StopsOf of own →
    StopsReader (pair_text.begun ls) (pair_text.fault ls line) own
line_stops ls line of own stops is =
    let s : PairSaid = pair_said_in ls in
    elim stops [
      | inl short ↦ short_as (is_some s.live) (pair_text.fault ls line) own (is.short short.0)
          (ap (λ (live : Option BothLive). is_some live) short.1)
      | inr told ↦ told_stops s (length ls + 1) (pair_line_fault s (words line)) of own told is
          (limits_none s (words line))
    ]

pub end_stops : (ls : List (List ℕ)) (of : LivePairFault) (own : Stop) →
    IsPairToldAt (length ls + 1) (pair_opening_fault (pair_said_in ls)) of → StopsOf of own →
    StopsReader (pair_text.begun ls) (pair_text.missing ls) own
end_stops ls of own told is =
    let s : PairSaid = pair_said_in ls in
    told_stops s (length ls + 1) (pair_opening_fault s) of own told is
    (λ wrong found. opening_none s.live s (of_limits wrong) found)

-- ---- one line more
pub begins_so : {E : Type 0} (made : Result LivePairReader E) → IfOk made IsLivePairReader →
    IfOk made (λ reader. IsPairAt reader 1 nothing_said) → IfOk made (λ reader. HasReadLines reader [])
begins_so (Err short) is at = tt
begins_so (Ok reader) is at = record { fine = nothing_fine; made = is; at = at }

few_lines : (reader : LivePairReader) (ls : List (List ℕ)) → HasReadLines reader ls → length ls ≤ longest_input
few_lines reader ls has = omega (arith, has.at.number, has.made.count)

one_later : (ls : List (List ℕ)) (line : List ℕ) → length ls + 1 + 1 ≡ length (ls ++ line ∷ []) + 1
one_later ls line = omega (arith, length-append ls (line ∷ []))

pub reads_more : (reader now : LivePairReader) (ls : List (List ℕ)) (line : List ℕ) (says : LivePairLine) →
    HasReadLines reader ls → IsLivePairReader now →
    ReadsPairLine now (length ls + 1) (pair_said_in ls) (words line) says → HasReadLines now (ls ++ line ∷ [])
reads_more reader now ls line says has made read = record {
  fine = more_fine ls line has.fine read.fine;
  made = made;
  at = subst (λ (n : ℕ). IsPairAt now n (pair_said_in (ls ++ line ∷ []))) (one_later ls line)
      (subst (IsPairAt now (length ls + 1 + 1)) (sym (said_next ls line)) read.at);
}

-- by which nothing happens
quiet_told : (n : ℕ) (s : PairSaid) (ws : List (List ℕ)) (divides : Bool) (t : PairTold) → pair_divides s ws ≡ divides →
    pair_told ws ≡ t → pair_saying_of t ≡ [] → (pair_line_after n s ws).live ≡ s.live
quiet_told n s ws true t divides is none = rw divides refl
quiet_told n s ws false nothing divides is none = rw divides (ap (λ (t : PairTold). (pair_said_with n s ws t).live) is)
quiet_told n s ws false setting divides is none = rw divides (ap (λ (t : PairTold). (pair_said_with n s ws t).live) is)
quiet_told n s ws false (happens saying) divides is none = absurd cc

pub quiet_line : (ls : List (List ℕ)) (line : List ℕ) → AreFine nothing_said ls →
    pair_line_fault (pair_said_in ls) (words line) ≡ None → line_pair_saying line ≡ [] →
    IsQuiet pair_text HasAnsweredLines ls line
unfolding pair_answers_from
quiet_line ls line fine sound none =
    let s : PairSaid = pair_said_in ls in
    let next : List (List ℕ) = ls ++ line ∷ [] in
    let pair = scripts_of_live next in
    let live : (pair_said_in next).live ≡ s.live = ap (λ (now : PairSaid). now.live) (said_next ls line)
    ∙ quiet_told (length ls + 1) s (words line) (pair_divides s (words line)) (pair_told (words line)) refl refl none in
    let all : pair_sayings next ≡ pair_sayings ls =
    sayings_next ls line ∙ ap (λ (more : List PairSaying). pair_sayings ls ++ more) none ∙ append-nil (pair_sayings ls) in
    record {
      begun = ap (λ (l : Option BothLive). is_some l) live;
      answer = λ asked. ap (pair_answered_since asked pair.there pair.back (pair_sayings ls)) none;
      still = λ own asked begun has.
          let some = begun_some s.live begun in
          let is = settled (length ls + 1) s line some.some (lines_divided ls some.some fine some.is) some.is sound in
          let there : there_config (pair_said_in next) ≡ there_config s = ap there_config (said_next ls line)
          ∙ ap (λ (first : Option Draft). (unwrap_or first at_first).config) is.before in
          let back : back_config (pair_said_in next) ≡ back_config s =
          ap back_config (said_next ls line) ∙ ap (λ (d : Draft). d.config) is.settings in
          subst (λ (c : Config). IsPairAnswered own asked c (back_config (pair_said_in next)) (pair_sayings next)) (sym there)
          (subst (λ (c : Config). IsPairAnswered own asked (there_config s) c (pair_sayings next)) (sym back)
          (subst (IsAnsweredBy own asked s) (sym all) has));
    }

-- by which something happens
pub record Happens (frame : List ℕ) (says : LivePairLine) : Type 0 where
  pub saying : PairSaying
  pub is : told_pair_line frame says ≡ happens saying

pub happens_in : (frame : List ℕ) (says : LivePairLine) → (says ≡ spoken.Blank → ⊥) → (says ≡ spoken.Setting → ⊥) →
    Happens frame says
happens_in frame spoken.Blank blank set = absurd (blank refl)
happens_in frame spoken.Setting blank set = absurd (set refl)
happens_in frame says blank set = record { saying = _; is = refl }

pub quiet_in : (frame : List ℕ) (says : LivePairLine) → (says ≡ spoken.Blank) ⊎ (says ≡ spoken.Setting) →
    pair_saying_of (told_pair_line frame says) ≡ []
quiet_in frame says (inl blank) = ap (λ (l : LivePairLine). pair_saying_of (told_pair_line frame l)) blank
quiet_in frame says (inr set) = ap (λ (l : LivePairLine). pair_saying_of (told_pair_line frame l)) set

happens_by : (n : ℕ) (s : PairSaid) (ws : List (List ℕ)) (saying : PairSaying) (divides : Bool) →
    pair_divides s ws ≡ divides → pair_told ws ≡ happens saying → pair_line_after n s ws ≡ pair_with s saying
happens_by n s ws saying true divides is =
    absurd (let set = sym (division_told ws (and_parts (is_none s.first) (is_division ws) divides).1) ∙ is in cc)
happens_by n s ws saying false divides is = rw divides (ap (pair_said_with n s ws) is)

pub waits_for : (reader now : LivePairReader) (ls : List (List ℕ)) → HasReadLines reader ls → IsLivePairReader now →
    pair_text.begun ls ≡ false →
    ((pair_said_in ls).live ≡ None →
    waiting_configs now ≡ Some (there_config (pair_said_in ls), back_config (pair_said_in ls))) → WaitsForPair now ls
waits_for reader now ls has made begun hands =
    let is = none_some (pair_said_in ls).live begun in
    record {
      made = made;
      none = subst (AgreesWith (pair_said_in ls) (pair_sayings ls)) is (lines_agree ls has.fine (few_lines reader ls has));
      configs = hands is;
    }

pub live_line : (reader now : LivePairReader) (ls : List (List ℕ)) (line : List ℕ) (says : LivePairLine) →
    HasReadLines reader ls → IsLivePairReader now →
    ReadsPairLine now (length ls + 1) (pair_said_in ls) (words line) says → Happens (pair_frame now) says →
    IsLive pair_text WaitsForPair IsSaidBehind now says ls line
live_line reader now ls line says has made read own =
    let s : PairSaid = pair_said_in ls in
    let next : List (List ℕ) = ls ++ line ∷ [] in
    let here : pair_told (words line) ≡ happens own.saying = sym read.told ∙ own.is in
    let with_it = happens_by (length ls + 1) s (words line) own.saying (pair_divides s (words line)) refl here in
    let after : pair_said_in next ≡ pair_with s own.saying = said_next ls line ∙ with_it in
    let live = ap (λ (later : PairSaid). later.live) after in
    let later = reads_more reader now ls line says has made read in
    let agrees = subst (AgreesWith (pair_said_in next) (pair_sayings next)) live
    (lines_agree next later.fine (few_lines now next later)) in
    record {
      begun = ap (λ (l : Option BothLive). is_some l) live;
      waits = λ begun. waits_for reader now ls has made begun
          (read.opens _ (ap (λ (later : PairSaid). later.live) with_it));
      says_so = record {
        saying = own.saying;
        told = own.is;
        here = ap pair_saying_of here;
        there = ap there_config after;
        back = ap back_config after;
        well = agrees.well;
      };
    }

-- ---- what a pair answers
-- it stands for the two scripts of which the lines say all
abbrev IsTotal : AnsweredPair → Way → Totals → Type 0
IsTotal pair way totals =
    (one other : Script) → PairLives one other pair.pair →
    totals ≡ totals_of (leg_on one other way) (counts_on (walking_counts pair.pair) way)

pub last_is : (pair : AnsweredPair) (asked : Asked) (ls : List (List ℕ)) (there back : Totals) →
    HasAnsweredLines pair asked ls → IsTotal pair There there → IsTotal pair Back back →
    total_way_text There there ++ total_way_text Back back ≡ pair_text.last ls
last_is pair asked ls there back has one other =
    let s : PairSaid = pair_said_in ls in
    let said : List PairSaying = pair_sayings ls in
    let pairs = scripts_of_live ls in
    let are : ArePairOf (there_config s) (back_config s) said pairs.there pairs.back = record {
      pair = said-pair (there_config s) (back_config s) said has.network has.well;
      agrees = pair-own (there_config s) (back_config s) said;
    } in
    let lives = has.walks.lives pairs.there pairs.back are in
    let counts = has.walks.counts pairs.there pairs.back are in
    ap₂ (λ (t u : Totals). total_way_text There t ++ total_way_text Back u)
    (one pairs.there pairs.back lives
    ∙ ap (λ s. totals_of (leg_on pairs.there pairs.back There) (counts_on s There)) counts)
    (other pairs.there pairs.back lives
    ∙ ap (λ s. totals_of (leg_on pairs.there pairs.back Back) (counts_on s Back)) counts)

module _ (reader : LivePairReader) (says : LivePairLine) (ls : List (List ℕ)) (line : List ℕ)
    (is : IsSaidBehind reader says ls line)
  where
    all : pair_sayings (ls ++ line ∷ []) ≡ pair_sayings ls ++ is.saying ∷ []
    all = sayings_next ls line ∙ ap (λ (more : List PairSaying). pair_sayings ls ++ more) is.here

    was_said : (own : AnsweredPair) (asked : Asked) → HasAnsweredLines own asked ls →
        IsAnsweredBy own asked (pair_said_in (ls ++ line ∷ [])) (pair_sayings ls)
    was_said own asked has =
        subst (λ (c : Config). IsPairAnswered own asked c (back_config (pair_said_in (ls ++ line ∷ []))) (pair_sayings ls))
        (sym is.there)
        (subst (λ (c : Config). IsPairAnswered own asked (there_config (pair_said_in ls)) c (pair_sayings ls))
        (sym is.back) has)

    answer_is : (asked : Asked) →
        (let s : PairSaid = pair_said_in (ls ++ line ∷ []) in
        pair_answer_to asked (there_config s) (back_config s) (pair_sayings ls) is.saying ≡ pair_text.answer asked ls line)
    answer_is asked =
        let s : PairSaid = pair_said_in (ls ++ line ∷ []) in
        ap (λ (said : List PairSaying). pair_answered_since asked (script_on (there_config s) There said)
        (script_on (back_config s) Back said) (pair_sayings ls) (is.saying ∷ [])) (sym all)
        ∙ ap (pair_answered_since asked (scripts_of_live (ls ++ line ∷ [])).there
        (scripts_of_live (ls ++ line ∷ [])).back (pair_sayings ls)) (sym is.here)

    pub same_saying : (saying : PairSaying) → told_pair_line (pair_frame reader) says ≡ happens saying → saying ≡ is.saying
    same_saying saying same = let both = sym same ∙ is.told in cc

    pub never_quiet : (says ≡ spoken.Blank) ⊎ (says ≡ spoken.Setting) → ⊥
    never_quiet quiet =
        let none = sym (ap pair_saying_of is.told) ∙ quiet_in (pair_frame reader) says quiet in
        cc

    can_say : (saying : PairSaying) → saying ≡ is.saying →
        IsSaidBy (pair_said_in (ls ++ line ∷ [])) (pair_sayings ls ++ saying ∷ [])
    can_say saying same =
        subst (IsSaidBy (pair_said_in (ls ++ line ∷ [])))
        (all ∙ ap (λ (s : PairSaying). pair_sayings ls ++ s ∷ []) (sym same)) is.well

    pub can_say_as : (own : AnsweredPair) (asked : Asked) → HasAnsweredLines own asked ls → (saying : PairSaying) →
        told_pair_line (pair_frame reader) says ≡ happens saying →
        (asked : Asked) × (there : Config) × (back : Config) × (said : List PairSaying)
        × IsPairAnswered own asked there back said × IsPairSaid there back (said ++ saying ∷ [])
    can_say_as own asked has saying same =
        let s : PairSaid = pair_said_in (ls ++ line ∷ []) in (
          asked,
          there_config s,
          back_config s,
          pair_sayings ls,
          was_said own asked has,
          can_say saying (same_saying saying same),
        )

    module _ {K : Type 0} (written : K → Option (List ℕ)) (faults : K → ℕ) where
      pub line_answered : (old new : K) (waited waits : List ℕ) (was now : AnsweredPair) (asked : Asked)
          (result : Result (Unit {0}) Failed) (saying : PairSaying) → saying ≡ is.saying → HasAnsweredLines was asked ls →
          ((asked : Asked) (there back : Config) (said : List PairSaying) → IsPairAnswered was asked there back said →
          IsPairSaid there back (said ++ saying ∷ []) →
          OnOk result (PairAnswers written faults old new waited waits now asked there back said saying)) →
          OnOk result (AnswersLine pair_text HasAnsweredLines written faults old new waited waits now asked ls line)
      line_answered old new waited waits was now asked result saying same has answers =
          let s : PairSaid = pair_said_in (ls ++ line ∷ []) in
          on_ok_weaker result (λ own. record {
            is = subst (IsAnsweredBy now asked s) (ap (λ (l : PairSaying). pair_sayings ls ++ l ∷ []) same ∙ sym all) own.is;
            holds = subst (λ (t : List ℕ). Holds written faults old new waits (waited ++ t))
                (ap (pair_answer_to asked (there_config s) (back_config s) (pair_sayings ls)) same ∙ answer_is asked)
                own.holds;
          })
          (answers asked (there_config s) (back_config s) (pair_sayings ls) (was_said was asked has) (can_say saying same))

      pub line_part : (old new : K) (waited : List ℕ) (was : AnsweredPair) (asked : Asked)
          (result : Result (Unit {0}) Failed) (saying : PairSaying) → saying ≡ is.saying → HasAnsweredLines was asked ls →
          ((asked : Asked) (there back : Config) (said : List PairSaying) → IsPairAnswered was asked there back said →
          IsPairSaid there back (said ++ saying ∷ []) →
          OnErr result (PairAnswersPart written faults old new waited asked there back said saying)) →
          OnErr result (AppendsPart written faults old new (waited ++ pair_text.answer asked ls line))
      line_part old new waited was asked result saying same has part =
          let s : PairSaid = pair_said_in (ls ++ line ∷ []) in
          on_err_weaker result (subst (λ (t : List ℕ). AppendsPart written faults old new (waited ++ t))
          (ap (pair_answer_to asked (there_config s) (back_config s) (pair_sayings ls)) same ∙ answer_is asked))
          (part asked (there_config s) (back_config s) (pair_sayings ls) (was_said was asked has) (can_say saying same))

-- to a line by which nothing is answered
pub cut_answered : (asked : Asked) (there back : Config) (said : List PairSaying) (way : Way) (m : ℕ) →
    pair_answer_to asked there back said (cuts_on way m) ≡ []
unfolding pair_answers_from
cut_answered asked there back said way m = refl

pub mend_answered : (asked : Asked) (there back : Config) (said : List PairSaying) (way : Way) (m : ℕ) →
    pair_answer_to asked there back said (mends_on way m) ≡ []
unfolding pair_answers_from
mend_answered asked there back said way m = refl

pub quiet_saying : {K : Type 0} (written : K → Option (List ℕ)) (faults : K → ℕ) (sink : K) (waiting : List ℕ)
    (now : AnsweredPair) (asked : Asked) (there back : Config) (said : List PairSaying) (saying : PairSaying) →
    IsPairAnswered now asked there back (said ++ saying ∷ []) → pair_answer_to asked there back said saying ≡ [] →
    PairAnswers written faults sink sink waiting waiting now asked there back said saying
quiet_saying written faults sink waiting now asked there back said saying is none =
    record { is = is; holds = nothing_added written faults sink waiting (pair_answer_to asked there back said saying) none }
