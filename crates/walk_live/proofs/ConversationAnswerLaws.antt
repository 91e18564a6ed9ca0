-- What is answered to the lines of a conversation grows and stays, up to the headline of the whole text.
use Rattle.std.proofs.Common.{◌≡◌, ◌∙◌, ℕ, ◌+◌, ◌*◌, ◌<◌, zero, suc, List, [], ◌∷◌, ◌++◌, ap, ap₂, sym, subst}
use Rattle.std.proofs.Common.{arith, refl, All, ◌≤◌, length, append_assoc, append-nil, length-append, Option, None}
use Rattle.std.proofs.Common.{Some, Ok, Err}
use Rattle.std.specs.List.{range_with_len}
use Rattle.std.proofs.lemmas.List.Elements.{All-head, All-tail}
use Rattle.std.proofs.lemmas.List.FromFn.{get_or-range_with_len, length-range_with_len}
use Rattle.law_model.specs.Common.{IsNetwork, IsSound, Leg, begin, steps_in, longest_input, leg_of, walked}
use Rattle.law_model.specs.declared.script_types.Config.{Config}
use Rattle.law_model.specs.Common.{Table, after, scenario_by, state_of}
use Rattle.law_walk.specs.Common.{cell_taken, session_of, table_in, walk_plan, landed_items, report_of}
use Rattle.law_live.specs.Common.{code_at, member_code, members_text, told_among}
use Rattle.law_live.specs.LiveAnswers.{Telling, refused_item, step_made, got_at, queue_at, now_at, answers_from}
use Rattle.law_live.specs.Common.{Agrees, Answer, IsWellSaid, Saying, answer_text, answers, answers_text, leg_said}
use Rattle.law_live.specs.Common.{live_of, steps_made, Live, leg_by, events_by, report_said, rounds_of, last_text}
use Rattle.law_live.proofs.AgreeingLegConversationLaws.{agrees-own, text-more, agrees-begin, agrees-stands}
use Rattle.law_live.proofs.AgreeingLegConversationLaws.{answers-steps, well-front, script-text}
use Rattle.law_live.proofs.SamePastRoundAndAnswerLaws.{later}
use Rattle.law_live.proofs.WellSaidLegAndWindowLaws.{said-sound}
use Rattle.text_captures.specs.packet_trace.StepText.{step_text}
use Rattle.walk_live.specs.LiveTexts.{reply_by}
use Rattle.walk_live.specs.LiveReplies.{answered, answered_since, step_line, telling, live_dialogue, note_at}
use Rattle.text_live.specs.LiveLines.{Said, live_or, nothing_said, LineWrong, line_fault, now_live, opening_fault}
use Rattle.text_live.specs.Sayings.{AgreesWith, AreFine, leg_in, line_saying, said_in, sayings}
use Rattle.text_live.proofs.LiveScriptSayingsLaws.{front_fine, less_fine, lines_agree, said_next, sayings_next}
use Rattle.text_live.proofs.LiveScriptSayingsLaws.{settled, more_fine, nothing_fine, all_said, script_live}
use Rattle.text_lines.specs.WordsOfLine.{words}
use Rattle.command_parts.specs.Dialogue.{Dialogue, Heard, course_of, nothing_heard, Reply, last_reply, parting}
use Rattle.command_parts.specs.Dialogue.{talk_of}
use Rattle.command_parts.proofs.TalkCourseOverOctetsLaws.{StandsByLines, course_heard_all, course_parted}
use Rattle.law_model.specs.declared.script_types.Script.{Script}
use Rattle.law_progress.proofs.RoundProgressAndDrainLaws.{walked-reached}
use Rattle.law_walk.proofs.AcceptedFrameAndDrainedWalkLaws.{counts-within}
use Rattle.law_walk.proofs.WalkPlanAndPoppedCellLaws.{sound-walks}
use Rattle.law_headline.specs.WalkTexts.{counts_in}
use Rattle.law_headline.proofs.ReportedFramesLaws.{is_headline}
use Rattle.text_live.specs.LiveScript.{script_in}
use Rattle.text_live.proofs.LiveScriptSayingsLaws.{valid_live}
use Rattle.walk_live.specs.Headline.{IsWalkOf, IsLiveHeadline}
use Rattle.std.specs.Str.Lines.{lines}
use Rattle.command_parts.specs.Talk.{Said as TalkSaid}
use Rattle.walk_live.specs.declared.asked.Asked.{Asked}
use Rattle.walk_live.specs.declared.asked.Asked.TheVariants.{Nothing, Steps, Members}

-- ---- What was answered stands in the leg of more that is said: its lines too.
-- ---- lines of answers, where some decision steps have the same
same_texts : (tells other : Telling) (n : ℕ) (told : List Answer) → tells.queue ≡ other.queue →
    All (λ j. j < n) (steps_made told) → ((j : ℕ) → j < n → tells.step j ≡ other.step j) →
    answers_text tells told ≡ answers_text other told
same_texts tells other n [] queue low same = refl
same_texts tells other n (refused_item number why ∷ told) queue low same =
    ap (λ text. answer_text other (refused_item number why) ++ text) (same_texts tells other n told queue low same)
same_texts tells other n (step_made j ∷ told) queue low same =
    ap₂ (λ x y. x ++ y) (same j (All-head (λ i. i < n) j (steps_made told) low))
    (same_texts tells other n told queue (All-tail (λ i. i < n) j (steps_made told) low) same)
same_texts tells other n (got_at ticks frame ∷ told) queue low same =
    ap (λ text. answer_text other (got_at ticks frame) ++ text) (same_texts tells other n told queue low same)
same_texts tells other n (queue_at was now ∷ told) queue low same =
    ap₂ (λ line text. line was now ++ text) queue (same_texts tells other n told queue low same)
same_texts tells other n (now_at ticks ∷ told) queue low same =
    ap (λ text. answer_text other (now_at ticks) ++ text) (same_texts tells other n told queue low same)

range_low : (n : ℕ) → All (λ j. j < n) (range_with_len 0 n)
range_low n i d inside =
    let low : i < n = omega (arith, inside, length-range_with_len 0 n) in
    omega (arith, low, get_or-range_with_len 0 n i d low)

-- ---- the tables of a source by its decision steps
abbrev table_by : Leg → ℕ → Table
table_by leg n = (after (scenario_by leg) (session_of leg) n).table

first_same : (leg other : Leg) → table_by leg 0 ≡ table_by other 0
unfolding after
first_same leg other = refl

abbrev codes_in : Table → ℕ → List ℕ
codes_in table m = member_code (state_of table m)

-- ---- two legs in which the same was said
module _ (config : Config) (said : List Saying) (leg other : Leg) (sound : IsSound leg) (sound' : IsSound other)
    (well : IsWellSaid config said) (agrees : Agrees config (live_of config said) leg)
    (agrees' : Agrees config (live_of config said) other)
  where
    steps_low : All (λ j. j < steps_in (live_of config said).passed) (steps_made (answers leg said))
    steps_low =
        let ticks = (agrees-stands config leg sound said well agrees).ticks in
        let asked : steps_made (answers leg said) ≡ range_with_len 0 (steps_in (live_of config said).passed) =
        answers-steps leg said ∙ ap (λ n. range_with_len 0 (steps_in n)) ticks in
        subst (All (λ j. j < steps_in (live_of config said).passed)) (sym asked)
        (range_low (steps_in (live_of config said).passed))

    same_lines : leg.config.lines ≡ other.config.lines
    same_lines = ap (λ (c : Config). c.lines) agrees.network ∙ sym (ap (λ (c : Config). c.lines) agrees'.network)

    -- the table that a step leaves, and the one that it finds
    same_before : (j : ℕ) → j < steps_in (live_of config said).passed →
        table_in leg (16 * j + 8) ≡ table_in other (16 * j + 8)
    same_before zero low = first_same leg other
    same_before (suc j) low =
        let same = later config said leg other sound sound' well agrees agrees' in
        let steps : steps_in (16 * suc j + 8) ≡ steps_in (16 * j + 9) = omega arith in
        ap (table_by leg) steps ∙ same.tables j (omega (arith, low)) ∙ sym (ap (table_by other) steps)

    same_line : (asked : Asked) (j : ℕ) → j < steps_in (live_of config said).passed →
        step_line asked leg j ≡ step_line asked other j
    same_line Nothing j low = refl
    same_line Steps j low =
        let same = later config said leg other sound sound' well agrees agrees' in
        ap (λ cell. step_text j cell (table_in leg (16 * j + 9)) leg.config.lines) (same.cells j low)
        ∙ ap (λ table. step_text j (cell_taken other j) table leg.config.lines) (same.tables j low)
        ∙ ap (λ n. step_text j (cell_taken other j) (table_in other (16 * j + 9)) n) same_lines
    same_line Members j low =
        let same = later config said leg other sound sound' well agrees agrees' in
        ap (λ table. members_text (told_among (16 * j + 9) (codes_in table)
        (code_at leg (16 * j + 9)) leg.config.lines)) (same_before j low)
        ∙ ap (λ table. members_text (told_among (16 * j + 9) (code_at other (16 * j + 8))
        (codes_in table) leg.config.lines)) (same.tables j low)
        ∙ ap (λ n. members_text (told_among (16 * j + 9) (code_at other (16 * j + 8)) (code_at other (16 * j + 9)) n))
        same_lines

    pub same_answered : (asked : Asked) → answered asked leg said ≡ answered asked other said
    same_answered asked =
        same_texts (telling asked leg) (telling asked other) (steps_in (live_of config said).passed)
        (answers leg said) refl steps_low (same_line asked)
        ∙ ap (answers_text (telling asked other)) (later config said leg other sound sound' well agrees agrees').answers

-- ---- more is said
pub answered_before : (asked : Asked) (config : Config) (said more : List Saying) → IsNetwork config →
    IsWellSaid config (said ++ more) →
    answered asked (leg_said config (said ++ more)) said ≡ answered asked (leg_said config said) said
answered_before asked config said more network well =
    let less = well-front config said more well in
    same_answered config said (leg_said config (said ++ more)) (leg_said config said)
    (said-sound config (said ++ more) network well) (said-sound config said network less) less
    (agrees-begin config said more well.each) (agrees-own config (live_of config said)) asked

pub answered_more : (asked : Asked) (leg : Leg) (said more : List Saying) →
    answered asked leg (said ++ more) ≡ answered asked leg said ++ answered_since asked leg said more
answered_more asked leg said more = text-more leg (begin (walk_plan leg)) said more (telling asked leg)

-- ---- What is answered to lines grows by the answer to each behind those before it.
-- ---- from the first live line on
pub record IsLegSaid (c : Config) (ls : List (List ℕ)) : Type 0 where
  pub network : IsNetwork c
  pub well : IsWellSaid c (sayings ls)
  pub leg : leg_in ls ≡ leg_said c (sayings ls)

pub leg_lines : (ls : List (List ℕ)) (live : Live) → AreFine nothing_said ls → length ls ≤ longest_input →
    (said_in ls).live ≡ Some live → IsLegSaid (said_in ls).settings.config ls
leg_lines ls live fine few is =
    let s : Said = said_in ls in
    let agrees = subst (AgreesWith s (sayings ls)) is (lines_agree ls fine few) in
    record {
      network = agrees.0;
      well = agrees.1;
      leg = ap (λ (l : Option Live). leg_by s.settings.config (live_or l s.settings.config)) is
          ∙ ap (leg_by s.settings.config) agrees.2;
    }

leg_more : (ls : List (List ℕ)) (line : List ℕ) (live : Live) → AreFine nothing_said (ls ++ line ∷ []) →
    length (ls ++ line ∷ []) ≤ longest_input → (said_in ls).live ≡ Some live →
    IsLegSaid (said_in ls).settings.config (ls ++ line ∷ [])
leg_more ls line live fine few is =
    let now = settled (length ls + 1) (said_in ls) line live is (less_fine ls line fine).1 in
    let next = said_next ls line in
    subst (λ (c : Config). IsLegSaid c (ls ++ line ∷ []))
    (ap (λ (s : Said). s.settings.config) next ∙ ap (λ d. d.config) now.settings)
    (leg_lines (ls ++ line ∷ []) now.live fine few (ap (λ (s : Said). s.live) next ∙ now.begun))

-- ---- what was answered so far
none_answered : (asked : Asked) (leg other : Leg) (said : List Saying) → said ≡ [] →
    answered asked leg said ≡ answered asked other said
unfolding answers_from
none_answered asked leg other said none = ap (answered asked leg) none ∙ sym (ap (answered asked other) none)

so_far : (asked : Asked) (ls : List (List ℕ)) (line : List ℕ) (live : Option Live) →
    AreFine nothing_said (ls ++ line ∷ []) → length (ls ++ line ∷ []) ≤ longest_input → (said_in ls).live ≡ live →
    answered asked (leg_in (ls ++ line ∷ [])) (sayings ls) ≡ answered asked (leg_in ls) (sayings ls)
so_far asked ls line None fine few is =
    let less : length ls ≤ longest_input = omega (arith, few, length-append ls (line ∷ [])) in
    none_answered asked (leg_in (ls ++ line ∷ [])) (leg_in ls) (sayings ls)
    (subst (AgreesWith (said_in ls) (sayings ls)) is (lines_agree ls (less_fine ls line fine).0 less))
so_far asked ls line (Some live) fine few is =
    let less : length ls ≤ longest_input = omega (arith, few, length-append ls (line ∷ [])) in
    let c : Config = (said_in ls).settings.config in
    let before = leg_lines ls live (less_fine ls line fine).0 less is in
    let behind = leg_more ls line live fine few is in
    let next = sayings_next ls line in
    ap (λ (leg : Leg). answered asked leg (sayings ls)) (behind.leg ∙ ap (leg_said c) next)
    ∙ answered_before asked c (sayings ls) (line_saying line) before.network (subst (IsWellSaid c) next behind.well)
    ∙ ap (λ (leg : Leg). answered asked leg (sayings ls)) (sym before.leg)

pub answered_line : (asked : Asked) (ls : List (List ℕ)) (line : List ℕ) → AreFine nothing_said (ls ++ line ∷ []) →
    length (ls ++ line ∷ []) ≤ longest_input →
    answered asked (leg_in ls) (sayings ls)
    ++ answered_since asked (leg_in (ls ++ line ∷ [])) (sayings ls) (line_saying line)
    ≡ answered asked (leg_in (ls ++ line ∷ [])) (sayings (ls ++ line ∷ []))
answered_line asked ls line fine few =
    let leg : Leg = leg_in (ls ++ line ∷ []) in
    ap (λ (text : List ℕ). text ++ answered_since asked leg (sayings ls) (line_saying line))
    (sym (so_far asked ls line (said_in ls).live fine few refl))
    ∙ sym (answered_more asked leg (sayings ls) (line_saying line))
    ∙ ap (answered asked leg) (sym (sayings_next ls line))

-- ---- and to more lines by the answers to these
abbrev pub Grows : Asked → List (List ℕ) → List (List ℕ) → Type 0
Grows asked ls all = (rest : List ℕ)
    × (answered asked (leg_in all) (sayings all) ≡ answered asked (leg_in ls) (sayings ls) ++ rest)

pub answered_grows : (asked : Asked) (ls more : List (List ℕ)) → AreFine nothing_said (ls ++ more) →
    length (ls ++ more) ≤ longest_input → Grows asked ls (ls ++ more)
answered_grows asked ls [] fine few =
    subst (Grows asked ls) (sym (append-nil ls)) ([], sym (append-nil (answered asked (leg_in ls) (sayings ls))))
answered_grows asked ls (line ∷ more) fine few =
    let same : (ls ++ line ∷ []) ++ more ≡ ls ++ line ∷ more = append_assoc ls (line ∷ []) more in
    let later : AreFine nothing_said ((ls ++ line ∷ []) ++ more) = subst (AreFine nothing_said) (sym same) fine in
    let size = length-append (ls ++ line ∷ []) more in
    let all : length ((ls ++ line ∷ []) ++ more) ≤ longest_input = omega (arith, few, ap length same) in
    let since : List ℕ = answered_since asked (leg_in (ls ++ line ∷ [])) (sayings ls) (line_saying line) in
    let next = answered_line asked ls line (front_fine (ls ++ line ∷ []) more later) (omega (arith, all, size)) in
    let (rest, is) = answered_grows asked (ls ++ line ∷ []) more later all in
    subst (Grows asked ls) same (
      since ++ rest,
      is ∙ ap (λ (text : List ℕ). text ++ rest) (sym next)
          ∙ append_assoc (answered asked (leg_in ls) (sayings ls)) since rest,
    )

-- ---- Over the course of a conversation: no line that is replied to is faulty, and what is said to all so far are the answers
-- to what they say.
-- ---- how far a conversation has come
pub record IsSpoken (asked : Asked) (heard : Heard) : Type 0 where
  pub dialogue : heard.dialogue ≡ live_dialogue asked
  pub fine : AreFine nothing_said heard.lines
  pub few : length heard.lines ≤ longest_input
  pub said : heard.said ≡ answered asked (leg_in heard.lines) (sayings heard.lines)

pub nothing_spoken : (asked : Asked) → IsSpoken asked (nothing_heard (live_dialogue asked))
unfolding answers_from
nothing_spoken tells = record { dialogue = refl; fine = nothing_fine; few = omega arith; said = refl }

-- ---- a reply
pub record IsReplied (found : Option LineWrong) (given text : List ℕ) : Type 0 where
  pub none : found ≡ None
  pub is : given ≡ text

pub replied : (n : ℕ) (found : Option LineWrong) (given text : List ℕ) → reply_by (note_at n found) given ≡ Ok text →
    IsReplied found given text
replied n None given text is = record { none = refl; is = cc }
replied n (Some wrong) given text is = absurd cc

pub spoken_more : (asked : Asked) → StandsByLines (IsSpoken asked)
spoken_more asked heard line text spoken left is =
    let ls : List (List ℕ) = heard.lines in
    let reply : (live_dialogue asked).reply ls line ≡ Ok text =
    sym (ap (λ (d : Dialogue). d.reply ls line) spoken.dialogue) ∙ is in
    let parts = replied (length ls + 1) (line_fault (said_in ls) (words line))
    (answered_since asked (leg_in (ls ++ line ∷ [])) (sayings ls) (line_saying line)) text reply in
    let fine = more_fine ls line spoken.fine parts.none in
    let few : length (ls ++ line ∷ []) ≤ longest_input = omega (arith, left, length-append ls (line ∷ [])) in
    record {
      dialogue = spoken.dialogue;
      fine = fine;
      few = few;
      said = ap₂ (λ (x y : List ℕ). x ++ y) spoken.said (sym parts.is) ∙ answered_line asked ls line fine few;
    }

pub course_spoken : (asked : Asked) (octets : List ℕ) →
    IsSpoken asked (course_of octets (nothing_heard (live_dialogue asked))).heard
course_spoken asked octets =
    (course_heard_all (IsSpoken asked) (spoken_more asked) octets (nothing_heard (live_dialogue asked))
    (nothing_spoken asked)).stands

-- ---- A walk of the script of lines writes what the answers to them tell.
text_as : (c : Config) (said : List Saying) (live : Live) → IsNetwork c → IsWellSaid c said → live ≡ live_of c said →
    (let leg : Leg = leg_by c live in
    report_of leg (walked (walk_plan leg) (events_by (rounds_of leg said) live)) ≡ report_said leg said)
text_as c said live network well stands =
    subst (λ (l : Live). (let leg : Leg = leg_by c l in
    report_of leg (walked (walk_plan leg) (events_by (rounds_of leg said) l)) ≡ report_said leg said)) (sym stands)
    (script-text c said network well)

pub walk_of : (ls : List (List ℕ)) → length ls ≤ longest_input → AreFine nothing_said ls →
    opening_fault (said_in ls).live (said_in ls).settings ≡ None → (script : Script) × IsWalkOf ls script
walk_of ls few fine whole =
    let s : Said = said_in ls in
    let all = all_said ls fine few whole in
    let rounds : ℕ = rounds_of (leg_in ls) (sayings ls) in
    let script : Script = script_in rounds s in
    let says = script_live rounds ls fine whole in
    let valid = valid_live rounds ls script few says in
    let leg : Leg = leg_of script in
    let counts = counts_in script in
    let within = counts-within leg counts (sound-walks leg valid.sound) (walked-reached (walk_plan leg) script.events) in (
      script,
      record {
        says = says;
        valid = valid;
        writes = text_as s.settings.config (sayings ls) (now_live s) all.network all.well all.stands;
        headline = is_headline leg counts.ticks counts.rows (landed_items leg counts) valid.sound
            (omega (arith, within.0, within.1));
      },
    )

-- ---- What a conversation is worth that comes to its end.
-- a parting that was said
record HasParted (heard : Heard) (reply : Reply) : Type 0 where
  text : List ℕ
  is : reply ≡ Ok text
  said : (parting heard reply).text ≡ heard.said ++ text

has_parted : (heard : Heard) (reply : Reply) → (parting heard reply).end ≡ None → HasParted heard reply
has_parted heard (Ok text) none = record { text = text; is = refl; said = refl }
has_parted heard (Err told) none = absurd cc

headline_at : (asked : Asked) (text : List ℕ) (now : Heard) → IsSpoken asked now → now.lines ≡ lines text →
    (parting now (last_reply now)).end ≡ None → IsLiveHeadline asked text (parting now (last_reply now)).text
headline_at asked text now spoken are none =
    let parted = has_parted now (last_reply now) none in
    let last : (live_dialogue asked).last now.lines ≡ Ok parted.text =
    sym (ap (λ (d : Dialogue). d.last now.lines) spoken.dialogue) ∙ parted.is in
    let whole = replied (length now.lines + 1) (opening_fault (said_in now.lines).live (said_in now.lines).settings)
    (last_text (leg_in now.lines) (sayings now.lines)) parted.text last in
    let walk = subst (λ (ls : List (List ℕ)). (script : Script) × IsWalkOf ls script) are
    (walk_of now.lines spoken.few spoken.fine whole.none) in
    record {
      answers = parted.said ∙ ap₂ (λ (x y : List ℕ). x ++ y) spoken.said (sym whole.is)
          ∙ ap (λ (ls : List (List ℕ)). answered asked (leg_in ls) (sayings ls) ++ last_text (leg_in ls) (sayings ls)) are;
      script = walk.0;
      walk = walk.1;
    }

pub live_headline : (asked : Asked) (text : List ℕ) → ((talk_of (live_dialogue asked)).in_all text).end ≡ None →
    IsLiveHeadline asked text ((talk_of (live_dialogue asked)).in_all text).text
live_headline asked text none =
    let heard : Heard = nothing_heard (live_dialogue asked) in
    let parted = course_parted (IsSpoken asked) (spoken_more asked) text heard (nothing_spoken asked) none in
    subst (λ (is : TalkSaid). IsLiveHeadline asked text is.text) (sym parted.says)
    (headline_at asked text parted.now parted.stands parted.lines
    (sym (ap (λ (is : TalkSaid). is.end) parted.says) ∙ none))
