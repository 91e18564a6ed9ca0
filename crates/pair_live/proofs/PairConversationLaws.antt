-- What is answered to the lines of a conversation grows and stays, up to the headline of the whole text.
use Rattle.std.proofs.Common.{◌≡◌, ◌∙◌, ℕ, ◌+◌, ◌≤◌, List, [], ◌∷◌, ◌++◌, ap, ap₂, sym, subst, refl}
use Rattle.std.proofs.Common.{arith, length, append_assoc, append-nil, length-append, Option, None, Some, Ok, Err}
use Rattle.std.specs.Prelude.{unwrap_or}
use Rattle.std.specs.Str.Lines.{lines}
use Rattle.text_lines.specs.WordsOfLine.{words}
use Rattle.law_model.specs.Common.{longest_input}
use Rattle.law_model.specs.declared.script_types.Config.{Config}
use Rattle.law_model.specs.declared.script_types.Script.{Script}
use Rattle.text_scripts.specs.declared.script_read.script_draft.Draft.{Draft}
use Rattle.text_scripts.specs.script_read.Statements.{at_first}
use Rattle.law_pair.specs.declared.pair_events.Way.TheVariants.{There, Back}
use Rattle.law_live.specs.Common.{IsPairNetwork, IsPairSaid, PairSaying, pair_answers_from, script_on}
use Rattle.command_parts.specs.Dialogue.{Dialogue, Heard, Reply, course_of, last_reply, nothing_heard, parting}
use Rattle.command_parts.specs.Dialogue.{talk_of}
use Rattle.command_parts.specs.Talk.{Said as TalkSaid}
use Rattle.command_parts.proofs.TalkCourseOverOctetsLaws.{StandsByLines, course_heard_all, course_parted}
use Rattle.walk_live.specs.declared.asked.Asked.{Asked}
use Rattle.walk_live.specs.LiveTexts.{reply_by}
use Rattle.pair_live.specs.PairDialogue.{line_answered, lines_answered, lines_last, note_at, pair_dialogue}
use Rattle.pair_live.specs.PairHeadline.{IsLivePairHeadline, IsPairWalkOf}
use Rattle.pair_live.specs.PairLines.{BothLive, PairSaid, PairWrong, back_config, nothing_said, pair_line_fault}
use Rattle.pair_live.specs.PairLines.{pair_opening_fault, there_config}
use Rattle.pair_live.specs.PairReplies.{pair_answered}
use Rattle.pair_live.specs.PairSayingsOfLines.{AgreesWith, AreFine, line_pair_saying, pair_said_in, pair_sayings}
use Rattle.pair_live.specs.PairSayingsOfLines.{scripts_of_live}
use Rattle.pair_live.proofs.PairAnswerGrowthLaws.{answered_before, answered_more}
use Rattle.pair_live.proofs.PairLineSayingsLaws.{all_said, front_fine, less_fine, lines_agree, lines_divided}
use Rattle.pair_live.proofs.PairLineSayingsLaws.{more_fine, nothing_fine, said_next, sayings_next, settled}
use Rattle.pair_live.proofs.PairWayHeadlineLaws.{lines_pair, way_headline, way_walk}

-- ---- What is answered to lines grows by the answer to each behind those before it.
-- ---- from the first live line on
-- over two configurations the lines say what is well said
record IsSaidOver (there back : Config) (ls : List (List ℕ)) : Type 0 where
  network : IsPairNetwork there back
  well : IsPairSaid there back (pair_sayings ls)
  there_is : there_config (pair_said_in ls) ≡ there
  back_is : back_config (pair_said_in ls) ≡ back

said_over : (ls : List (List ℕ)) (both : BothLive) → AreFine nothing_said ls → length ls ≤ longest_input →
    (pair_said_in ls).live ≡ Some both →
    IsSaidOver (there_config (pair_said_in ls)) (back_config (pair_said_in ls)) ls
said_over ls both fine few is =
    let agrees = subst (AgreesWith (pair_said_in ls) (pair_sayings ls)) is (lines_agree ls fine few) in
    record { network = agrees.network; well = agrees.well; there_is = refl; back_is = refl }

said_more : (ls : List (List ℕ)) (line : List ℕ) (both : BothLive) → AreFine nothing_said (ls ++ line ∷ []) →
    length (ls ++ line ∷ []) ≤ longest_input → (pair_said_in ls).live ≡ Some both →
    IsSaidOver (there_config (pair_said_in ls)) (back_config (pair_said_in ls)) (ls ++ line ∷ [])
said_more ls line both fine few is =
    let less = less_fine ls line fine in
    let now = settled (length ls + 1) (pair_said_in ls) line both (lines_divided ls both less.0 is) is less.1 in
    let next = said_next ls line in
    let there_same : there_config (pair_said_in (ls ++ line ∷ [])) ≡ there_config (pair_said_in ls) =
    ap there_config next ∙ ap (λ (first : Option Draft). (unwrap_or first at_first).config) now.before in
    let back_same : back_config (pair_said_in (ls ++ line ∷ [])) ≡ back_config (pair_said_in ls) =
    ap back_config next ∙ ap (λ (d : Draft). d.config) now.settings in
    let over = said_over (ls ++ line ∷ []) now.both fine few (ap (λ (s : PairSaid). s.live) next ∙ now.begun) in
    let were : Config = there_config (pair_said_in (ls ++ line ∷ [])) in
    let there : Config = there_config (pair_said_in ls) in
    let back : Config = back_config (pair_said_in ls) in
    let said : List PairSaying = pair_sayings (ls ++ line ∷ []) in
    record {
      network = subst (λ (c : Config). IsPairNetwork c back) there_same
          (subst (λ (c : Config). IsPairNetwork were c) back_same over.network);
      well = subst (λ (c : Config). IsPairSaid c back said) there_same
          (subst (λ (c : Config). IsPairSaid were c said) back_same over.well);
      there_is = there_same;
      back_is = back_same;
    }

answered_over : (asked : Asked) (there back : Config) (all : List (List ℕ)) (said : List PairSaying) →
    IsSaidOver there back all →
    pair_answered asked (scripts_of_live all).there (scripts_of_live all).back said
    ≡ pair_answered asked (script_on there There (pair_sayings all)) (script_on back Back (pair_sayings all)) said
answered_over asked there back all said over =
    ap₂ (λ (one other : Config). pair_answered asked (script_on one There (pair_sayings all))
    (script_on other Back (pair_sayings all)) said) over.there_is over.back_is

-- ---- what was answered so far
none_answered : (asked : Asked) (one other a b : Script) (said : List PairSaying) → said ≡ [] →
    pair_answered asked one other said ≡ pair_answered asked a b said
unfolding pair_answers_from
none_answered asked one other a b said none =
    ap (pair_answered asked one other) none ∙ sym (ap (pair_answered asked a b) none)

abbrev answered_with : Asked → List (List ℕ) → List PairSaying → List ℕ
answered_with asked all said = pair_answered asked (scripts_of_live all).there (scripts_of_live all).back said

so_far : (asked : Asked) (ls : List (List ℕ)) (line : List ℕ) (live : Option BothLive) →
    AreFine nothing_said (ls ++ line ∷ []) → length (ls ++ line ∷ []) ≤ longest_input → (pair_said_in ls).live ≡ live →
    answered_with asked (ls ++ line ∷ []) (pair_sayings ls) ≡ lines_answered asked ls
so_far asked ls line None fine few is =
    let less : length ls ≤ longest_input = omega (arith, few, length-append ls (line ∷ [])) in
    let all = scripts_of_live (ls ++ line ∷ []) in
    none_answered asked all.there all.back (scripts_of_live ls).there (scripts_of_live ls).back (pair_sayings ls)
    (subst (AgreesWith (pair_said_in ls) (pair_sayings ls)) is (lines_agree ls (less_fine ls line fine).0 less))
so_far asked ls line (Some both) fine few is =
    let less : length ls ≤ longest_input = omega (arith, few, length-append ls (line ∷ [])) in
    let there : Config = there_config (pair_said_in ls) in
    let back : Config = back_config (pair_said_in ls) in
    let said : List PairSaying = pair_sayings ls in
    let before = said_over ls both (less_fine ls line fine).0 less is in
    let behind = said_more ls line both fine few is in
    let next = sayings_next ls line in
    answered_over asked there back (ls ++ line ∷ []) said behind
    ∙ ap (λ (all : List PairSaying). pair_answered asked (script_on there There all) (script_on back Back all) said)
    next
    ∙ answered_before asked there back said (line_pair_saying line) before.network
    (subst (IsPairSaid there back) next behind.well)

answered_line : (asked : Asked) (ls : List (List ℕ)) (line : List ℕ) → AreFine nothing_said (ls ++ line ∷ []) →
    length (ls ++ line ∷ []) ≤ longest_input →
    lines_answered asked ls ++ line_answered asked ls line ≡ lines_answered asked (ls ++ line ∷ [])
answered_line asked ls line fine few =
    let all = scripts_of_live (ls ++ line ∷ []) in
    ap (λ (text : List ℕ). text ++ line_answered asked ls line)
    (sym (so_far asked ls line (pair_said_in ls).live fine few refl))
    ∙ sym (answered_more asked all.there all.back (pair_sayings ls) (line_pair_saying line))
    ∙ ap (pair_answered asked all.there all.back) (sym (sayings_next ls line))

-- ---- and to more lines by the answers to these
abbrev pub Grows : Asked → List (List ℕ) → List (List ℕ) → Type 0
Grows asked ls all = (rest : List ℕ) × (lines_answered asked all ≡ lines_answered asked ls ++ rest)

pub answered_grows : (asked : Asked) (ls more : List (List ℕ)) → AreFine nothing_said (ls ++ more) →
    length (ls ++ more) ≤ longest_input → Grows asked ls (ls ++ more)
answered_grows asked ls [] fine few =
    subst (Grows asked ls) (sym (append-nil ls)) ([], sym (append-nil (lines_answered asked ls)))
answered_grows asked ls (line ∷ more) fine few =
    let same : (ls ++ line ∷ []) ++ more ≡ ls ++ line ∷ more = append_assoc ls (line ∷ []) more in
    let later : AreFine nothing_said ((ls ++ line ∷ []) ++ more) = subst (AreFine nothing_said) (sym same) fine in
    let size = length-append (ls ++ line ∷ []) more in
    let all : length ((ls ++ line ∷ []) ++ more) ≤ longest_input = omega (arith, few, ap length same) in
    let since : List ℕ = line_answered asked ls line in
    let next = answered_line asked ls line (front_fine (ls ++ line ∷ []) more later) (omega (arith, all, size)) in
    let (rest, is) = answered_grows asked (ls ++ line ∷ []) more later all in
    subst (Grows asked ls) same (
      since ++ rest,
      is ∙ ap (λ (text : List ℕ). text ++ rest) (sym next) ∙ append_assoc (lines_answered asked ls) since rest,
    )

-- ---- Over the course of a conversation: no line that is replied to is faulty, and what is said to all so far are the
-- answers to what they say.
-- ---- how far a conversation has come
pub record IsSpoken (asked : Asked) (heard : Heard) : Type 0 where
  pub dialogue : heard.dialogue ≡ pair_dialogue asked
  pub fine : AreFine nothing_said heard.lines
  pub few : length heard.lines ≤ longest_input
  pub said : heard.said ≡ lines_answered asked heard.lines

pub nothing_spoken : (asked : Asked) → IsSpoken asked (nothing_heard (pair_dialogue asked))
unfolding pair_answers_from
nothing_spoken tells = record { dialogue = refl; fine = nothing_fine; few = omega arith; said = refl }

-- ---- a reply
record IsReplied (found : Option PairWrong) (given text : List ℕ) : Type 0 where
  none : found ≡ None
  is : given ≡ text

replied : (n : ℕ) (found : Option PairWrong) (given text : List ℕ) → reply_by (note_at n found) given ≡ Ok text →
    IsReplied found given text
replied n None given text is = record { none = refl; is = cc }
replied n (Some wrong) given text is = absurd cc

pub spoken_more : (asked : Asked) → StandsByLines (IsSpoken asked)
spoken_more asked heard line text spoken left is =
    let ls : List (List ℕ) = heard.lines in
    let reply : (pair_dialogue asked).reply ls line ≡ Ok text =
    sym (ap (λ (d : Dialogue). d.reply ls line) spoken.dialogue) ∙ is in
    let parts = replied (length ls + 1) (pair_line_fault (pair_said_in ls) (words line)) (line_answered asked ls line)
    text reply in
    let fine = more_fine ls line spoken.fine parts.none in
    let few : length (ls ++ line ∷ []) ≤ longest_input = omega (arith, left, length-append ls (line ∷ [])) in
    record {
      dialogue = spoken.dialogue;
      fine = fine;
      few = few;
      said = ap₂ (λ (x y : List ℕ). x ++ y) spoken.said (sym parts.is) ∙ answered_line asked ls line fine few;
    }

pub course_spoken : (asked : Asked) (octets : List ℕ) →
    IsSpoken asked (course_of octets (nothing_heard (pair_dialogue asked))).heard
course_spoken asked octets =
    (course_heard_all (IsSpoken asked) (spoken_more asked) octets (nothing_heard (pair_dialogue asked))
    (nothing_spoken asked)).stands

-- ---- Of each way of the two scripts of lines `pair` writes what the answers tell, and maybe more.
pub walk_of : (ls : List (List ℕ)) → length ls ≤ longest_input → AreFine nothing_said ls →
    pair_opening_fault (pair_said_in ls) ≡ None → IsPairWalkOf ls
walk_of ls few fine whole =
    let s : PairSaid = pair_said_in ls in
    let there : Config = there_config s in
    let back : Config = back_config s in
    let said : List PairSaying = pair_sayings ls in
    let all = all_said ls fine few whole in
    record {
      pair = lines_pair there back said all.network all.well;
      writes = way_walk there back said all.network all.well;
      headline = way_headline there back said all.network all.well;
    }

-- ---- What a conversation is worth that comes to its end.
-- a parting that was said
record HasParted (heard : Heard) (reply : Reply) : Type 0 where
  text : List ℕ
  is : reply ≡ Ok text
  said : (parting heard reply).text ≡ heard.said ++ text

has_parted : (heard : Heard) (reply : Reply) → (parting heard reply).end ≡ None → HasParted heard reply
has_parted heard (Ok text) none = record { text = text; is = refl; said = refl }
has_parted heard (Err told) none = absurd cc

headline_at : (asked : Asked) (text : List ℕ) (now : Heard) → IsSpoken asked now → now.lines ≡ lines text →
    (parting now (last_reply now)).end ≡ None → IsLivePairHeadline asked text (parting now (last_reply now)).text
headline_at asked text now spoken are none =
    let parted = has_parted now (last_reply now) none in
    let last : (pair_dialogue asked).last now.lines ≡ Ok parted.text =
    sym (ap (λ (d : Dialogue). d.last now.lines) spoken.dialogue) ∙ parted.is in
    let whole = replied (length now.lines + 1) (pair_opening_fault (pair_said_in now.lines)) (lines_last now.lines)
    parted.text last in
    record {
      answers = parted.said ∙ ap₂ (λ (x y : List ℕ). x ++ y) spoken.said (sym whole.is)
          ∙ ap (λ (ls : List (List ℕ)). lines_answered asked ls ++ lines_last ls) are;
      walk = subst IsPairWalkOf are (walk_of now.lines spoken.few spoken.fine whole.none);
    }

pub pair_headline : (asked : Asked) (text : List ℕ) → ((talk_of (pair_dialogue asked)).in_all text).end ≡ None →
    IsLivePairHeadline asked text ((talk_of (pair_dialogue asked)).in_all text).text
pair_headline asked text none =
    let heard : Heard = nothing_heard (pair_dialogue asked) in
    let parted = course_parted (IsSpoken asked) (spoken_more asked) text heard (nothing_spoken asked) none in
    subst (λ (is : TalkSaid). IsLivePairHeadline asked text is.text) (sym parted.says)
    (headline_at asked text parted.now parted.stands parted.lines
    (sym (ap (λ (is : TalkSaid). is.end) parted.says) ∙ none))
