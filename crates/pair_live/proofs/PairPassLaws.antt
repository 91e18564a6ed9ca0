-- Ticks that pass in both ways of a pair that has answered what was said (IsPairAnswered).
use Rattle.std.proofs.Common.{◌≡◌, ℕ, ◌+◌, ◌<◌, ◌≤◌, List, [], ◌∷◌, ◌++◌, length, slice_index_or, sym, ◌∙◌, ap, ap₂}
use Rattle.std.proofs.Common.{subst, append-nil, arith}
use Rattle.std.proofs.lemmas.Grind.{flat_map-append}
use Rattle.law_model.specs.Common.{leg_of}
use Rattle.law_model.specs.declared.script_types.Config.{Config}
use Rattle.law_model.specs.declared.script_types.Script.{Script}
use Rattle.law_pair.specs.Common.{PairCounts, counts_on, pair_plan}
use Rattle.law_pair.specs.declared.pair_events.Way.{Way}
use Rattle.law_pair.specs.declared.pair_events.Way.TheVariants.{There, Back}
use Rattle.law_live.specs.Common.{Agrees, HasLater, IsPairSaid, Live, PairSaying, both_answer, both_end, both_pass}
use Rattle.law_live.specs.Common.{both_passed, both_said, config_on, course_at, leg_on, live_after, live_of, now_text}
use Rattle.law_live.specs.Common.{pair_answer_text, pair_answers_text, pair_counts, passes, said_on, script_on}
use Rattle.law_live.specs.Common.{turns_answers, turns_for, waiting_at, IsPass, windows_by}
use Rattle.law_live.proofs.BothWaysCountLaws.{pair-passes}
use Rattle.law_live.proofs.BothWaysTurnLaws.{pass-left}
use Rattle.law_live.proofs.ConversationCountAndScriptLaws.{Stands}
use Rattle.walk_engine.specs.walk_core.WayParts.{AgreesAt, waiting_in}
use Rattle.walk_live.proofs.AnsweredWalkAndSayingLaws.{agrees-passing, can-one}
use Rattle.walk_live.specs.Answered.{IsLegOf}
use Rattle.walk_live.specs.declared.asked.Asked.{Asked}
use Rattle.pair_engine.specs.LivePairs.{CanTurn, PairLives, PairWalking, SameWindows, walking_counts, windows_of_way}
use Rattle.pair_live.specs.PairAnswered.{ArePairOf, IsPairAnswered, WalksAsPair, live_said_on, numbers_on}
use Rattle.pair_live.specs.PairPassing.{CanPassBoth, IsOtherPair, turns_text}
use Rattle.pair_live.specs.PairReplies.{pair_answer_to, pair_telling, queue_lines_on}
use Rattle.pair_live.specs.declared.answered_pair.AnsweredPair.{AnsweredPair}
use Rattle.pair_live.specs.declared.answered_pair.WayNumbers.{WayNumbers}
use Rattle.pair_live.proofs.LegStandLaws.{stands-wait}
use Rattle.pair_live.proofs.PairRoundLaws.{BothPassIn, both-over, free-at, pass_end, rest_text}
use Rattle.pair_live.proofs.PairSayingLaws.{now-ticks}
use Rattle.pair_live.proofs.PairStandLaws.{answer-then, by-way, counts-then, fewer, later-on, lives-together}
use Rattle.pair_live.proofs.PairStandLaws.{live-own, own-pair, pass-own, said-own, stands-on, walks-pair, well-own}

-- ---- the text of a pass
pub pass-parts : (asked : Asked) (one other : Script) (s : PairCounts) (k ticks : ℕ) →
    ticks ≡ (both_said (pair_plan one other) s (both_pass k)).there.ticks →
    pair_answers_text (pair_telling asked one other) (turns_answers (turns_for k (pair_plan one other) s) one other s)
    ++ (queue_lines_on asked There (waiting_at (leg_on one other There) s.there.ticks)
    (waiting_at (leg_on one other There) (both_said (pair_plan one other) s (both_pass k)).there.ticks)
    ++ (queue_lines_on asked Back (waiting_at (leg_on one other Back) s.back.ticks)
    (waiting_at (leg_on one other Back) (both_said (pair_plan one other) s (both_pass k)).back.ticks)
    ++ now_text ticks))
    ≡ pair_answers_text (pair_telling asked one other) (both_answer one other s (both_pass k))
pass-parts asked one other s k ticks is =
    let tells = pair_telling asked one other in
    let next : PairCounts = both_said (pair_plan one other) s (both_pass k) in
    let turns = pair_answers_text tells (turns_answers (turns_for k (pair_plan one other) s) one other s) in
    let first : List ℕ = queue_lines_on asked There (waiting_at (leg_on one other There) s.there.ticks)
    (waiting_at (leg_on one other There) next.there.ticks) in
    let second : List ℕ = queue_lines_on asked Back (waiting_at (leg_on one other Back) s.back.ticks)
    (waiting_at (leg_on one other Back) next.back.ticks) in
    ap (λ n. turns ++ (first ++ (second ++ now_text n))) is
    ∙ sym (flat_map-append (pair_answer_text tells)
    (turns_answers (turns_for k (pair_plan one other) s) one other s) (both_end one other s next)
    ∙ ap (λ l. turns ++ (first ++ (second ++ l))) (append-nil (now_text next.there.ticks)))

module _ (pair : AnsweredPair) (asked : Asked) (there back : Config) (said : List PairSaying)
    (is : IsPairAnswered pair asked there back said) (k : ℕ) (well : IsPairSaid there back (said ++ both_pass k ∷ []))
  where
    abbrev all : List PairSaying
    all = said ++ both_pass k ∷ []

    abbrev one_all : Script
    one_all = script_on there There all

    abbrev other_all : Script
    other_all = script_on back Back all

    can-pass-on : (way : Way) → IsPass (config_on there back way).ticks (live_said_on there back way said) k
    can-pass-on way =
        can-one (config_on there back way) (said_on way said) (passes k)
        (well-own (config_on there back way) way said (both_pass k) (passes k) (pass-own way k) (well way))

    pub pass-few : both_passed there said + k ≤ there.ticks
    pass-few = (can-pass-on There).left

    pub pass-are : ArePairOf there back all one_all other_all
    pass-are = own-pair there back all is.network well

    pass-live : (way : Way) → live_said_on there back way all ≡ live_after (live_said_on there back way said) (passes k)
    pass-live way = live-own (config_on there back way) way said (both_pass k) (passes k) (pass-own way k)

    pub can-pass-both : (until : ℕ) → until ≡ (walking_counts pair.pair).there.ticks + k →
        CanPassBoth pair asked there back said k until
    can-pass-both until ends = record {
      is = is;
      well = well;
      ends = ends ∙ ap (λ n. n + k) (now-ticks pair asked there back said is There);
    }

    module _ (one other : Script) (are : ArePairOf there back all one other) where
      pub pass-less : ArePairOf there back said one other
      pass-less = fewer there back said (both_pass k ∷ []) one other well are

      pass-stands : (way : Way) → Stands (live_said_on there back way said) (counts_on (pair_counts one other said) way)
      pass-stands = stands-on there back said one other pass-less is.well

      pass-stands-all : (way : Way) →
          Stands (live_said_on there back way all) (counts_on (pair_counts one other all) way)
      pass-stands-all = stands-on there back all one other are well

      -- of the containers that are made then its lines say what those of each pair do
      leg-there : IsLegOf there (said_on There said ++ passes k ∷ []) (leg_of one)
      leg-there = record {
        sound = are.pair.there_way.valid.sound;
        agrees = subst (λ said. Agrees there (live_of there said) (leg_of one))
            (said-own there There said (both_pass k) (passes k) (pass-own There k)) are.agrees.there_agrees;
      }

      leg-back : IsLegOf back (said_on Back said ++ passes k ∷ []) (leg_of other)
      leg-back = record {
        sound = are.pair.back_way.valid.sound;
        agrees = subst (λ said. Agrees back (live_of back said) (leg_of other))
            (said-own back Back said (both_pass k) (passes k) (pass-own Back k)) are.agrees.back_agrees;
      }

      agrees-then : (now : PairWalking) → SameWindows pair.pair now → (way : Way) (t : ℕ) →
          t < (live_said_on there back way said).passed + k → AgreesAt (leg_on one other way) t (windows_of_way now way)
      agrees-then now same There t low =
          agrees-passing there (said_on There said) k t (leg_of one) (windows_of_way now There) is.network.there_network
          (well-own there There said (both_pass k) (passes k) (pass-own There k) (well There)) leg-there
          (λ m few. ap (λ l. slice_index_or l m []) (same There) ∙ is.walks.windows There m few) low
      agrees-then now same Back t low =
          agrees-passing back (said_on Back said) k t (leg_of other) (windows_of_way now Back) is.network.back_network
          (well-own back Back said (both_pass k) (passes k) (pass-own Back k) (well Back)) leg-back
          (λ m few. ap (λ l. slice_index_or l m []) (same Back) ∙ is.walks.windows Back m few) low

      passed-as : (way : Way) → (live_said_on there back way said).passed ≡ both_passed there said
      passed-as way =
          sym (now-ticks pair asked there back said is way)
          ∙ lives-together one other pair.pair (is.walks.lives one other pass-less) way
          ∙ now-ticks pair asked there back said is There

      module _ (until : ℕ) (ends : until ≡ both_passed there said + k) (now : PairWalking)
          (passing : BothPassIn one other (pair_counts one other said) until now)
        where
          -- a round can be made
          pub can-turn : SameWindows pair.pair now → (walking_counts now).there.ticks < until → CanTurn one other now
          can-turn same low = record {
            lives = passing.lives;
            free = free-at there back said k one other is.well well are until ends (walking_counts now) passing.turns
                passing.are low (lives-together one other now passing.lives Back);
            agrees = λ way.
                let together = lives-together one other now passing.lives way in
                let passed = passed-as way in
                agrees-then now same way (counts_on (walking_counts now) way).ticks
                (omega (arith, together, passed, low, ends));
          }

          pub pass-total : until ≤ now.there.core.source.total
          pass-total =
              let left = pass-left one other are.pair there back said k well are.agrees in
              let total = passing.lives.there_way.stands.total in
              omega (arith, ends, left, total)

      start-ticks : (until : ℕ) → until ≡ both_passed there said + k →
          until ≡ (pair_counts one other said).there.ticks + k
      start-ticks until ends =
          let ticks = (pass-stands There).ticks in omega (arith, ends, ticks)

    -- the text that is left at first is the whole
    pub pass-rest : (until : ℕ) → until ≡ both_passed there said + k →
        rest_text asked one_all other_all until (pair_counts one_all other_all said)
        ≡ turns_text asked there back said k
    pass-rest until ends =
        ap (λ n. rest_text asked one_all other_all n (pair_counts one_all other_all said))
        (start-ticks one_all other_all pass-are until ends)

    -- when they have passed
    pub pass-walks : (until : ℕ) (now : PairWalking) → until ≡ both_passed there said + k →
        ((one other : Script) → ArePairOf there back all one other →
        BothPassIn one other (pair_counts one other said) until now) →
        SameWindows pair.pair now → until ≤ (walking_counts now).there.ticks → WalksAsPair there back all now
    pass-walks until now ends passing same over =
        walks-pair there back all now is.network well
        (λ one other are. (passing one other are).lives)
        (λ one other are.
        both-over there back said k one other is.well well are until ends now (passing one other are) over
        ∙ ap (λ n. pass_end (pair_plan one other) n (pair_counts one other said)) (start-ticks one other are until ends)
        ∙ sym (counts-then one other said (both_pass k)))
        (λ way m low.
        ap (λ l. slice_index_or l m []) (same way) ∙ is.walks.windows way m low
        ∙ sym (ap (λ (l : Live). windows_by (config_on there back way).ticks (course_at l m)) (pass-live way)))

    -- how many frames wait by then
    abbrev Waits : PairWalking → (Way → ℕ) → Type 0
    Waits now waiting = (one other : Script) → PairLives one other now → (way : Way) →
        waiting way ≡ waiting_in (leg_on one other way) (counts_on (walking_counts now) way)

    pass-waits : (now : PairWalking) (waiting : Way → ℕ) → WalksAsPair there back all now → Waits now waiting →
        (one other : Script) → ArePairOf there back all one other → (way : Way) →
        waiting way ≡ waiting_at (leg_on one other way) (counts_on (pair_counts one other all) way).ticks
    pass-waits now waiting walks waits one other are way =
        let live : Live = live_said_on there back way said in
        waits one other (walks.lives one other are) way
        ∙ ap (λ s. waiting_in (leg_on one other way) (counts_on s way)) (walks.counts one other are)
        ∙ stands-wait (leg_on one other way) live k (counts_on (pair_counts one other all) way) (can-pass-on way).some
        (pass-stands one other are way).due
        (subst (λ (l : Live). Stands l (counts_on (pair_counts one other all) way)) (pass-live way)
        (pass-stands-all one other are way))
        (subst (λ (l : Live). HasLater l (leg_on one other way).items) (pass-live way)
        (later-on there back all one other are way))

    -- it has answered
    pub pass-answered : (made now : AnsweredPair) → IsOtherPair pair made → WalksAsPair there back all made.pair →
        now ≡ record made {
          there = record made.there { waiting = now.there.waiting };
          back = record made.back { waiting = now.back.waiting };
        } →
        Waits made.pair (λ way. (numbers_on now way).waiting) → IsPairAnswered now asked there back all
    pass-answered made now same walks kept waits = record {
      network = is.network;
      well = well;
      walks = subst (WalksAsPair there back all) (sym (ap (λ (p : AnsweredPair). p.pair) kept)) walks;
      lines = by-way (λ way. (numbers_on now way).lines ≡ (config_on there back way).lines)
          (ap (λ (p : AnsweredPair). p.there.lines) kept ∙ ap (λ (n : WayNumbers). n.lines) same.there ∙ is.lines There)
          (ap (λ (p : AnsweredPair). p.back.lines) kept ∙ ap (λ (n : WayNumbers). n.lines) same.back ∙ is.lines Back);
      items = by-way (λ way. (numbers_on now way).items ≡ length (live_said_on there back way all).items)
          (ap (λ (p : AnsweredPair). p.there.items) kept ∙ ap (λ (n : WayNumbers). n.items) same.there ∙ is.items There
          ∙ sym (ap (λ (l : Live). length l.items) (pass-live There)))
          (ap (λ (p : AnsweredPair). p.back.items) kept ∙ ap (λ (n : WayNumbers). n.items) same.back ∙ is.items Back
          ∙ sym (ap (λ (l : Live). length l.items) (pass-live Back)));
      waiting = λ way one other are.
          pass-waits made.pair (λ way. (numbers_on now way).waiting) walks waits one other are way
          ∙ ap (waiting_at (leg_on one other way)) (pass-stands-all one other are way).ticks;
      tells = ap (λ (p : AnsweredPair). p.tells) kept ∙ same.tells ∙ is.tells;
    }

    -- ---- what is told behind the rounds
    abbrev pub end_text : ℕ → List ℕ
    end_text until =
        let s = pair_counts one_all other_all said in
        let next = both_said (pair_plan one_all other_all) s (both_pass k) in
        queue_lines_on asked There (waiting_at (leg_on one_all other_all There) s.there.ticks)
        (waiting_at (leg_on one_all other_all There) next.there.ticks)
        ++ (queue_lines_on asked Back (waiting_at (leg_on one_all other_all Back) s.back.ticks)
        (waiting_at (leg_on one_all other_all Back) next.back.ticks)
        ++ now_text until)

    pub pass-whole : (until : ℕ) → until ≡ both_passed there said + k →
        turns_text asked there back said k ++ end_text until ≡ pair_answer_to asked there back said (both_pass k)
    pass-whole until ends =
        let s : PairCounts = pair_counts one_all other_all said in
        let made = pair-passes one_all other_all pass-are.pair there back said k well pass-are.agrees in
        pass-parts asked one_all other_all s k until
        (start-ticks one_all other_all pass-are until ends ∙ sym made
        ∙ ap (λ (c : PairCounts). c.there.ticks) (counts-then one_all other_all said (both_pass k)))
        ∙ sym (ap (pair_answers_text (pair_telling asked one_all other_all))
        (answer-then one_all other_all s (both_pass k)))

    -- by what is kept
    pub pass-answer : (made now : AnsweredPair) (until : ℕ) → until ≡ both_passed there said + k →
        IsOtherPair pair made → WalksAsPair there back all made.pair →
        Waits made.pair (λ way. (numbers_on now way).waiting) →
        turns_text asked there back said k
        ++ (queue_lines_on made.tells There made.there.waiting now.there.waiting
        ++ (queue_lines_on made.tells Back made.back.waiting now.back.waiting ++ now_text until))
        ≡ pair_answer_to asked there back said (both_pass k)
    pass-answer made now until ends same walks waits =
        let s : PairCounts = pair_counts one_all other_all said in
        let rounds : List ℕ = turns_text asked there back said k in
        let less = pass-less one_all other_all pass-are in
        let tells = same.tells ∙ is.tells in
        let after : pair_counts one_all other_all all ≡ both_said (pair_plan one_all other_all) s (both_pass k) =
        counts-then one_all other_all said (both_pass k) in
        let was : (way : Way) → (numbers_on pair way).waiting
        ≡ waiting_at (leg_on one_all other_all way) (counts_on s way).ticks =
        (λ way. is.waiting way one_all other_all less
        ∙ ap (waiting_at (leg_on one_all other_all way)) (sym (pass-stands one_all other_all pass-are way).ticks)) in
        let behind : (way : Way) → (numbers_on now way).waiting
        ≡ waiting_at (leg_on one_all other_all way)
        (counts_on (both_said (pair_plan one_all other_all) s (both_pass k)) way).ticks =
        (λ way. pass-waits made.pair (λ way. (numbers_on now way).waiting) walks waits one_all other_all pass-are way
        ∙ ap (λ c. waiting_at (leg_on one_all other_all way) (counts_on c way).ticks) after) in
        ap (λ a. rounds ++ (queue_lines_on a There made.there.waiting now.there.waiting
        ++ (queue_lines_on a Back made.back.waiting now.back.waiting ++ now_text until))) tells
        ∙ ap₂ (λ a b. rounds ++ (queue_lines_on asked There a b
        ++ (queue_lines_on asked Back made.back.waiting now.back.waiting ++ now_text until)))
        (ap (λ (n : WayNumbers). n.waiting) same.there ∙ was There) (behind There)
        ∙ ap₂ (λ a b. rounds ++ (queue_lines_on asked There (waiting_at (leg_on one_all other_all There) s.there.ticks)
        (waiting_at (leg_on one_all other_all There)
        (both_said (pair_plan one_all other_all) s (both_pass k)).there.ticks)
        ++ (queue_lines_on asked Back a b ++ now_text until)))
        (ap (λ (n : WayNumbers). n.waiting) same.back ∙ was Back) (behind Back)
        ∙ pass-whole until ends
