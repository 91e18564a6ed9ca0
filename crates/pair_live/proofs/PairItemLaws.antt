-- An item that is said to a pair (IsPairAnswered) is the next one of its way, and is refused or not.
use Rattle.std.proofs.Common.{◌≡◌, ℕ, ◌+◌, ◌^◌, ◌<◌, List, [], ◌∷◌, ◌++◌, length, slice_index_or, map, Option, Some}
use Rattle.std.proofs.Common.{None, refl, sym, ◌∙◌, ap, subst, append-nil, arith, length-append}
use Rattle.law_model.specs.Common.{Counts}
use Rattle.law_model.specs.declared.item_refusals.Refusal.{Refusal}
use Rattle.law_model.specs.declared.script_types.Config.{Config}
use Rattle.law_model.specs.declared.script_types.ItemKind.{ItemKind}
use Rattle.law_model.specs.declared.script_types.ItemKind.TheVariants.{Frame, Add, Remove}
use Rattle.law_model.specs.declared.script_types.Script.{Script}
use Rattle.law_walk.specs.Common.{is_client, refusal_at, walk_plan}
use Rattle.law_pair.specs.Common.{PairCounts, counts_on, land_item, landed, pair_plan, pair_step, with_counts}
use Rattle.law_pair.specs.declared.pair_events.Way.{Way}
use Rattle.law_pair.specs.declared.pair_events.Way.TheVariants.{There, Back}
use Rattle.law_pair.specs.declared.pair_events.PairEvent.TheVariants.{Item as Lands}
use Rattle.law_live.specs.Common.{HasLater, IsPairSaid, Live, PairSaying, config_on, course_at, item_at, lands}
use Rattle.law_live.specs.Common.{lands_on, leg_on, live_after, next_item, pair_answers_text, pair_counts}
use Rattle.law_live.specs.Common.{refused_answer, refused_way_text, said_on, script_on, waiting_at, way_told}
use Rattle.law_live.specs.Common.{windows_by}
use Rattle.law_live.proofs.BothWaysCountLaws.{way-lands}
use Rattle.law_live.proofs.BothWaysTurnLaws.{said-next}
use Rattle.law_live.proofs.ConversationCountAndScriptLaws.{Stands, landed_by}
use Rattle.law_live.proofs.WellSaidLegAndWindowLaws.{said-sound}
use Rattle.walk_engine.specs.walk_core.Landing.{landing_of}
use Rattle.walk_engine.specs.walk_core.WalkAfterEvent.{refusal_in_event}
use Rattle.walk_live.proofs.SaidItemAndFailureLaws.{IsNext, next-due, refusal-is}
use Rattle.walk_live.specs.declared.asked.Asked.{Asked}
use Rattle.pair_engine.specs.LivePairs.{GoesOn, LandsNext, PairLives, PairWalking, SameWindows, due_as}
use Rattle.pair_engine.specs.LivePairs.{walking_counts, way_beside}
use Rattle.pair_live.specs.PairAnswered.{ArePairOf, CountsOn, IsPairAnswered, live_said_on, numbers_on}
use Rattle.pair_live.specs.PairReplies.{pair_answer_to, pair_telling}
use Rattle.pair_live.specs.declared.answered_pair.AnsweredPair.{AnsweredPair}
use Rattle.pair_live.specs.declared.answered_pair.WayNumbers.{WayNumbers}
use Rattle.pair_live.proofs.LegStandLaws.{stands-next, stands-number}
use Rattle.pair_live.proofs.PairStandLaws.{answer-then, counts-then, each-way, fewer, lands-beside, lands-own}
use Rattle.pair_live.proofs.PairStandLaws.{later-on, live-beside, live-own, network-on, own-pair, stands-on}
use Rattle.pair_live.proofs.PairStandLaws.{walks-pair}

-- ---- what it leaves of the counts
landed-as : (kind : ItemKind) (s : Counts) → landed_by kind s ≡ landed (due_as kind 0) s
landed-as (Frame octets) s = refl
landed-as (Add line) s = refl
landed-as (Remove line) s = refl

lands-then : (one other : Script) (s : PairCounts) (kind : ItemKind) (of : Way) →
    (land_item (walk_plan (leg_on one other of)) (counts_on s of)).counts ≡ landed_by kind (counts_on s of) →
    (pair_step (pair_plan one other) s (Lands of)).counts ≡ with_counts of (landed (due_as kind 0) (counts_on s of)) s
lands-then one other s kind There landing =
    ap (λ c. with_counts There c s) (landing ∙ landed-as kind s.there)
lands-then one other s kind Back landing =
    ap (λ c. with_counts Back c s) (landing ∙ landed-as kind s.back)

pub counted-still : (of : Way) (was now : AnsweredPair) (pair : PairWalking) → CountsOn of was now →
    CountsOn of was (record now { pair = pair })
counted-still There was now pair counted =
    record { own = counted.own; beside = counted.beside; tells = counted.tells }
counted-still Back was now pair counted =
    record { own = counted.own; beside = counted.beside; tells = counted.tells }

module _ (pair : AnsweredPair) (asked : Asked) (there back : Config) (said : List PairSaying)
    (is : IsPairAnswered pair asked there back said) (of : Way) (kind : ItemKind)
    (well : IsPairSaid there back (said ++ lands_on of kind ∷ []))
  where
    abbrev all : List PairSaying
    all = said ++ lands_on of kind ∷ []

    abbrev one_all : Script
    one_all = script_on there There all

    abbrev other_all : Script
    other_all = script_on back Back all

    land-own : ArePairOf there back all one_all other_all
    land-own = own-pair there back all is.network well

    land-live : live_said_on there back of all ≡ live_after (live_said_on there back of said) (lands kind)
    land-live = live-own (config_on there back of) of said (lands_on of kind) (lands kind) (lands-own of kind)

    land-beside : live_said_on there back (way_beside of) all ≡ live_said_on there back (way_beside of) said
    land-beside =
        live-beside (config_on there back (way_beside of)) (way_beside of) said (lands_on of kind) (lands-beside of
        kind)

    module _ (one other : Script) (are : ArePairOf there back all one other) where
      land-less : ArePairOf there back said one other
      land-less = fewer there back said (lands_on of kind ∷ []) one other well are

      pub land-lives : PairLives one other pair.pair
      land-lives = is.walks.lives one other land-less

      land-counts : walking_counts pair.pair ≡ pair_counts one other said
      land-counts = is.walks.counts one other land-less

      land-stands : Stands (live_said_on there back of said) (counts_on (pair_counts one other said) of)
      land-stands = stands-on there back said one other land-less is.well of

      land-next : IsNext (leg_on one other of) (counts_on (pair_counts one other said) of) kind
      land-next =
          stands-next (leg_on one other of) (live_said_on there back of said)
          (counts_on (pair_counts one other said) of)
          land-stands (later-on there back said one other land-less of) kind
          (said-next one other are.pair there back said of kind well are.agrees)

      land-step : (pair_step (pair_plan one other) (pair_counts one other said) (Lands of)).counts
          ≡ with_counts of (landed (due_as kind 0) (counts_on (pair_counts one other said) of))
          (pair_counts one other said)
      land-step =
          lands-then one other (pair_counts one other said) kind of
          (way-lands (leg_on one other of) (live_said_on there back of said)
          (counts_on (pair_counts one other said) of) kind
          land-stands
          (subst (λ (l : Live). HasLater l (leg_on one other of).items) land-live
          (later-on there back all one other are of)))

      pub land-lands : LandsNext one other of (walking_counts pair.pair) kind
      land-lands =
          subst (λ s. LandsNext one other of s kind) (sym land-counts)
          (record {
            due = next-due (leg_on one other of) (counts_on (pair_counts one other said) of) kind land-next;
            lands = land-step;
          })

      land-refusal : (result : Option Refusal) →
          result ≡ refusal_in_event (leg_on one other of) (counts_on (walking_counts pair.pair) of)
          (landing_of (is_client kind)) →
          refusal_at (leg_on one other of) (next_item (counts_on (pair_counts one other said) of) kind) ≡ result
      land-refusal result refused =
          sym (refused
          ∙ ap (λ s. refusal_in_event (leg_on one other of) (counts_on s of) (landing_of (is_client kind))) land-counts
          ∙ refusal-is (leg_on one other of) (counts_on (pair_counts one other said) of) kind land-next)

      land-number : (numbers_on pair of).items
          ≡ (counts_on (pair_counts one other said) of).frames + (counts_on (pair_counts one other said) of).commands
      land-number =
          is.items of
          ∙ sym (stands-number (leg_on one other of) (live_said_on there back of said)
          (counts_on (pair_counts one other said) of) land-stands)

    -- the number of items can be counted
    land-size : length (live_said_on there back of all).items ≡ (numbers_on pair of).items + 1
    land-size =
        let live : Live = live_said_on there back of said in
        let whole = ap (λ (l : Live). length l.items) land-live in
        let sum = length-append live.items (item_at live.passed kind ∷ []) in
        let items = is.items of in
        omega (arith, whole, sum, items)

    pub land-few : (numbers_on pair of).items + 1 < 2 ^ 32
    land-few =
        let few = (said-sound (config_on there back of) (said_on of all) (network-on there back is.network of)
        (well of)).few in
        let size = land-size in
        omega (arith, few, size)

    -- ---- it has landed
    abbrev Goes : PairWalking → PairWalking → Type 0
    Goes was now = (one other : Script) → PairLives one other was → LandsNext one other of (walking_counts was) kind →
        GoesOn one other (pair_step (pair_plan one other) (walking_counts was) (Lands of)).counts now

    pub land-answered : (was : PairWalking) (now : AnsweredPair) → was ≡ pair.pair → CountsOn of pair now →
        Goes was now.pair → SameWindows was now.pair → IsPairAnswered now asked there back all
    land-answered was now kept counted goes' same' =
        let goes = subst (λ p. Goes p now.pair) kept goes' in
        let same = subst (λ p. SameWindows p now.pair) kept same' in
        let passed : (way : Way) → (live_said_on there back way all).passed
        ≡ (live_said_on there back way said).passed =
        each-way (λ way. (live_said_on there back way all).passed ≡ (live_said_on there back way said).passed) of
        (ap (λ (l : Live). l.passed) land-live) (ap (λ (l : Live). l.passed) land-beside) in
        let course : (way : Way) (m : ℕ) → course_at (live_said_on there back way all) m
        ≡ course_at (live_said_on there back way said) m =
        each-way (λ way. (m : ℕ) → course_at (live_said_on there back way all) m
        ≡ course_at (live_said_on there back way said) m) of
        (λ m. ap (λ (l : Live). course_at l m) land-live) (λ m. ap (λ (l : Live). course_at l m) land-beside) in
        record {
          network = is.network;
          well = well;
          walks = walks-pair there back all now.pair is.network well
              (λ one other are. (goes one other (land-lives one other are) (land-lands one other are)).lives)
              (λ one other are.
              (goes one other (land-lives one other are) (land-lands one other are)).counts
              ∙ ap (λ s. (pair_step (pair_plan one other) s (Lands of)).counts) (land-counts one other are)
              ∙ sym (counts-then one other said (lands_on of kind)))
              (λ way m low.
              ap (λ l. slice_index_or l m []) (same way) ∙ is.walks.windows way m low
              ∙ sym (ap (windows_by (config_on there back way).ticks) (course way m)));
          lines = each-way (λ way. (numbers_on now way).lines ≡ (config_on there back way).lines) of
              (ap (λ (n : WayNumbers). n.lines) counted.own ∙ is.lines of)
              (ap (λ (n : WayNumbers). n.lines) counted.beside ∙ is.lines (way_beside of));
          items = each-way (λ way. (numbers_on now way).items ≡ length (live_said_on there back way all).items) of
              (ap (λ (n : WayNumbers). n.items) counted.own ∙ sym land-size)
              (ap (λ (n : WayNumbers). n.items) counted.beside ∙ is.items (way_beside of)
              ∙ sym (ap (λ (l : Live). length l.items) land-beside));
          waiting = each-way (λ way. (one other : Script) → ArePairOf there back all one other →
              (numbers_on now way).waiting
              ≡ waiting_at (leg_on one other way) (live_said_on there back way all).passed) of
              (λ one other are.
              ap (λ (n : WayNumbers). n.waiting) counted.own ∙ is.waiting of one other (land-less one other are)
              ∙ sym (ap (waiting_at (leg_on one other of)) (passed of)))
              (λ one other are.
              ap (λ (n : WayNumbers). n.waiting) counted.beside
              ∙ is.waiting (way_beside of) one other (land-less one other are)
              ∙ sym (ap (waiting_at (leg_on one other (way_beside of))) (passed (way_beside of))));
          tells = counted.tells ∙ is.tells;
        }

    -- ---- what is answered
    abbrev Refused : PairWalking → Option Refusal → Type 0
    Refused was result = (one other : Script) → PairLives one other was →
        LandsNext one other of (walking_counts was) kind →
        result ≡ refusal_in_event (leg_on one other of) (counts_on (walking_counts was) of)
        (landing_of (is_client kind))

    own-refusal : (result : Option Refusal) → Refused pair.pair result →
        refusal_at (leg_on one_all other_all of) (next_item (counts_on (pair_counts one_all other_all said) of) kind)
        ≡ result
    own-refusal result refused =
        land-refusal one_all other_all land-own result
        (refused one_all other_all (land-lives one_all other_all land-own) (land-lands one_all other_all land-own))

    own-answer : (result : Option Refusal) → Refused pair.pair result →
        pair_answer_to asked there back said (lands_on of kind)
        ≡ pair_answers_text (pair_telling asked one_all other_all)
        (map (way_told of) (refused_answer (numbers_on pair of).items result))
    own-answer result refused =
        let s : Counts = counts_on (pair_counts one_all other_all said) of in
        ap (pair_answers_text (pair_telling asked one_all other_all))
        (answer-then one_all other_all (pair_counts one_all other_all said) (lands_on of kind))
        ∙ ap (λ why. pair_answers_text (pair_telling asked one_all other_all)
        (map (way_told of) (refused_answer (s.frames + s.commands) why))) (own-refusal result refused)
        ∙ ap (λ n. pair_answers_text (pair_telling asked one_all other_all) (map (way_told of) (refused_answer n
        result)))
        (sym (land-number one_all other_all land-own))

    pub land-refused : (was : PairWalking) (why : Refusal) → was ≡ pair.pair → Refused was (Some why) →
        refused_way_text of (numbers_on pair of).items why ≡ pair_answer_to asked there back said (lands_on of kind)
    land-refused was why kept refused =
        sym (own-answer (Some why) (subst (λ p. Refused p (Some why)) kept refused)
        ∙ append-nil (refused_way_text of (numbers_on pair of).items why))

    pub land-accepted : (was : PairWalking) → was ≡ pair.pair → Refused was None →
        pair_answer_to asked there back said (lands_on of kind) ≡ []
    land-accepted was kept refused = own-answer None (subst (λ p. Refused p None) kept refused)
